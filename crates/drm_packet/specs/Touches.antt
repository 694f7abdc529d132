-- Which buffers a packet reads and writes, and whether it stays within them.
use Rattle.std.specs.Prelude.{ℕ, ◌+◌, Bool, true, ◌&&◌, nat_lt, nat_le, List, [], ◌∷◌, ◌++◌, length, Contains}
use Rattle.drm_packet.specs.declared.Packet.{Packet}
use Rattle.drm_packet.specs.declared.Packet.TheVariants.{Fill, Copy, Add, Stall}
use Rattle.drm_buffer.specs.Memory.{bytes_of}

-- the buffers that a packet reads
abbrev pub reads : Packet → List ℕ
reads (Fill buffer offset len byte) = []
reads (Copy source source_offset target target_offset len) = source ∷ []
reads (Add source source_offset target target_offset len) = source ∷ target ∷ []
reads (Stall resets) = []

-- the buffers that a packet writes
abbrev pub writes : Packet → List ℕ
writes (Fill buffer offset len byte) = buffer ∷ []
writes (Copy source source_offset target target_offset len) = target ∷ []
writes (Add source source_offset target target_offset len) = target ∷ []
writes (Stall resets) = []

-- whether a range is not empty and lies within the buffer
abbrev pub is_within : List (List ℕ) → ℕ → ℕ → ℕ → Bool
is_within memory buffer offset len = nat_lt 0 len && nat_le (offset + len) (length (bytes_of memory buffer))

-- whether the ranges of a packet lie within their buffers
abbrev pub is_in_range : Packet → List (List ℕ) → Bool
is_in_range (Fill buffer offset len byte) memory = is_within memory buffer offset len
is_in_range (Copy source source_offset target target_offset len) memory =
    is_within memory source source_offset len && is_within memory target target_offset len
is_in_range (Add source source_offset target target_offset len) memory =
    is_within memory source source_offset len && is_within memory target target_offset len
is_in_range (Stall resets) memory = true

-- the buffers that a packet reads or writes
abbrev pub touches : Packet → List ℕ
touches packet = reads packet ++ writes packet

-- neither packet writes a buffer that the other touches
pub record AreApart (packet other : Packet) : Type 0 where
  pub first : (b : ℕ) → Contains (writes packet) b → Contains (touches other) b → ⊥
  pub second : (b : ℕ) → Contains (writes other) b → Contains (touches packet) b → ⊥
