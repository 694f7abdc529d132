-- A packet on the bytes of its own buffers alone, while these are out of the memory.
use Rattle.std.specs.Prelude.{◌≡◌, ℕ, ◌+◌, Bool, true, ◌&&◌, ◌==◌, nat_lt, nat_le, if◌then◌else◌, List, length, replicate, slice_range, slice_set, Option, Some, None, option_map}
use Rattle.std.specs.Option.{option_map_or}
use Rattle.drm_buffer.specs.Memory.{bytes_of, overwritten, range_sums}
use Rattle.drm_packet.specs.declared.Packet.{Packet}
use Rattle.drm_packet.specs.declared.Packet.TheVariants.{Fill, Copy, Add, Stall}
use Rattle.drm_packet.specs.Effect.{effect}

-- the buffer that a packet writes
abbrev pub target_of : Packet → Option ℕ
target_of (Fill buffer offset len byte) = Some buffer
target_of (Copy source source_offset target target_offset len) = Some target
target_of (Add source source_offset target target_offset len) = Some target
target_of (Stall resets) = None

-- the other buffer that it reads, where it reads another
abbrev pub source_of : Packet → Option ℕ
source_of (Fill buffer offset len byte) = None
source_of (Copy source source_offset target target_offset len) = if source == target then None else Some source
source_of (Add source source_offset target target_offset len) = if source == target then None else Some source
source_of (Stall resets) = None

-- the bytes that a packet reads: those of the other buffer, else its target's own
abbrev pub read_bytes : List ℕ → Option (List ℕ) → List ℕ
read_bytes own other = option_map_or (λ bytes. bytes) other own

-- what a packet leaves of its target's bytes
abbrev pub part_effect : Packet → List ℕ → Option (List ℕ) → List ℕ
part_effect (Fill buffer offset len byte) own other = overwritten own offset (replicate len byte)
part_effect (Copy source source_offset target target_offset len) own other =
    overwritten own target_offset (slice_range (read_bytes own other) source_offset (source_offset + len))
part_effect (Add source source_offset target target_offset len) own other =
    overwritten own target_offset (range_sums own (read_bytes own other) target_offset source_offset len)
part_effect (Stall resets) own other = own

-- whether a range lies within these bytes
abbrev pub lies_in : List ℕ → ℕ → ℕ → Bool
lies_in bytes offset len = nat_lt 0 len && nat_le (offset + len) (length bytes)

-- whether the ranges of a packet lie within the bytes of its buffers
abbrev pub fits_parts : Packet → List ℕ → Option (List ℕ) → Bool
fits_parts (Fill buffer offset len byte) own other = lies_in own offset len
fits_parts (Copy source source_offset target target_offset len) own other =
    lies_in (read_bytes own other) source_offset len && lies_in own target_offset len
fits_parts (Add source source_offset target target_offset len) own other =
    lies_in (read_bytes own other) source_offset len && lies_in own target_offset len
fits_parts (Stall resets) own other = true

-- the bytes of the other buffer in a memory
abbrev pub other_bytes : Packet → List (List ℕ) → Option (List ℕ)
other_bytes packet memory = option_map (bytes_of memory) (source_of packet)

-- a packet writes its target by the bytes of its own buffers, and nothing else
abbrev pub PartsMakeTheEffect : Type 0
PartsMakeTheEffect =
    (packet : Packet) (target : ℕ) (memory : List (List ℕ)) → target_of packet ≡ Some target
    → effect packet memory ≡ slice_set memory target (part_effect packet (bytes_of memory target) (other_bytes packet memory))

-- the memory after a buffer, if there is one, was put back with these bytes
abbrev pub put_bytes : List (List ℕ) → Option ℕ → Option (List ℕ) → List (List ℕ)
put_bytes memory buffer bytes = option_map_or (λ b. option_map_or (λ bs. slice_set memory b bs) bytes memory) buffer memory
