-- What a packet does to the memory.
use Rattle.std.specs.Prelude.{ℕ, List, replicate}
use Rattle.drm_buffer.specs.Memory.{written, range_of, sums}
use Rattle.drm_packet.specs.declared.Packet.{Packet}
use Rattle.drm_packet.specs.declared.Packet.TheVariants.{Fill, Copy, Add, Stall}

-- the memory after the packet has run
abbrev pub effect : Packet → List (List ℕ) → List (List ℕ)
effect (Fill buffer offset len byte) memory = written memory buffer offset (replicate len byte)
effect (Copy source source_offset target target_offset len) memory =
    written memory target target_offset (range_of memory source source_offset len)
effect (Add source source_offset target target_offset len) memory =
    written
    memory
    target
    target_offset
    (sums (range_of memory target target_offset len) (range_of memory source source_offset len))
effect (Stall resets) memory = memory
