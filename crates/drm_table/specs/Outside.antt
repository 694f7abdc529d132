-- Packets that are sent out of the tables with their buffers, and come back.
use Rattle.std.specs.Prelude.{◌≡◌, ℕ, ◌<◌, Bool, true, false, List, length, Option, Some, option_map, slice_get, Contains}
use Rattle.std.specs.Option.{option_map_or}
use Rattle.std.specs.List.{list_any}
use Rattle.drm_buffer.specs.Memory.{bytes_of}
use Rattle.drm_buffer.specs.Stored.{is_out_of, set_out}
use Rattle.drm_packet.specs.declared.Packet.{Packet}
use Rattle.drm_packet.specs.Touches.{touches}
use Rattle.drm_packet.specs.Parts.{target_of, source_of, part_effect, other_bytes}
use Rattle.drm_state.specs.declared.journal.JobRecord.{JobRecord}
use Rattle.drm_table.specs.declared.table.Table.{Table}
use Rattle.drm_state.specs.Outcomes.{must_stall, next_packet, ran_device}
use Rattle.drm_state.specs.Ring.{current_of}
use Rattle.drm_table.specs.Tables.{state_of}

-- whether a buffer of the ring's next packet is marked out in the memory
abbrev pub next_asks_out : Table → ℕ → Bool
next_asks_out t ring =
    option_map_or
    (λ f. option_map_or (λ p. list_any (is_out_of t.memory) (touches p)) (next_packet t.journal.items f) false)
    (current_of (state_of t) ring)
    false

-- a packet of the job comes back with these buffers: it is the next one of the ring, and ran on what went out
pub record ComesBack (t : Table) (ring number : ℕ) (write : Option (List ℕ)) (read : Option (List ℕ)) : Type 0 where
  pub there : ring < length t.spec.rings
  pub current : current_of (state_of t) ring ≡ Some number
  pub job : JobRecord
  pub at : slice_get t.journal.items number ≡ Some job
  pub packet : Packet
  pub next : slice_get job.job.packets job.ran ≡ Some packet
  pub runs : must_stall packet job.karma.resets ≡ false
  pub out : (b : ℕ) → Contains (touches packet) b → slice_get t.memory.out b ≡ Some true
  pub read_is : read ≡ other_bytes packet t.memory.bytes
  pub write_is : write ≡ option_map (λ target. part_effect packet (bytes_of t.memory.bytes target) read) (target_of packet)

-- it is back
abbrev pub IsBack : Table → ℕ → Table → Type 0
IsBack t number n =
    (packet : Packet) × (next_packet t.journal.items number ≡ Some packet) × (state_of n ≡ ran_device (state_of t) number packet)
    × (n.memory.out ≡ set_out (set_out t.memory.out (target_of packet) false) (source_of packet) false)
