-- The marked device that the parts stand for, and what they keep.
use Rattle.std.specs.Prelude.{◌≡◌, ℕ, ◌<◌, Bool, true, false, List, length, map, Some, option_map, slice_get, Contains}
use Rattle.drm_sched.specs.declared.parts.OutMark.{OutMark}
use Rattle.drm_sched.specs.declared.parts.Parts.{Parts}
use Rattle.drm_sched.specs.Heads.{HeadsStand}
use Rattle.drm_sched.specs.Marks.{Mark, MarkedDevice, mark_of, out_by, IsSteadyMarked}
use Rattle.drm_table.specs.Tables.{state_of, IsWhole}

abbrev pub mark_of_row : OutMark → Mark
mark_of_row o = record { fence = o.fence; packet = o.packet; write = o.write.value; read = o.read.value }

abbrev pub marked_of : Parts → MarkedDevice
marked_of d = record { state = state_of d.table; marks = map (option_map mark_of_row) d.marks.items }

-- the memory has out what the marks keep out, and nothing else
pub record HasOut (d : MarkedDevice) (out : List Bool) : Type 0 where
  pub outside : (ring : ℕ) (m : Mark) → mark_of d ring ≡ Some m → (b : ℕ)
      → Contains (out_by d.state.journal (Some m)) b → slice_get out b ≡ Some true
  pub inside : (b : ℕ) → b < length d.state.spec.buffers
      → ((ring : ℕ) (m : Mark) → mark_of d ring ≡ Some m → Contains (out_by d.state.journal (Some m)) b → ⊥)
      → slice_get out b ≡ Some false

-- the tables of a steady device with packets out
pub record IsWholeMarked (d : Parts) : Type 0 where
  pub table : IsWhole d.table
  pub steady : IsSteadyMarked (marked_of d)
  pub out : HasOut (marked_of d) d.table.memory.out

-- the heads are those of the queues
abbrev pub HasHeads : Parts → Type 0
HasHeads d = HeadsStand (state_of d.table) d.table.waits.lists d.heads
