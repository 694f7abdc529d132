-- The state that a core's parts stand for, and what they keep.
use Rattle.std.specs.Global.{Box}
use Rattle.std.specs.Prelude.{◌≡◌, ℕ, ◌≤◌, ◌^◌, IsTrue, List, length, map, Option, Some, None, option_map, slice_get}
use Rattle.std.specs.Option.{option_map_or}
use Rattle.drm_resv.specs.Reservation.{WithRoom}
use Rattle.drm_state.specs.declared.plans.Plan.{Plan}
use Rattle.drm_core.specs.declared.cores.ContextRow.{ContextRow}
use Rattle.drm_core.specs.declared.cores.CoreTable.{CoreTable}
use Rattle.drm_core.specs.State.{Context, CoreState}
use Rattle.drm_core.specs.Bytes.{option_bytes}
use Rattle.drm_core.specs.Outline.{context_bytes}
use Rattle.drm_core.specs.Context.{holds_all}
use Rattle.drm_state.specs.Reservation.{usage_at}
use Rattle.drm_core.specs.Steady.{IsSteadyCore, PlansHeld, HoldersBegun, JobsHavePlace}
use Rattle.drm_types.specs.Limits.{spec_fault}
use Rattle.drm_sched.specs.Marks.{MarkedDevice, mark_of}
use Rattle.drm_state.specs.Plans.{DepsCover}

-- what lies in the box, if there is one
abbrev pub unboxed : Option (Box Plan) → Option Plan
unboxed plan = option_map (λ b. b.value) plan

-- what the context of a row has planned
abbrev pub planned_in : ContextRow → Option Plan
planned_in row = unboxed row.plan

-- the context of a row: what it has planned is its job
abbrev pub context_of_row : ContextRow → Context
context_of_row row = record { ticket = row.ticket; is_sealed = row.is_sealed; plan = option_map (λ p. p.job) (planned_in row) }

abbrev pub core_state : CoreTable → CoreState
core_state c = record {
  device = c.device.state;
  reservations = map (λ r. r.kept) c.reservations.items;
  holders = c.holders.items;
  contexts = map (option_map context_of_row) c.contexts.items;
  next_ticket = c.next_ticket;
}

-- the bytes that tell the context of a row, if it has begun
abbrev pub row_bytes : Option ContextRow → List ℕ
row_bytes row = option_bytes context_bytes (option_map context_of_row row)

-- the plan of a context
abbrev pub planned_by : CoreTable → ℕ → Option Plan
planned_by c ctx = option_map_or (λ o. option_map_or planned_in o None) (slice_get c.contexts.items ctx) None

-- each plan covers, its context holds all that it declares, and these reservations have room
pub record PlanStands (c : CoreTable) (ctx : ℕ) (plan : Plan) : Type 0 where
  pub covers : DepsCover c.device.state plan.job plan.deps
  pub holds : IsTrue (holds_all (core_state c) ctx plan.job)
  pub room : (buffer : ℕ) (resv : WithRoom) → slice_get c.reservations.items buffer ≡ Some resv → (usage : _) × (usage_at buffer plan.job ≡ Some usage) → IsTrue resv.has_room

-- no ring has a packet out
abbrev pub NothingOut : MarkedDevice → Type 0
NothingOut d = (ring : ℕ) → mark_of d ring ≡ None

-- the parts of a steady core: its device is within its limits, and runs all packets itself
pub record IsCore (c : CoreTable) : Type 0 where
  pub steady : IsSteadyCore (core_state c)
  pub limits : spec_fault c.device.state.spec ≡ None
  pub inside : NothingOut c.device
  pub plans : (ctx : ℕ) (plan : Plan) → planned_by c ctx ≡ Some plan → PlanStands c ctx plan
  pub reservation_count : length c.reservations.items ≡ length c.device.state.spec.buffers
  pub holder_count : length c.holders.items ≡ length c.device.state.spec.buffers
  pub context_count : length c.contexts.items ≡ 64
  pub tickets : c.next_ticket ≤ 2 ^ 63

-- the parts of a core: its contexts hold what they have planned, and have begun where they hold something, and its jobs
-- have their places
pub record IsWholeCore (c : CoreTable) : Type 0 where
  pub core : IsCore c
  pub plans_held : PlansHeld (core_state c)
  pub holders_begun : HoldersBegun (core_state c)
  pub jobs_placed : JobsHavePlace c.device.state
