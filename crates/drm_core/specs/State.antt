-- The state of the core.
use Rattle.std.specs.Prelude.{ℕ, Bool, List, [], Option, None, map, replicate}
use Rattle.drm_types.specs.declared.spec.DeviceSpec.{DeviceSpec}
use Rattle.drm_job.specs.declared.Draft.{Draft}
use Rattle.drm_resv.specs.Reservation.{Reservation}
use Rattle.drm_state.specs.State.{DeviceState, opened_device}

-- a context that has begun
pub record Context : Type 0 where
  pub ticket : ℕ
  pub is_sealed : Bool
  pub plan : Option Draft

-- the device, the reservation and the holder of each buffer, the contexts, and the ticket that is drawn next
pub record CoreState : Type 0 where
  pub device : DeviceState
  pub reservations : List Reservation
  pub holders : List (Option ℕ)
  pub contexts : List (Option Context)
  pub next_ticket : ℕ

-- a core to which nothing has happened
abbrev pub opened : DeviceSpec → CoreState
opened spec = record {
  device = opened_device spec;
  reservations = map (λ bytes. record { entries = []; history = [] }) spec.buffers;
  holders = map (λ bytes. None) spec.buffers;
  contexts = replicate 64 None;
  next_ticket = 1;
}
