use Rattle.std.proofs.Common.{◌≡◌, ◌∙◌, ap, [], length, replicate, None, refl}
use Rattle.drm_types.specs.declared.spec.DeviceSpec.{DeviceSpec}
use Rattle.drm_resv.specs.Reservation.{Reservation}
use Rattle.drm_core.specs.declared.cores.CoreTable.{CoreTable}
use Rattle.drm_sched.specs.Marks.{MarkedDevice}
use Rattle.drm_core.specs.State.{opened}
use Rattle.drm_core.specs.Cores.{core_state}
use Rattle.drm_core.proofs.Blanks.{blank_core, blank_is_core, opened_inside}
use Rattle.drm_core.proofs.cores.CoreTable.open.Goals as goal

abbrev blank : Reservation
blank = record { entries = []; history = [] }

-- the parts that were made
abbrev made : goal.In_ok-contexts → CoreTable
made c = record {
  device = c.args.device;
  reservations = c.in_ok-reservations.reservations;
  holders = c.in_ok-holders.holders;
  contexts = c.in_ok-contexts.contexts;
  next_ticket = 1;
}

count : (c : goal.In_ok-contexts) → c.len-buffers.result ≡ length c.args.device.state.spec.buffers
count c = c.len-buffers.ensures ∙ ap (λ (s : DeviceSpec). length s.buffers) c.spec.ensures.value

state_is : (c : goal.In_ok-contexts) → core_state (made c) ≡ opened c.args.device.state.spec
state_is c =
    blank_core (made c) (ap (λ (d : MarkedDevice). d.state) c.requires.blank)
    (c.in_ok-reservations.ensures ∙ ap (λ n. replicate n blank) (count c))
    (c.in_ok-holders.ensures ∙ ap (λ n. replicate n None) (count c))
    c.in_ok-contexts.ensures refl

pub returns-clause-opened : goal.returns-clause-opened
returns-clause-opened c = state_is c

pub returns-clause-core : goal.returns-clause-core
returns-clause-core c = blank_is_core c.device_laws.ensures (made c) (state_is c) c.requires.limits (opened_inside c.args.device c.requires.blank) c.in_ok-contexts.ensures
