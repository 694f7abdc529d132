use Rattle.std.proofs.Common.{[], refl}
use Rattle.drm_core.specs.Laws.{DeviceLaws}
use Rattle.drm_core.specs.State.{opened}
use Rattle.drm_core.proofs.Opening.{opened_core_steady}
use Rattle.drm_conform_laws.proofs.PlainlyKept.{plainly_kept}
use Rattle.drm_conform_laws.proofs.RunsTold.{entries_of, run_tells}
use Rattle.drm_conform_laws.proofs.laws.every_run_conforms.Goals as goal

pub returns : goal.returns
returns c = λ spec events answers state names run.
    let laws : DeviceLaws = record { steady = c.devices_stay_steady.ensures; reads = c.reads_wait_for_writers.ensures; choice = c.choice_is_least.ensures } in
    let tells = run_tells laws (opened spec) spec events answers state [] (opened_core_steady laws spec) refl names run (λ f r at. absurd (cc (at))) in
    plainly_kept state.device.journal (opened spec).device (entries_of state.device.journal events answers) tells
