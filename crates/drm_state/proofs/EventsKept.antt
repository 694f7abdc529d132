-- What the laws of devices say, from the lemmas of each event.
use Rattle.drm_state.specs.State.{DeviceState}
use Rattle.drm_state.specs.Events.{EventsKeep, DevicesStaySteady}
use Rattle.drm_state.specs.Steady.{IsSteady}
use Rattle.drm_state.specs.Writers.{ReadsWaitForWriters}
use Rattle.drm_state.proofs.ArmLawful.{arm_steady}
use Rattle.drm_state.proofs.DeviceSteps.{pick_kept, step_kept, finish_kept, timeout_kept, cancel_kept, reap_kept}
use Rattle.drm_state.proofs.FitsKept.{fits_kept, armed_fits}
use Rattle.drm_state.proofs.Growth.{arm_grows}
use Rattle.drm_state.proofs.Opening.{opened_steady}
use Rattle.drm_state.proofs.Readback.{writers_ended, writers_free}

events_keep : (d : DeviceState) → IsSteady d → EventsKeep d
events_keep d steady = record {
  picks = λ ring now here may. pick_kept d ring now steady here may;
  steps = λ ring here. step_kept d ring steady here;
  finishes = λ ring now here may. finish_kept d ring now steady here may;
  timeouts = λ ring now here. timeout_kept d ring now steady here;
  cancels = λ entity. cancel_kept d entity steady;
  reaps = λ entity may. reap_kept d entity steady may;
  arms = λ job is_job. record {
    steady = arm_steady d job steady is_job;
    grows = arm_grows d job;
    fits = λ buffer resv fits. armed_fits d job buffer resv steady.lawful.entities fits;
  };
}

pub stay_steady : DevicesStaySteady
stay_steady = record {
  opens = opened_steady;
  events = events_keep;
  fits = λ old new buffer resv kept fits. fits_kept buffer old.journal new.journal resv kept.count kept.grows.journal fits;
}

pub reads_wait : ReadsWaitForWriters
reads_wait d buffer resv steady fits =
    (λ free. writers_ended buffer d.journal resv steady.lawful.entities fits free, λ ended. writers_free buffer d.journal resv fits ended)
