-- Which jobs the end of a fence lets go.
use Rattle.std.specs.Prelude.{ℕ, Bool, true, false, not, ◌&&◌, ◌==◌, nat_lt}
use Rattle.drm_state.specs.declared.journal.JobRecord.{JobRecord}
use Rattle.drm_state.specs.State.{DeviceState}
use Rattle.drm_state.specs.Journal.{is_at}
use Rattle.drm_state.specs.Order.{comes_after}
use Rattle.drm_reason.specs.declared.reason.Reason.{Reason}
use Rattle.drm_reason.specs.declared.reason.Reason.TheVariants as reason
use Rattle.drm_reason.specs.Reasons.{reason_of}

-- the later job comes after the earlier one of this number, which is on another ring
abbrev pub crosses_rings : ℕ → JobRecord → JobRecord → Bool
crosses_rings fence earlier later = not (earlier.ring == later.ring) && comes_after later.job fence earlier.job

-- the job of this number has to wait until the fence ends, which is that of an earlier job on another ring
abbrev pub waits_for_end : DeviceState → ℕ → ℕ → Bool
waits_for_end device fence number =
    is_at device.journal fence (λ earlier. nat_lt fence number && is_at device.journal number (crosses_rings fence earlier))

-- the job is ready: it waits for its turn or for credits, or for nothing
abbrev pub is_ready_by : Reason → Bool
is_ready_by (reason.BehindRingHead ring head) = true
is_ready_by (reason.NoCredits ring need free) = true
is_ready_by (reason.Next ring) = true
is_ready_by other = false

-- the job had to wait until this fence ended, and is ready
abbrev pub is_released : DeviceState → ℕ → ℕ → Bool
is_released device fence number = waits_for_end device fence number && is_ready_by (reason_of device number)
