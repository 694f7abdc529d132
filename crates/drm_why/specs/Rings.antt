-- What each ring does, command by command.
use Rattle.std.specs.Prelude.{◌≡◌, ℕ, List, [], ◌∷◌, Option, Some, None, map}
use Rattle.std.specs.List.{enumerate_from}
use Rattle.drm_job.specs.declared.Draft.{Draft}
use Rattle.drm_state.specs.declared.answer.Answer.{Answer}
use Rattle.drm_state.specs.Choice.{choice}
use Rattle.drm_state.specs.Grows.{Grows}
use Rattle.drm_state.specs.Ring.{pending_of}
use Rattle.drm_state.specs.State.{DeviceState}
use Rattle.drm_core.specs.declared.event.Event.{Event}
use Rattle.drm_core.specs.Lawful.{IsLawful}
use Rattle.drm_core.specs.State.{CoreState}
use Rattle.drm_core.specs.Step.{Step}
use Rattle.drm_reason.specs.declared.reason.Reason.{Reason}
use Rattle.drm_reason.specs.declared.reason.Reason.TheVariants as reason
use Rattle.drm_reason.specs.Reasons.{reason_of}
use Rattle.drm_reason.specs.Retired.{first_queued_for}
use Rattle.drm_why.specs.declared.rings.Doing.{Doing}
use Rattle.drm_why.specs.declared.rings.Doing.TheVariants as doing
use Rattle.drm_why.specs.declared.rings.Row.{Row}
use Rattle.drm_why.specs.Seeing.{clock_behind, command_of}

-- an idle ring waits for the fence that its first job waits for, or for the reap of that job, or that job may begin
abbrev pub doing_by : Reason → Doing
doing_by (reason.Waits fence how ring queued) = doing.Held fence
doing_by (reason.Stopped behind) = doing.Stopped
doing_by other = doing.Ready

abbrev pub doing_queued : DeviceState → Option ℕ → Doing
doing_queued device None = doing.Unused
doing_queued device (Some number) = doing_by (reason_of device number)

abbrev pub doing_idle : DeviceState → ℕ → Option ℕ → Doing
doing_idle device ring (Some next) = doing.Ready
doing_idle device ring None = doing_queued device (first_queued_for device.journal ring)

abbrev pub doing_with : DeviceState → ℕ → List ℕ → Doing
doing_with device ring (front ∷ rest) = doing.Busy
doing_with device ring [] = doing_idle device ring (choice device ring)

-- what the ring does: it is busy with its pending jobs, or is idle. Then a pick takes a job, or the first one that is
-- queued for it says why none can begin
abbrev pub doing_of : DeviceState → ℕ → Doing
doing_of device ring = doing_with device ring (pending_of device ring)

-- and all rings
abbrev pub doings_of : DeviceState → List Doing
doings_of device = map (λ r. doing_of device r.0) (enumerate_from 0 device.spec.rings)

-- what is seen of the rings of a device, where this moment was told last
pub record IsRow (device : DeviceState) (now : ℕ) (row : Row) : Type 0 where
  pub clock : row.clock ≡ now
  pub doings : row.doings ≡ doings_of device

-- a lawful run of these events leads from the old core to the new one, and this is seen of the rings behind each of
-- them, where this moment was told before
abbrev pub SeesRows : ℕ → CoreState → List (Event Draft) → List Row → CoreState → Type 0
SeesRows clock old [] [] new = IsLawful old × (new ≡ old)
SeesRows clock old (event ∷ events) (row ∷ rows) new =
    IsLawful old
    × ((answer : Answer) × (mid : CoreState) × Step old event answer mid × Grows old.device mid.device
    × IsRow mid.device (clock_behind clock (command_of event)) row × SeesRows (clock_behind clock (command_of event)) mid events rows new)
SeesRows clock old [] (row ∷ rows) new = ⊥
SeesRows clock old (event ∷ events) [] new = ⊥
