-- Events that are read and added one after another.
use Rattle.std.proofs.Common.{◌≡◌, ℕ, List, [], ◌∷◌, ◌++◌, Result, Ok, Err, ap}
use Rattle.drm_core.specs.declared.event.Event.{Event}
use Rattle.drm_types.specs.declared.spec.DeviceSpec.{DeviceSpec}
use Rattle.drm_job.specs.declared.Draft.{Draft}
use Rattle.drm_text.specs.declared.fault.Fault.{Fault}
use Rattle.drm_text.specs.Reading.{◌>>=◌}
use Rattle.drm_text.proofs.WordReaders.{ok_is}
use Rattle.drm_script.specs.Commands.{events_of, with_event}

-- behind an event that was added come those of the further lines
pub goes_on : (spec : DeviceSpec) (old new : List (Event Draft)) (read : Result (Event Draft) Fault) (line : ℕ) (bytes : List ℕ) (more : List (List ℕ)) → with_event old read ≡ Ok new
    → (read >>= λ event. events_of spec (old ++ event ∷ []) line bytes more) ≡ events_of spec new line bytes more
goes_on spec old new (Ok event) line bytes more is = ap (λ (events : List (Event Draft)). events_of spec events line bytes more) (ok_is (old ++ event ∷ []) new is)
goes_on spec old new (Err fault) line bytes more is = absurd (cc)

-- the fault of an event is that of all further lines
pub stops : (spec : DeviceSpec) (old : List (Event Draft)) (read : Result (Event Draft) Fault) (fault : Fault) (line : ℕ) (bytes : List ℕ) (more : List (List ℕ)) → with_event old read ≡ Err fault
    → (read >>= λ event. events_of spec (old ++ event ∷ []) line bytes more) ≡ Err fault
stops spec old (Ok event) fault line bytes more is = absurd (cc)
stops spec old (Err first) fault line bytes more is = is
