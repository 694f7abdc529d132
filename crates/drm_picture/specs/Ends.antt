-- Ends: where the search for what ends something may begin.
use Rattle.std.specs.Prelude.{◌≡◌, ℕ, false, List, Option, Some, None, ◌-◌, drop, get_or, set, take}
use Rattle.std.specs.List.{list_any}
use Rattle.drm_state.specs.declared.answer.Answer.{Answer}
use Rattle.drm_state.specs.declared.answer.Answer.TheVariants as answer
use Rattle.drm_picture.specs.Bars.{ends}
use Rattle.drm_picture.specs.declared.bars.Kind.{Kind}
use Rattle.drm_picture.specs.declared.bars.Kind.TheVariants as kind
use Rattle.drm_picture.specs.declared.bars.Lane.{Lane}
use Rattle.drm_picture.specs.declared.bars.Lane.TheVariants as lane
use Rattle.drm_picture.specs.declared.bars.Opening.{Opening}
use Rattle.drm_core.specs.declared.event.Event.{Event}
use Rattle.drm_core.specs.declared.event.Event.TheVariants as event
use Rattle.drm_picture.specs.declared.command.Step.{Step}

abbrev pub number_in : Lane → ℕ → ℕ
number_in (lane.Buffer buffer) number = buffer
number_in _ number = number

-- the number by which an end of what began is looked up: of a lock that of its buffer
abbrev pub number_of : Kind → Opening → ℕ
number_of kind.Lock opening = number_in opening.lane opening.number
number_of _ opening = opening.number

abbrev pub finished_fence : Answer → Option ℕ
finished_fence (answer.Finished fence outcome) = Some fence
finished_fence _ = None

abbrev pub taken_fence : Answer → Option ℕ
taken_fence (answer.Picked fence skipped) = Some fence
taken_fence (answer.Reaped fence) = Some fence
taken_fence _ = None

abbrev pub over_fence : Answer → Option ℕ
over_fence (answer.Finished fence outcome) = Some fence
over_fence (answer.Reaped fence) = Some fence
over_fence _ = None

abbrev pub ended_in_lock : Event ℕ → Option ℕ
ended_in_lock (event.Drop ctx buffer) = Some buffer
ended_in_lock _ = None

-- the number of what of a kind may end by this step
abbrev pub ended_number : Kind → Step → Option ℕ
ended_number kind.Job step = finished_fence step.answer
ended_number kind.Queued step = taken_fence step.answer
ended_number kind.Lock step = ended_in_lock step.command
ended_number kind.Fence step = over_fence step.answer
ended_number _ step = None

-- for this number, if there is one, the place is noted
abbrev pub noted : Option ℕ → ℕ → List ℕ → List ℕ
noted (Some number) place next = set next number place
noted None place next = next

-- what began ends by none of these steps
abbrev pub none_ends : Kind → Opening → List Step → Type 0
none_ends kind opening steps = list_any (ends kind opening) steps ≡ false

-- by no step from this place to before the one that is noted for its number something ends that began
abbrev pub AreNext : Kind → List Step → ℕ → List ℕ → Type 0
AreNext kind run place next = (opening : Opening) → none_ends kind opening (take (get_or next (number_of kind opening) 0 - place) (drop place run))
