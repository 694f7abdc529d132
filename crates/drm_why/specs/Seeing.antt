-- What is seen of a job in a run, and where its reason changes.
use Rattle.std.specs.Prelude.{◌≡◌, ℕ, ◌+◌, ◌-◌, ◌⊎◌, List, [], ◌∷◌, ◌++◌, fold, length, slice_get, unwrap_or}
use Rattle.std.specs.Option.{option_map_or}
use Rattle.drm_job.specs.declared.Draft.{Draft}
use Rattle.drm_state.specs.declared.answer.Answer.{Answer}
use Rattle.drm_state.specs.Grows.{Grows}
use Rattle.drm_state.specs.State.{DeviceState}
use Rattle.drm_core.specs.declared.event.Event.{Event}
use Rattle.drm_core.specs.Jobs.{with_job}
use Rattle.drm_core.specs.Lawful.{IsLawful}
use Rattle.drm_core.specs.State.{CoreState}
use Rattle.drm_core.specs.Step.{Step}
use Rattle.drm_picture.specs.Commands.{moment_of}
use Rattle.drm_reason.specs.declared.reason.Reason.{Reason}
use Rattle.drm_reason.specs.declared.reason.Reason.TheVariants as reason
use Rattle.drm_reason.specs.Reasons.{reason_of}
use Rattle.drm_why.specs.declared.chain.Link.{Link}
use Rattle.drm_why.specs.declared.seeing.Change.{Change}
use Rattle.drm_why.specs.declared.seeing.Seen.{Seen}
use Rattle.drm_why.specs.Chains.{IsChain}

-- what a command does: the event with the entity of the job that it brings
abbrev pub command_of : Event Draft → Event ℕ
command_of event = with_job (λ draft. draft.entity) event

-- the jobs that hold up this one, which had one reason and has another now. Where it has the same they are not looked
-- up
abbrev pub AreLinks : DeviceState → ℕ → Reason → Reason → List Link → Type 0
AreLinks device fence before now links =
    ((now ≡ before) × (links ≡ [])) ⊎ ((now ≡ before → ⊥) × IsChain device fence now links)

-- what is seen of a job that has this reason behind this command, where it had another one before
pub record IsLook (device : DeviceState) (fence : ℕ) (before now : Reason) (happened : Event ℕ) (seen : Seen) : Type 0 where
  pub command : seen.command ≡ happened
  pub reason : seen.reason ≡ now
  pub links : AreLinks device fence before now seen.links

-- the reason that was seen last: before the first command the job is not armed
abbrev pub reason_behind : List Seen → Reason
reason_behind seens = option_map_or (λ seen. seen.reason) (slice_get seens (length seens - 1)) reason.NotArmed

-- what is seen of the job behind this command is added to what was seen before
abbrev pub AddsLook : DeviceState → ℕ → Event ℕ → List Seen → List Seen → Type 0
AddsLook device fence command old new =
    (seen : Seen) × IsLook device fence (reason_behind old) (reason_of device fence) command seen × (new ≡ old ++ seen ∷ [])

-- what is seen of a job behind an event: what that does, the reason that the job has in the core that it leads to,
-- where it had this one before, and the jobs that hold it up
pub record IsSeen (fence : ℕ) (before : Reason) (event : Event Draft) (core : CoreState) (seen : Seen) : Type 0 where
  pub command : seen.command ≡ command_of event
  pub reason : seen.reason ≡ reason_of core.device fence
  pub links : AreLinks core.device fence before seen.reason seen.links

-- a lawful run of these events leads from the old core to the new one, and this is seen of the job behind each of them,
-- where it had this reason before
abbrev pub Sees : ℕ → Reason → CoreState → List (Event Draft) → List Seen → CoreState → Type 0
Sees fence before old [] [] new = IsLawful old × (new ≡ old)
Sees fence before old (event ∷ events) (seen ∷ seens) new =
    IsLawful old
    × ((answer : Answer) × (mid : CoreState) × Step old event answer mid × Grows old.device mid.device
    × IsSeen fence before event mid seen × Sees fence seen.reason mid events seens new)
Sees fence before old [] (seen ∷ seens) new = ⊥
Sees fence before old (event ∷ events) [] new = ⊥

-- the moment that was told last behind a command
abbrev pub clock_behind : ℕ → Event ℕ → ℕ
clock_behind clock command = unwrap_or (moment_of command) clock

-- and behind all
abbrev pub clock_of : List Seen → ℕ
clock_of seens = fold (λ clock seen. clock_behind clock seen.command) 0 seens

abbrev pub change_at : ℕ → ℕ → Seen → Change
change_at place clock seen = record {
  place = place;
  command = seen.command;
  clock = clock_behind clock seen.command;
  reason = seen.reason;
  links = seen.links;
}

-- what is seen at this place is one change more, where the reason is another than before, and else none
abbrev pub IsChanged : Reason → ℕ → ℕ → Seen → List Change → List Change → Type 0
IsChanged before place clock seen old new =
    ((seen.reason ≡ before) × (new ≡ old)) ⊎ ((seen.reason ≡ before → ⊥) × (new ≡ old ++ change_at place clock seen ∷ []))

-- the changes of what is seen from this place on, before which the job had this reason and this moment was told last:
-- one for each command behind which the reason is another than before it, and no other
abbrev pub AreChanges : Reason → ℕ → ℕ → List Seen → List Change → Type 0
AreChanges before place clock [] changes = changes ≡ []
AreChanges before place clock (seen ∷ seens) changes =
    ((seen.reason ≡ before) × AreChanges before (place + 1) (clock_behind clock seen.command) seens changes)
    ⊎ ((seen.reason ≡ before → ⊥)
    × ((rest : List Change) × (changes ≡ change_at place clock seen ∷ rest)
    × AreChanges seen.reason (place + 1) (clock_behind clock seen.command) seens rest))
