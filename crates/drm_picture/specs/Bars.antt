-- Bars: where each begins and ends.
use Rattle.std.specs.Prelude.{ℕ, Bool, true, false, List, Option, Some, None, ◌+◌, ◌==◌, ◌&&◌, length, drop, take, position, find, count_by, nat_lt, option_map, option_and_then, reverse, unwrap_or, if◌then◌else◌}
use Rattle.std.specs.Option.{option_map_or}
use Rattle.std.specs.List.{enumerate_from, filter_map}
use Rattle.drm_state.specs.declared.answer.Answer.{Answer}
use Rattle.drm_state.specs.declared.answer.Answer.TheVariants as answer
use Rattle.drm_types.specs.declared.outcome.Outcome.{Outcome}
use Rattle.drm_types.specs.declared.outcome.Outcome.TheVariants as outcome
use Rattle.drm_picture.specs.Commands.{moment_of}
use Rattle.drm_picture.specs.declared.bars.Bar.{Bar}
use Rattle.drm_picture.specs.declared.bars.Kind.{Kind}
use Rattle.drm_picture.specs.declared.bars.Kind.TheVariants as kind
use Rattle.drm_picture.specs.declared.bars.Lane.{Lane}
use Rattle.drm_picture.specs.declared.bars.Lane.TheVariants as lane
use Rattle.drm_picture.specs.declared.bars.Look.{Look}
use Rattle.drm_picture.specs.declared.bars.Look.TheVariants as look
use Rattle.drm_picture.specs.declared.bars.Opening.{Opening}
use Rattle.drm_core.specs.declared.event.Event.{Event}
use Rattle.drm_core.specs.declared.event.Event.TheVariants as event
use Rattle.drm_picture.specs.declared.command.Request.{Request}
use Rattle.drm_picture.specs.declared.command.Step.{Step}

abbrev pub planned : Answer → Bool
planned answer.Planned = true
planned _ = false

abbrev pub names_plan : ℕ → Event ℕ → Bool
names_plan ctx (event.Plan by entity) = by == ctx
names_plan ctx _ = false

-- the context plans a job by this step
abbrev pub plans : ℕ → Step → Bool
plans ctx step = names_plan ctx step.command && planned step.answer

-- the job that the context has planned last in these steps
abbrev pub last_planned : ℕ → List Step → Option Request
last_planned ctx before = option_and_then (λ step. step.request) (find (plans ctx) (reverse before))

abbrev pub armed_by : List Step → Step → Event ℕ → Option Request
armed_by before step (event.Submit entity) = step.request
armed_by before step (event.Arm ctx) = last_planned ctx before
armed_by before step _ = None

-- the job that a step behind these arms, if it arms one: that of the submission, or the last that the context has
-- planned
abbrev pub armed_job : List Step → Step → Option Request
armed_job before step = armed_by before step step.command

-- a job begins on this ring where the answer is that it was picked
abbrev pub picked : ℕ → Answer → Option Opening
picked ring (answer.Picked fence skipped) = Some (record { lane = lane.Ring ring; number = fence; skipped = skipped })
picked ring _ = None

-- this job begins to wait in its entity's queue where the answer is that it was armed
abbrev pub queued : Option Request → Answer → Option Opening
queued job (answer.Armed fence) = option_map (λ request. record { lane = lane.Entity request.entity; number = fence; skipped = false }) job
queued job _ = None

-- a context begins to hold this buffer where the answer is that it does
abbrev pub locked : ℕ → ℕ → Answer → Option Opening
locked buffer ctx answer.Held = Some (record { lane = lane.Buffer buffer; number = ctx; skipped = false })
locked buffer ctx _ = None

-- a fence begins where the answer is that it was armed
abbrev pub armed : Answer → Option Opening
armed (answer.Armed fence) = Some (record { lane = lane.Fence fence; number = fence; skipped = false })
armed _ = None

abbrev pub picked_by : Event ℕ → Answer → Option Opening
picked_by (event.Pick ring now) a = picked ring a
picked_by _ a = None

abbrev pub cancelled_by : Event ℕ → Option Opening
cancelled_by (event.Cancel entity) = Some (record { lane = lane.Entity entity; number = entity; skipped = false })
cancelled_by _ = None

-- an entity is stopped from where it is found guilty, and from where it is cancelled
abbrev pub stopped_by : Event ℕ → Answer → Option Opening
stopped_by c (answer.Guilty entity) = Some (record { lane = lane.Entity entity; number = entity; skipped = false })
stopped_by c answer.Ok = cancelled_by c
stopped_by c _ = None

abbrev pub locked_by : Event ℕ → Answer → Option Opening
locked_by (event.Try ctx buffer) a = locked buffer ctx a
locked_by _ a = None

-- what a step behind these begins of this kind. A job may begin to wait for several buffers at once: Waiting has these
-- bars
abbrev pub opening_of : Kind → List Step → Step → Option Opening
opening_of kind.Job before step = picked_by step.command step.answer
opening_of kind.Queued before step = queued (armed_job before step) step.answer
opening_of kind.Stopped before step = stopped_by step.command step.answer
opening_of kind.Lock before step = locked_by step.command step.answer
opening_of kind.Fence before step = armed step.answer
opening_of kind.Waiting before step = None

-- the job of this fence leaves its ring
abbrev pub ends_job : ℕ → Answer → Bool
ends_job fence (answer.Finished ended outcome) = ended == fence
ends_job fence _ = false

-- the job of this fence leaves its queue
abbrev pub leaves_queue : ℕ → Answer → Bool
leaves_queue fence (answer.Picked left skipped) = left == fence
leaves_queue fence (answer.Reaped left) = left == fence
leaves_queue fence _ = false

-- the fence has its outcome
abbrev pub ends_fence : ℕ → Answer → Bool
ends_fence fence (answer.Finished ended outcome) = ended == fence
ends_fence fence (answer.Reaped ended) = ended == fence
ends_fence fence _ = false

abbrev pub granted : Answer → Bool
granted answer.Ok = true
granted _ = false

abbrev pub drops : ℕ → ℕ → Event ℕ → Bool
drops buffer ctx (event.Drop by at) = at == buffer && by == ctx
drops buffer ctx _ = false

abbrev pub unlocks_in : Lane → ℕ → Step → Bool
unlocks_in (lane.Buffer buffer) ctx step = drops buffer ctx step.command && granted step.answer
unlocks_in _ ctx step = false

-- what began ends by this step: a job at its finish, a wait in a queue at the pick or the reaping, a lock at its drop,
-- and a fence with its outcome; an entity that is stopped stays so
abbrev pub ends : Kind → Opening → Step → Bool
ends kind.Job opening step = ends_job opening.number step.answer
ends kind.Queued opening step = leaves_queue opening.number step.answer
ends kind.Stopped opening step = false
ends kind.Lock opening step = unlocks_in opening.lane opening.number step
ends kind.Fence opening step = ends_fence opening.number step.answer
ends kind.Waiting opening step = false

abbrev pub shown_by_outcome : Outcome → Look
shown_by_outcome outcome.Good = look.Good
shown_by_outcome outcome.Cancelled = look.Cancelled
shown_by_outcome outcome.Stopped = look.Stopped

-- how a bar looks that ends by this answer
abbrev pub shown_by : Answer → Look
shown_by (answer.Finished fence outcome) = shown_by_outcome outcome
shown_by (answer.Reaped fence) = look.Stopped
shown_by _ = look.Ended

abbrev pub stopped_look : Answer → Look
stopped_look (answer.Guilty entity) = look.Guilty
stopped_look _ = look.Stopped

-- how a bar looks that has no end and began by this answer
abbrev pub endless_look : Kind → Answer → Look
endless_look kind.Stopped a = stopped_look a
endless_look _ a = look.Open

-- how a bar looks that began by this answer and ends by this step, if by one
abbrev pub look_of : Kind → Answer → Option Step → Look
look_of kind a last = option_map_or (λ step. shown_by step.answer) last (endless_look kind a)

abbrev pub runs : ℕ → Answer → Bool
runs fence (answer.Ran ran packet) = ran == fence
runs fence _ = false

-- how many packets of a job ran in these steps
abbrev pub packets_of : Kind → ℕ → List Step → ℕ
packets_of kind.Job fence during = count_by (λ step. runs fence step.answer) during
packets_of _ fence during = 0

-- how many steps are between the one by which something began and the one that ends it, or the end of the run
abbrev pub steps_between : Kind → Opening → List Step → ℕ
steps_between kind opening behind = unwrap_or (position (ends kind opening) behind) (length behind)

-- the bar of what begins by the step at this place, before these
abbrev pub bar_from : Kind → ℕ → Step → List Step → Opening → Bar
bar_from kind place step behind opening = record {
  kind = kind;
  opening = opening;
  from = place;
  span = steps_between kind opening behind + 1;
  look = look_of kind step.answer (find (ends kind opening) behind);
  packets = packets_of kind opening.number (take (steps_between kind opening behind) behind);
  began = moment_of step.command;
  ended = option_and_then (λ last. moment_of last.command) (find (ends kind opening) behind);
}

-- the bar of a kind that begins at this place of a run, if one does
abbrev pub bar_at : Kind → List Step → ℕ × Step → Option Bar
bar_at kind run p = option_map (bar_from kind p.0 p.1 (drop (p.0 + 1) run)) (opening_of kind (take p.0 run) p.1)

-- the bar ends behind this place, or not in the run
abbrev pub lasts_beyond : ℕ → Bar → Bool
lasts_beyond place bar = nat_lt place (bar.from + bar.span)

-- the bar, if there is one and it lasts beyond this place
abbrev pub kept_beyond : ℕ → Option Bar → Option Bar
kept_beyond place found = option_and_then (λ bar. if lasts_beyond place bar then Some bar else None) found

-- the bars of a kind that last beyond this place: one for each place of the run at which something of the kind begins,
-- in the order of the places, and no other
abbrev pub bars_of : Kind → ℕ → List Step → List Bar
bars_of kind from run = filter_map (λ p. kept_beyond from (bar_at kind run p)) (enumerate_from 0 run)
