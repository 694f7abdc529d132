-- The credits of a ring that are in use, command by command.
use Rattle.std.specs.Prelude.{ℕ, Bool, false, ◌+◌, ◌-◌, ◌==◌, List, fold, if◌then◌else◌, min, slice_get}
use Rattle.std.specs.Option.{option_map_or}
use Rattle.drm_state.specs.declared.answer.Answer.{Answer}
use Rattle.drm_state.specs.declared.answer.Answer.TheVariants as answer
use Rattle.drm_core.specs.declared.event.Event.{Event}
use Rattle.drm_core.specs.declared.event.Event.TheVariants as event
use Rattle.drm_picture.specs.declared.command.Request.{Request}
use Rattle.drm_picture.specs.declared.command.Step.{Step}

-- how many credits the job of a fence counts with on a ring of this limit, of the jobs that were armed
abbrev pub counted_credits : ℕ → List Request → ℕ → ℕ
counted_credits limit armed fence = option_map_or (λ job. min job.credits limit) (slice_get armed fence) 0

-- the credits in use behind an answer: a pick takes those of its job, and a finish gives them back
abbrev pub level_by : ℕ → List Request → ℕ → Answer → ℕ
level_by limit armed level (answer.Picked fence skipped) = level + counted_credits limit armed fence
level_by limit armed level (answer.Finished fence outcome) = level - counted_credits limit armed fence
level_by limit armed level _ = level

-- a command picks or finishes on the ring
abbrev pub is_on : ℕ → Event ℕ → Bool
is_on ring (event.Pick at now) = at == ring
is_on ring (event.Finish at now) = at == ring
is_on ring _ = false

-- the credits of a ring in use behind a step
abbrev pub level_behind : ℕ → ℕ → List Request → ℕ → Step → ℕ
level_behind ring limit armed level step = if is_on ring step.command then level_by limit armed level step.answer else level

-- the credits of a ring in use behind these steps
abbrev pub level_of : ℕ → ℕ → List Request → List Step → ℕ
level_of ring limit armed steps = fold (level_behind ring limit armed) 0 steps
