-- Latest: where the wait of a job for a buffer ends.
use Rattle.std.specs.Prelude.{◌≡◌, ℕ, List, [], ◌∷◌, Option, None, false, ◌+◌, ◌-◌, ◌≤◌, length, max, option_and_then, slice_get, if◌then◌else◌}
use Rattle.std.specs.Option.{option_map_or}
use Rattle.drm_types.specs.declared.access.Access.{Access}
use Rattle.drm_picture.specs.Commands.{moment_of}
use Rattle.drm_picture.specs.Waiting.{holds_up, waiting_look}
use Rattle.drm_picture.specs.declared.bars.Bar.{Bar}
use Rattle.drm_picture.specs.declared.bars.Kind.TheVariants as kind
use Rattle.drm_picture.specs.declared.bars.Lane.TheVariants as lane
use Rattle.drm_picture.specs.declared.bars.Look.{Look}
use Rattle.drm_picture.specs.declared.bars.Look.TheVariants as look
use Rattle.drm_picture.specs.declared.command.Step.{Step}

-- the place where a bar ends
abbrev pub end_of : Bar → ℕ
end_of bar = bar.from + bar.span

-- how a wait looks that ends at this place, or with the run
abbrev pub look_until : List Step → ℕ → Look
look_until run end = option_map_or (λ last. look.Ended) (slice_get run end) look.Open

-- the moment that is told at this place, if the run has it and one is told there
abbrev pub moment_until : List Step → ℕ → Option ℕ
moment_until run end = option_and_then (λ last. moment_of last.command) (slice_get run end)

-- the bar of a fence ends in the run or with it, and its place tells how
pub record EndsIn (run : List Step) (bar : Bar) : Type 0 where
  pub within : end_of bar ≤ length run
  pub shown : waiting_look bar.look ≡ look_until run (end_of bar)
  pub told : bar.ended ≡ moment_until run (end_of bar)

-- the last end of those fences that hold up a job that is armed at this place and declares this buffer, or 0
abbrev pub latest_end : List Step → ℕ → ℕ × Access → List Bar → ℕ
latest_end run place declared [] = 0
latest_end run place declared (bar ∷ bars) =
    if holds_up run place declared bar then max (end_of bar) (latest_end run place declared bars) else latest_end run place declared bars

-- the bar of a job that waits for a buffer from one place to another
abbrev pub wait_to : List Step → ℕ → ℕ → ℕ → ℕ → Bar
wait_to run place fence buffer end = record {
  kind = kind.Waiting;
  opening = record { lane = lane.Buffer buffer; number = fence; skipped = false };
  from = place;
  span = end - place;
  look = look_until run end;
  packets = 0;
  began = None;
  ended = moment_until run end;
}
