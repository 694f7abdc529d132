-- Waiting: at which buffers a job waits, from where it is armed until the last fence that holds it up there has its
-- outcome.
use Rattle.std.specs.Prelude.{ℕ, Bool, false, List, [], ◌∷◌, Option, Some, None, ◌+◌, ◌-◌, ◌&&◌, take, filter_map, flat_map, fold, nat_lt, if◌then◌else◌}
use Rattle.std.specs.List.{enumerate_from}
use Rattle.std.specs.Option.{option_map_or}
use Rattle.drm_types.specs.declared.access.Access.{Access}
use Rattle.drm_state.specs.declared.answer.Answer.{Answer}
use Rattle.drm_state.specs.declared.answer.Answer.TheVariants as answer
use Rattle.drm_picture.specs.Bars.{armed_job, bars_of}
use Rattle.drm_picture.specs.Waits.{conflict, is_open_at, job_of}
use Rattle.drm_picture.specs.declared.bars.Bar.{Bar}
use Rattle.drm_picture.specs.declared.bars.Kind.TheVariants as kind
use Rattle.drm_picture.specs.declared.bars.Lane.TheVariants as lane
use Rattle.drm_picture.specs.declared.bars.Look.{Look}
use Rattle.drm_picture.specs.declared.bars.Look.TheVariants as look
use Rattle.drm_picture.specs.declared.command.Request.{Request}
use Rattle.drm_picture.specs.declared.command.Step.{Step}

-- the earlier job conflicts with one that declares this buffer alone
abbrev pub conflicts_at : ℕ × Access → Option Request → Bool
conflicts_at declared job = option_map_or (λ earlier. conflict earlier.declared (declared ∷ [])) job false

-- the fence of a bar holds up a job that is armed at this place and declares this buffer: it has no outcome there, and
-- its job conflicts with the later one at the buffer
abbrev pub holds_up : List Step → ℕ → ℕ × Access → Bar → Bool
holds_up run place declared bar = is_open_at place bar && conflicts_at declared (job_of run bar)

-- a wait has an end where the fence has an outcome
abbrev pub waiting_look : Look → Look
waiting_look look.Open = look.Open
waiting_look _ = look.Ended

-- the job of this fence waits for the buffer from the place where it is armed to the end of an earlier fence's bar
abbrev pub wait_until : ℕ → ℕ → ℕ → Bar → Bar
wait_until place fence buffer earlier = record {
  kind = kind.Waiting;
  opening = record { lane = lane.Buffer buffer; number = fence; skipped = false };
  from = place;
  span = earlier.from + earlier.span - place;
  look = waiting_look earlier.look;
  packets = 0;
  began = None;
  ended = earlier.ended;
}

-- the wait for the fence of a bar, if that one holds the job up
abbrev pub wait_for : List Step → ℕ → ℕ → ℕ × Access → Bar → Option Bar
wait_for run place fence declared bar = if holds_up run place declared bar then Some (wait_until place fence declared.0 bar) else None

-- of two waits from one place the longer, or the former where they end at once
abbrev pub longer : Option Bar → Option Bar → Option Bar
longer (Some former) (Some latter) = Some (if nat_lt former.span latter.span then latter else former)
longer None (Some latter) = Some latter
longer former None = former

-- the bar of a job at a buffer that it declares, if a fence holds it up there: the longest of its waits, which ends
-- with the last fence to have its outcome, or with the run
abbrev pub waiting_at : List Step → List Bar → ℕ → ℕ → ℕ × Access → Option Bar
waiting_at run fences place fence declared = fold (λ longest bar. longer longest (wait_for run place fence declared bar)) None fences

abbrev pub waiting_by : List Step → List Bar → ℕ → Answer → Option Request → List Bar
waiting_by run fences place (answer.Armed fence) (Some job) = filter_map (waiting_at run fences place fence) job.declared
waiting_by run fences place _ _ = []

-- the bars of the job that the step at this place arms, in the order of the buffers that it declares
abbrev pub waiting_from : List Step → List Bar → ℕ × Step → List Bar
waiting_from run fences p = waiting_by run fences p.0 p.1.answer (armed_job (take p.0 run) p.1)

-- the bars of jobs that wait for buffers, of those that last beyond this place: those of each step, in the order of the
-- steps, and no other. A wait ends with the last of its fences, so it lasts beyond the place exactly where one of them
-- does
abbrev pub waiting_of : ℕ → List Step → List Bar
waiting_of from run = flat_map (waiting_from run (bars_of kind.Fence from run)) (enumerate_from 0 run)
