-- Waits: which earlier fences the job of a fence waits for where it is armed.
use Rattle.std.specs.Prelude.{ℕ, Bool, List, [], Option, Some, None, ◌+◌, ◌==◌, ◌&&◌, ◌||◌, drop, take, map, flat_map, nat_lt, option_and_then, slice_get, if◌then◌else◌}
use Rattle.std.specs.List.{enumerate_from, filter_map, list_any}
use Rattle.drm_types.specs.declared.access.Access.{Access}
use Rattle.drm_job.specs.Conflicts.{must_wait}
use Rattle.drm_state.specs.declared.answer.Answer.{Answer}
use Rattle.drm_state.specs.declared.answer.Answer.TheVariants as answer
use Rattle.drm_picture.specs.Bars.{armed_job, bars_of}
use Rattle.drm_picture.specs.declared.bars.Bar.{Bar}
use Rattle.drm_picture.specs.declared.bars.Kind.TheVariants as kind
use Rattle.drm_picture.specs.declared.command.Request.{Request}
use Rattle.drm_picture.specs.declared.command.Step.{Step}
use Rattle.drm_picture.specs.declared.waits.Earlier.{Earlier}
use Rattle.drm_picture.specs.declared.waits.Wait.{Wait}

-- jobs that declare these conflict: at a buffer that both declare, the later waits for the earlier
abbrev pub conflict : List (ℕ × Access) → List (ℕ × Access) → Bool
conflict earlier later = list_any (λ d. list_any (λ e. (d.0 == e.0) && must_wait d.1 e.1) later) earlier

abbrev pub names : ℕ → List ℕ → Bool
names fence after = list_any (λ named. named == fence) after

-- a job comes after an earlier one with this fence: it conflicts with it, or names its fence
abbrev pub comes_after : Request → ℕ → Request → Bool
comes_after later fence earlier = conflict earlier.declared later.declared || names fence later.after

-- the fence of the bar is armed before this place, and has no outcome there
abbrev pub is_open_at : ℕ → Bar → Bool
is_open_at place bar = nat_lt bar.from place && nat_lt place (bar.from + bar.span)

-- the job of the fence of a bar
abbrev pub job_of : List Step → Bar → Option Request
job_of run bar = option_and_then (armed_job (take bar.from run)) (slice_get run bar.from)

abbrev pub earlier_job : Request → ℕ → Option Request → Option Earlier
earlier_job later fence job = option_and_then (λ request. if comes_after later fence request then Some (record { fence = fence; entity = request.entity }) else None) job

-- the job of a bar, if its fence is open at this place and the later job comes after it
abbrev pub earlier_of : List Step → ℕ → Request → Bar → Option Earlier
earlier_of run place later bar = if is_open_at place bar then earlier_job later bar.opening.number (job_of run bar) else None

-- of earlier jobs the last of each entity, since the jobs of an entity end in order: each behind which none of its
-- entity stands
abbrev pub last_of : List Earlier → ℕ × Earlier → Option Earlier
last_of all p = if list_any (λ other. other.entity == p.1.entity) (drop (p.0 + 1) all) then None else Some p.1

abbrev pub last_of_each : List Earlier → List Earlier
last_of_each all = filter_map (last_of all) (enumerate_from 0 all)

-- a job that is armed at this place with this fence waits for each of these
abbrev pub waits_on : ℕ → ℕ → List Earlier → List Wait
waits_on place fence jobs = map (λ job. record { fence = fence; earlier = job.fence; place = place }) jobs

abbrev pub waits_by : List Step → List Bar → ℕ → Answer → Option Request → List Wait
waits_by run fences place (answer.Armed fence) (Some later) = waits_on place fence (last_of_each (filter_map (earlier_of run place later) fences))
waits_by run fences place _ _ = []

-- the waits of the step at this place, in the part that begins at another: none before its begin
abbrev pub waits_at : ℕ → List Step → List Bar → ℕ × Step → List Wait
waits_at from run fences p = if nat_lt p.0 from then [] else waits_by run fences p.0 p.1.answer (armed_job (take p.0 run) p.1)

-- the waits of a run from a place on: those of each step, in the order of the steps, and no other. A fence that is open
-- at one of these places has a bar that lasts beyond the first
abbrev pub waits_of : ℕ → List Step → List Wait
waits_of from run = flat_map (waits_at from run (bars_of kind.Fence from run)) (enumerate_from 0 run)
