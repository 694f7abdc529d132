-- How long jobs waited and ran, in nanoseconds.
use Rattle.std.specs.Prelude.{ℕ, zero, suc, Bool, ◌+◌, ◌-◌, ◌^◌, ◌||◌, ◌&&◌, nat_lt, max, min, List, [], ◌∷◌, Option, Some, None, is_none, is_some, if◌then◌else◌}
use Rattle.drm_trace.specs.declared.event.Event.{Event}
use Rattle.drm_conform.specs.declared.times.Counts.{Counts}
use Rattle.drm_conform.specs.declared.times.Times.{Times}
use Rattle.drm_conform.specs.declared.times.Total.{Total}
use Rattle.drm_rules.specs.Lines.{ending, job_awaited, queueing, ring_run, running}
use Rattle.drm_rules.specs.Rows.{is_in}

-- the time of an end that stands before a run
abbrev pub time_before : Option Event → Option Event → ℕ
time_before None run = 0
time_before (Some end) None = 0
time_before (Some end) (Some run) = if nat_lt end.line run.line then end.time else 0

-- when the job that waits in a line was released by the end of that which it waits for, if that stands before its run
abbrev pub release_of : List Event → ℕ → Option ℕ → ℕ
release_of log job None = 0
release_of log job (Some on) = time_before (ending log on) (running log job)

-- the job that waits in a line
abbrev pub waiter_of : ℕ → Option ℕ → Option ℕ
waiter_of job None = None
waiter_of job (Some on) = Some job

abbrev pub waits : Event → Option ℕ
waits e = waiter_of e.job (job_awaited e.what)

abbrev pub release_told : List Event → Event → ℕ
release_told log e = release_of log e.job (job_awaited e.what)

-- the latest release that some lines tell of a job, or 0
abbrev pub latest_release : List Event → List Event → ℕ → ℕ
latest_release log [] job = 0
latest_release log (e ∷ seen) job = max (if is_in (waits e) job then release_told log e else 0) (latest_release log seen job)

abbrev pub released : List Event → ℕ → ℕ
released log job = latest_release log log job

-- from its queueing up to the last end that it waited for, from there to its run, and from there to its end
abbrev pub times_between : ℕ → Option Event → Option Event → Option Event → Option Times
times_between release None run end = None
times_between release (Some queue) None end = None
times_between release (Some queue) (Some run) None = None
times_between release (Some queue) (Some run) (Some end) =
    let ready = max queue.time release in Some (record { fences = ready - queue.time; turn = run.time - ready; ran = end.time - run.time })

-- the times of a job that is queued, runs and ends in the log
abbrev pub times_of : List Event → ℕ → Option Times
times_of log job = times_between (released log job) (queueing log job) (running log job) (ending log job)

-- the ring that runs a job
abbrev pub ring_of : Option Event → Option ℕ
ring_of None = None
ring_of (Some run) = ring_run run.what

-- two times together, up to the greatest number of 64 bits
abbrev pub plus : ℕ → ℕ → ℕ
plus a b = min (a + b) (2 ^ 64 - 1)

-- of some jobs of a ring how many there are, and their times together
abbrev pub with_times : Total → Option Times → Total
with_times total None = total
with_times total (Some times) = record {
  jobs = plus total.jobs 1;
  fences = plus total.fences times.fences;
  turn = plus total.turn times.turn;
  ran = plus total.ran times.ran;
}

abbrev pub no_time : Total
no_time = record { jobs = 0; fences = 0; turn = 0; ran = 0 }

-- those of the first jobs of the log
abbrev pub total_of : List Event → ℕ → ℕ → Total
total_of log zero ring = no_time
total_of log (suc job) ring =
    if is_in (ring_of (running log job)) ring then with_times (total_of log job ring) (times_of log job) else total_of log job ring

-- whether the log tells a job's queueing or its run
abbrev pub is_shown : List Event → ℕ → Bool
is_shown log job = is_some (queueing log job) || is_some (running log job)

-- one more of those that pass a test
abbrev pub one_if : Bool → ℕ
one_if test = if test then 1 else 0

-- of the first jobs of the log how many it shows, how many of these began before it, and how many go on behind it
abbrev pub counts_of : List Event → ℕ → Counts
counts_of log zero = record { jobs = 0; early = 0; late = 0 }
counts_of log (suc job) = record {
  jobs = (counts_of log job).jobs + one_if (is_shown log job);
  early = (counts_of log job).early + one_if (is_shown log job && is_none (queueing log job));
  late = (counts_of log job).late + one_if (is_shown log job && is_none (ending log job));
}
