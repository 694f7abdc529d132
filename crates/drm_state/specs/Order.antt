-- Which earlier jobs a job comes after, and when it may begin.
use Rattle.std.specs.Prelude.{ℕ, ◌<◌, Bool, not, ◌&&◌, ◌||◌, ◌==◌, List, take, Contains}
use Rattle.std.specs.List.{list_all, list_any, filter}
use Rattle.drm_types.specs.declared.spec.DeviceSpec.{DeviceSpec}
use Rattle.drm_job.specs.declared.Draft.{Draft}
use Rattle.drm_job.specs.Conflicts.{conflicts}
use Rattle.drm_state.specs.declared.journal.JobRecord.{JobRecord}
use Rattle.drm_state.specs.Journal.{numbered}
use Rattle.drm_fence.specs.Phases.{is_queued, has_ended}

-- whether a later job comes after an earlier job of this number: they conflict, or the later names its fence
abbrev pub comes_after : Draft → ℕ → Draft → Bool
comes_after later number earlier = conflicts earlier later || list_any (λ f. f == number) later.after

-- whether a fence is met for a job of the ring: its job has ended, or was given to the same ring
abbrev pub is_met : ℕ → JobRecord → Bool
is_met ring r = has_ended r.phase || (not (is_queued r.phase) && (r.ring == ring))

-- the records before job j that it comes after
abbrev pub dependencies : List JobRecord → ℕ → Draft → List (ℕ × JobRecord)
dependencies journal j job = filter (λ n. comes_after job n.0 n.1.job) (take j (numbered journal))

-- whether all fences that record j waits for are met
abbrev pub is_ready : List JobRecord → ℕ → JobRecord → Bool
is_ready journal j r = list_all (λ n. is_met r.ring n.1) (dependencies journal j r.job)

-- whether all these jobs have outcomes
abbrev pub have_ended : List (ℕ × JobRecord) → Bool
have_ended records = list_all (λ n. has_ended n.1.phase) records

-- the device has this number to give, and the job names fences of earlier jobs alone
pub record HasPlace (spec : DeviceSpec) (number : ℕ) (job : Draft) : Type 0 where
  pub given : number < spec.max_jobs
  pub after : (fence : ℕ) → Contains job.after fence → fence < number
