-- How a worker counts the jobs that it ends.
use Rattle.std.specs.Prelude.{ℕ, ◌+◌, ◌-◌, ◌^◌, min, Bool, true, false}

-- what a worker has counted behind a try to end a job: one more where the job has ended, up to the greatest number
abbrev pub counted : Bool → ℕ → ℕ
counted true count = min (count + 1) (2 ^ 32 - 1)
counted false count = count
