-- The numbers of jobs that were armed.
use Rattle.std.specs.Prelude.{◌≡◌, ◌+◌, ℕ, List, [], ◌∷◌, Some, slice_get}
use Rattle.drm_job.specs.declared.Draft.{Draft}
use Rattle.drm_state.specs.declared.journal.JobRecord.{JobRecord}

-- the record of this number is that of the job
abbrev pub JobAt : List JobRecord → ℕ → Draft → Type 0
JobAt records number job = (r : JobRecord) × (slice_get records number ≡ Some r) × (r.job ≡ job)

-- the records of these numbers are those of these jobs, one by one
abbrev pub AreJobsOf : List JobRecord → List ℕ → List Draft → Type 0
AreJobsOf records [] [] = Unit {0}
AreJobsOf records [] (job ∷ jobs) = ⊥
AreJobsOf records (n ∷ ns) [] = ⊥
AreJobsOf records (n ∷ ns) (job ∷ jobs) = JobAt records n job × AreJobsOf records ns jobs

-- the numbers of the records, counted from this one
abbrev pub numbers_from : ℕ → List JobRecord → List ℕ
numbers_from low [] = []
numbers_from low (r ∷ rs) = low ∷ numbers_from (low + 1) rs
