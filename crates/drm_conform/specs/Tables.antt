-- Tables of times: what their rows tell.
use Rattle.std.specs.Prelude.{◌≡◌, ℕ, List, slice_index_or}
use Rattle.drm_trace.specs.declared.event.Event.{Event}
use Rattle.drm_conform.specs.declared.times.Total.{Total}
use Rattle.drm_conform.specs.Times.{no_time, released, total_of}

-- the rows have of each job when it was released last
abbrev pub AreReleases : List Event → List ℕ → Type 0
AreReleases log rows = (job : ℕ) → slice_index_or rows job 0 ≡ released log job

-- the rows have of each ring the times of its jobs, of so many jobs
abbrev pub AreTotals : List Event → ℕ → List Total → Type 0
AreTotals log jobs rows = (ring : ℕ) → slice_index_or rows ring no_time ≡ total_of log jobs ring
