use Rattle.std.proofs.Common.{◌≡◌, ◌≤◌}
use Rattle.drm_conform.specs.Times.{counts_of}
use Rattle.drm_conform.proofs.times.count_jobs.Given as goal

abbrev pub invariant-loop-job : goal.invariant-loop-job
invariant-loop-job l = record {
  counts : record { jobs = l.shown; early = l.early; late = l.late } ≡ counts_of l.index l.job;
  shown : l.shown ≤ l.job;
  early : l.early ≤ l.job;
  late : l.late ≤ l.job;
}
