use Rattle.std.proofs.Common.{◌≡◌, ◌++◌, take}
use Rattle.drm_picture.specs.Waits.{waits_on}
use Rattle.drm_picture.proofs.waits.push_waits.Given as goal

abbrev pub invariant-loop-job : goal.invariant-loop-job
invariant-loop-job l = l.waits.items ≡ l.initial.waits.items ++ waits_on l.place l.fence (take l.job-index l.jobs)
