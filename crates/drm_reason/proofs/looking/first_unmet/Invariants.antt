use Rattle.drm_reason.specs.Standing.{is_unmet}
use Rattle.drm_reason.specs.Watching.{NoneBelow}
use Rattle.drm_reason.proofs.looking.first_unmet.Given as goal

abbrev pub invariant-loop-number : goal.invariant-loop-number
invariant-loop-number l = NoneBelow l.records (is_unmet l.job) l.number
