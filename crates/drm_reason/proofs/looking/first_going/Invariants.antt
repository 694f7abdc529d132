use Rattle.drm_reason.specs.Reasons.{is_going}
use Rattle.drm_reason.specs.Watching.{NoneBelow}
use Rattle.drm_reason.proofs.looking.first_going.Given as goal

abbrev pub invariant-loop-number : goal.invariant-loop-number
invariant-loop-number l = NoneBelow l.records (is_going l.job) l.number
