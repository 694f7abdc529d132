use Rattle.std.proofs.Common.{◌≡◌, map, take}
use Rattle.drm_conform.specs.Answers.{limit_of}
use Rattle.drm_conform.proofs.answering.ring_limits.Given as goal

abbrev pub invariant-loop-name : goal.invariant-loop-name
invariant-loop-name l = l.found ≡ map (limit_of l.limits) (take l.name-index l.rings)
