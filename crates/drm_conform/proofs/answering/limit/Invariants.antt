use Rattle.std.proofs.Common.{◌≡◌, drop}
use Rattle.std.specs.Prelude.{find}
use Rattle.std.specs.Str.{bytes_eq}
use Rattle.drm_conform.proofs.answering.limit.Given as goal

abbrev pub invariant-loop-limit : goal.invariant-loop-limit
invariant-loop-limit l = find (λ given. bytes_eq given.ring l.name) (drop l.limit-index l.limits) ≡ find (λ given. bytes_eq given.ring l.name) l.limits
