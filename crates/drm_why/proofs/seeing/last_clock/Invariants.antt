use Rattle.std.proofs.Common.{◌≡◌, drop}
use Rattle.std.specs.Prelude.{fold}
use Rattle.drm_why.specs.Seeing.{clock_behind, clock_of}
use Rattle.drm_why.proofs.seeing.last_clock.Given as goal

abbrev pub invariant-loop-seen : goal.invariant-loop-seen
invariant-loop-seen l = fold (λ clock seen. clock_behind clock seen.command) l.clock (drop l.seen-index l.seens) ≡ clock_of l.seens
