use Rattle.std.proofs.Common.{◌≡◌, ◌++◌}
use Rattle.drm_draw.specs.Page.{patterns_text}
use Rattle.drm_draw.proofs.page.put_patterns.Given as goal

abbrev pub invariant-loop-entity : goal.invariant-loop-entity
invariant-loop-entity l = l.out.items ≡ l.initial.out.items ++ patterns_text l.entity
