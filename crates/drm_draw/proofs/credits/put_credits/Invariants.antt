use Rattle.std.proofs.Common.{◌≡◌, ◌++◌, take, flat_map}
use Rattle.drm_draw.specs.Credits.{line_text}
use Rattle.drm_draw.proofs.credits.put_credits.Given as goal

abbrev pub invariant-loop-rows : goal.invariant-loop-rows
invariant-loop-rows l = l.out.items ≡ l.initial.out.items ++ flat_map (line_text l.limits l.before l.part l.picture) (take l.rows-index l.layout.lanes.items)
