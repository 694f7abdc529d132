use Rattle.std.proofs.Common.{◌+◌, ◌-◌, vec_len}
use Rattle.drm_rules.specs.Rows.{SameRows}
use Rattle.drm_rules.proofs.rows.make_room.Given as goal

abbrev pub invariant-rows : goal.invariant-rows
invariant-rows g l = SameRows l.nothing l.fn.rows.items l.rows.items

abbrev pub decreases-rows : goal.decreases-rows
decreases-rows g l = l.at + 1 - vec_len l.rows
