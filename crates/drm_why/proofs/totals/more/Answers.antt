use Rattle.std.proofs.Common.{sym}
use Rattle.drm_why.proofs.Most.{none_more, told_more}
use Rattle.drm_why.proofs.totals.more.Goals as goal

pub returns-in_default : goal.returns-in_default
returns-in_default c = none_more c.args.ring c.args.rows.now c.args.number c.args.most (sym c.in_default.ensures) c.requires.most

pub returns-then-was_held : goal.returns-then-was_held
returns-then-was_held c =
    told_more c.args.ring c.args.rows.now c.args.number c.in-Some.fence c.args.most (sym c.in-Some.ensures) (c.was_held.ensures c.if-was_held.true) c.requires.most
