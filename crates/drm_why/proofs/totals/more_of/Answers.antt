use Rattle.std.proofs.Common.{arith}
use Rattle.drm_why.proofs.Most.{fewer_more, greater_more}
use Rattle.drm_why.proofs.totals.more_of.Goals as goal

pub returns-then-commands : goal.returns-then-commands
returns-then-commands c =
    greater_more c.args.ring c.args.rows.now c.args.number c.args.other c.args.fence c.requires.held
    (omega (arith, c.if-commands.true, c.commands.ensures, c.commands-2.ensures)) c.requires.most

pub returns : goal.returns
returns c =
    fewer_more c.args.ring c.args.rows.now c.args.number c.args.other c.args.fence c.requires.held
    (omega (arith, c.if-commands.false, c.commands.ensures, c.commands-2.ensures)) c.requires.most
