use Rattle.std.proofs.Common.{◌∙◌, ap, not, sym}
use Rattle.drm_perfetto.proofs.Pens.{entries_none, entries_same}
use Rattle.drm_perfetto.proofs.RowFacts.{arrow_kept, arrow_none, arrow_put}
use Rattle.drm_perfetto.proofs.rows.put_arrow_from.Goals as goal

pub returns-then-is_none : goal.returns-then-is_none
returns-then-is_none g c =
    entries_same (arrow_none c.args.track c.args.when c.args.entity c.args.old c.args.new (c.is_none.ensures ∙ ap not c.if-is_none.true)) (entries_none c.args.pen.now c.args.writer.now)

pub returns-then-is_same : goal.returns-then-is_same
returns-then-is_same g c =
    entries_same (arrow_kept c.args.track c.args.when c.args.entity c.args.old c.args.new (sym c.is_same.ensures ∙ c.if-is_same.true)) (entries_none c.args.pen.now c.args.writer.now)

pub returns : goal.returns
returns g c =
    entries_same (arrow_put c.args.track c.args.when c.args.entity c.args.old c.args.new (c.is_none.ensures ∙ ap not c.if-is_none.false) (sym c.is_same.ensures ∙ c.if-is_same.false)) c.put_pair.ensures
