use Rattle.std.proofs.Common.{◌∙◌, sym}
use Rattle.drm_perfetto.proofs.Pens.{entries_more, entries_none}
use Rattle.drm_perfetto.proofs.rows.put_turned.Goals as goal

pub returns-then-is_same : goal.returns-then-is_same
returns-then-is_same g c = rw (sym c.is_same.ensures ∙ c.if-is_same.true) (entries_none c.args.pen.now c.args.writer.now)

pub returns : goal.returns
returns g c = rw (sym c.is_same.ensures ∙ c.if-is_same.false) (entries_more c.put_end.ensures c.put_begin.ensures)
