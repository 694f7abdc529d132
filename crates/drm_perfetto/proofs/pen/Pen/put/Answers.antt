use Rattle.std.proofs.Common.{◌∙◌, ◌∷◌, [], sym}
use Rattle.drm_perfetto.proofs.Pens.{entry_lost, entry_put}
use Rattle.drm_perfetto.proofs.pen.Pen.put.Goals as goal

pub returns-then-not-is_well : goal.returns-then-not-is_well
returns-then-not-is_well g c = entry_lost c.args.self.now c.args.writer.now (c.args.entry ∷ []) (sym c.is_ok-is_well.ensures.value ∙ c.if-not-is_well.true)

pub returns : goal.returns
returns g c = entry_put c.args.self.now _ c.args.writer.now c.put_entry-self.new.writer c.args.entry (sym c.is_ok-is_well.ensures.value ∙ c.if-not-is_well.false) c.put_entry-self.ensures
