use Rattle.std.proofs.Common.{◌∙◌, ◌++◌, ℕ, List, subst, sym}
use Rattle.drm_engine.specs.Replaying.{Told}
use Rattle.drm_perfetto.proofs.Pens.{text_lost, text_put}
use Rattle.drm_perfetto.proofs.pen.Pen.put_words.Goals as goal

pub returns-then-not-is_well : goal.returns-then-not-is_well
returns-then-not-is_well g c = text_lost c.args.self.now c.args.writer.now c.args.words.now (sym c.is_ok-is_well.ensures.value ∙ c.if-not-is_well.true)

pub returns : goal.returns
returns g c =
    text_put c.args.self.now _ c.args.writer.now c.put_bytes-self.new.writer c.args.words.now (sym c.is_ok-is_well.ensures.value ∙ c.if-not-is_well.false)
    (subst (λ (t : List ℕ). Told c.args.writer.now c.put_bytes-self.new.writer c.put_bytes-self.result (c.args.self.now.piece ++ t) c.put_bytes-self.new.piece) c.as_bytes.ensures.value c.put_bytes-self.ensures)
