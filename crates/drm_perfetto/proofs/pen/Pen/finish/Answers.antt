use Rattle.std.proofs.Common.{ℕ, List, Result, subst}
use Rattle.drm_engine.specs.Replaying.{Told}
use Rattle.drm_engine.proofs.Pieces.{told_written}
use Rattle.drm_perfetto.proofs.pen.Pen.finish.Goals as goal

pub returns-in-Ok : goal.returns-in-Ok
returns-in-Ok g c = λ start text was.
    subst (λ (l : List ℕ). Told start c.write_to.new.writer c.write_to.result text l) c.write_to.ensures.bare
    (told_written start c.args.writer.now c.write_to.new.writer c.write_to.result text c.args.self.now.piece c.write_to.new.self
    (subst (λ (t : Result _ _). Told start c.args.writer.now t text c.args.self.now.piece) c.in-Ok.is was) c.write_to.ensures.told)

pub returns-in-Err : goal.returns-in-Err
returns-in-Err g c = λ start text was. subst (λ (t : Result _ _). Told start c.args.writer.now t text c.args.self.now.piece) c.in-Err.is was
