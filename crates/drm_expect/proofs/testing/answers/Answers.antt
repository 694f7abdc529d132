use Rattle.std.proofs.Common.{◌≡◌, List, refl, subst, sym}
use Rattle.std.proofs.lemmas.Result.{IfOk-weaker}
use Rattle.drm_state.specs.declared.answer.Answer.{Answer}
use Rattle.drm_engine.specs.Replaying.{AreAnswers}
use Rattle.drm_engine.proofs.Pieces.{played}
use Rattle.drm_expect.proofs.testing.answers.Goals as goal

pub returns : goal.returns
returns c =
    IfOk-weaker c.take_answers.result _ _
    (λ answers told.
    let a = played c.args.script c.in-Ok.core c.take_answers.new.core c.args.script.lines (λ given. answers.items ≡ given) c.every_run_is_lawful.ensures c.headline.ensures
    c.in-Ok.ensures.ok.0 refl c.requires.exist told in
    subst (λ (given : List Answer). AreAnswers c.args.script given) (sym a.2) a.1)
    c.take_answers.ensures
