use Rattle.std.proofs.Common.{◌≡◌, ℕ, List, Ok, subst}
use Rattle.drm_state.specs.declared.answer.Answer.{Answer}
use Rattle.drm_script.specs.Script.{judge_script}
use Rattle.drm_expect.specs.Testing.{ComparesOrLacks}
use Rattle.drm_expect.proofs.Compared.{compared}
use Rattle.drm_expect.proofs.testing.test_lines.Goals as goal

pub returns-in-Ok-answers-clause-ending : goal.returns-in-Ok-answers-clause-ending
returns-in-Ok-answers-clause-ending g c =
    let lines = c.args.lines.now in
    let judged = subst (λ (text : List ℕ). judge_script text ≡ Ok c.in-Ok.script) c.requires.bare c.in-Ok.ensures.value in
    let told = subst (λ (given : List Answer). ComparesOrLacks lines given c.args.writer.now.contents c.compare.new.writer.contents c.compare.result) c.deref.ensures.value c.compare.ensures.ending in
    compared lines c.in-Ok.script c.in-Ok-answers.answers.items c.args.writer.now.contents c.compare.new.writer.contents c.compare.result judged c.in-Ok-answers.ensures told
