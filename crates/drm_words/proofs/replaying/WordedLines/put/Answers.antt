use Rattle.std.proofs.Common.{◌++◌, Option, ℕ, subst}
use Rattle.std.proofs.lemmas.Result.{err_from_is_err_and}
use Rattle.drm_core.specs.declared.event.Event.{Event}
use Rattle.drm_engine.specs.Replaying.{Told, ToldFront}
use Rattle.drm_words.specs.Because.{Missing}
use Rattle.drm_words.specs.Lines.{line_behind, worded_answer, worded_line}
use Rattle.drm_words.specs.Subjects.{subject_of}
use Rattle.drm_engine.proofs.Putting.{front_then, said_more}
use Rattle.drm_words.proofs.replaying.WordedLines.put.Goals as goal

pub returns-in_err-put_worded_answer : goal.returns-in_err-put_worded_answer
unfolding worded_line
returns-in_err-put_worded_answer g c = λ before event noted step.
    let p = err_from_is_err_and c.from_residual.result c.from_residual.ensures.1 in
    let core = c.args.core.now in
    let answer = c.args.answer.now in
    let start = c.args.piece.now in
    let worded = c.args.self.now in
    rw p.1 (subst (λ (m : Option Missing). ToldFront c.args.writer.now c.put_worded_answer.new.writer (start ++ (worded_answer (subject_of event) answer ++ line_behind core (subject_of event) m answer))) noted.1
    (subst (λ (s : Event ℕ). ToldFront c.args.writer.now c.put_worded_answer.new.writer (start ++ (worded_answer s answer ++ line_behind core s worded.missing answer))) noted.0
    (front_then c.args.writer.now c.put_worded_answer.new.writer start (worded_answer worded.subject answer) (line_behind core worded.subject worded.missing answer) c.in_err-put_worded_answer.ensures)))

pub returns : goal.returns
unfolding worded_line
returns g c = λ before event noted step.
    let core = c.args.core.now in
    let answer = c.args.answer.now in
    let start = c.args.piece.now in
    let worded = c.args.self.now in
    subst (λ (m : Option Missing). Told c.args.writer.now c.put_behind.new.writer c.put_behind.result (start ++ (worded_answer (subject_of event) answer ++ line_behind core (subject_of event) m answer)) c.put_behind.new.piece) noted.1
    (subst (λ (s : Event ℕ). Told c.args.writer.now c.put_behind.new.writer c.put_behind.result (start ++ (worded_answer s answer ++ line_behind core s worded.missing answer)) c.put_behind.new.piece) noted.0
    (said_more c.args.writer.now c.put_worded_answer.new.writer c.put_behind.new.writer c.put_behind.result start (worded_answer worded.subject answer) (line_behind core worded.subject worded.missing answer)
    c.put_worded_answer.new.piece c.put_behind.new.piece c.in_ok-put_worded_answer.ensures c.put_behind.ensures))
