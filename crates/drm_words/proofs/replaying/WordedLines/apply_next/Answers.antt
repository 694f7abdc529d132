use Rattle.std.proofs.Common.{◌≡◌, ◌∷◌, ◌∙◌, ap, subst, sym}
use Rattle.drm_core.specs.Run.{AllNamesExist}
use Rattle.drm_words.specs.Because.{missing_of}
use Rattle.drm_words.specs.Subjects.{subject_of}
use Rattle.drm_words.proofs.replaying.WordedLines.apply_next.Goals as goal

pub returns-in-Some-clause-some : goal.returns-in-Some-clause-some
returns-in-Some-clause-some c = (c.in-Some.event, c.in-Some.ensures.some, c.apply-answer.ensures.step)

pub returns-in-Some-clause-noted : goal.returns-in-Some-clause-noted
returns-in-Some-clause-noted c = λ event split.
    let same : c.in-Some.event ≡ event = cc (c.in-Some.ensures.some, split) in
    (c.apply-answer.ensures.subject ∙ ap subject_of same, c.apply-answer.ensures.missing ∙ ap (missing_of c.args.core.now) same)

pub returns-in-Some-clause-names : goal.returns-in-Some-clause-names
returns-in-Some-clause-names c =
    let left = c.next.new.self in
    let before = c.args.core.now in
    let named : AllNamesExist before.device.spec (c.in-Some.event ∷ left) = subst (AllNamesExist before.device.spec) c.in-Some.ensures.some c.requires.names in
    subst (λ spec. AllNamesExist spec left) (sym c.apply-answer.ensures.grows.spec) named.1

pub returns-in-Some-clause-spec : goal.returns-in-Some-clause-spec
returns-in-Some-clause-spec c = c.apply-answer.ensures.grows.spec
