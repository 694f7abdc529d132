use Rattle.std.proofs.Common.{◌∙◌, ◌++◌, List, ℕ, ap, sym}
use Rattle.drm_explain.specs.Rows.{sentence_at}
use Rattle.drm_engine.specs.Filling.{filled}
use Rattle.drm_engine.specs.Filling.{one}
use Rattle.drm_words.specs.Subjects.{ring_of}
use Rattle.drm_words.proofs.Refusals.{idle_otherwise, no_job, no_packet, no_ready_job}
use Rattle.drm_words.proofs.refused.place_idle.Goals as goal

pub returns-in-Pick : goal.returns-in-Pick
returns-in-Pick c = rw (← c.ring_in-ring.ensures, c.in-Pick.is, no_ready_job) c.place_one.ensures

pub returns-in-Step : goal.returns-in-Step
returns-in-Step c = rw (← c.ring_in-ring.ensures, c.in-Step.is, no_packet) c.place_one-in-Step.ensures

pub returns-in_default : goal.returns-in_default
returns-in_default c =
    let case = sym no_job ∙ ap (λ (n : ℕ). sentence_at 40 n) (sym (idle_otherwise c.args.subject.now c.in_default.not-Pick c.in_default.not-Step)) in
    (rw c.ring_in-ring.ensures at c.place_one-in_default.ensures) ∙ ap (λ (t : List ℕ). c.args.piece.now ++ filled t (one (ring_of c.args.subject.now))) case
