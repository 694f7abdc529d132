use Rattle.std.proofs.Common.{◌∙◌, ◌++◌, List, ℕ, ap, sym}
use Rattle.drm_words.proofs.Refusals.{bytes_otherwise}
use Rattle.drm_words.proofs.sentences.place_bytes.Goals as goal

pub returns-in_default : goal.returns-in_default
returns-in_default c =
    (rw c.buffer_in.ensures at c.place_one.ensures)
    ∙ ap (λ (t : List ℕ). c.args.piece.now ++ t) (sym (bytes_otherwise c.args.subject.now c.args.bytes.now c.in_default.not-Read))
