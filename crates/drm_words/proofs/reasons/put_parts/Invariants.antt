use Rattle.drm_words.proofs.Parts.{ToldParts}
use Rattle.drm_words.proofs.reasons.put_parts.Given as goal

abbrev pub invariant-loop-part : goal.invariant-loop-part
invariant-loop-part g l = ToldParts l.fn.writer l.writer l.fn.piece l.piece l.parts l.part-index
