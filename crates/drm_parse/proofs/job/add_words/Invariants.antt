use Rattle.std.proofs.Common.{◌≡◌, length}
use Rattle.drm_text.specs.Words.{position_of}
use Rattle.drm_parse.specs.Job.{with_words}
use Rattle.drm_parse.proofs.job.add_words.Given as goal

abbrev pub invariant-loop-word : goal.invariant-loop-word
invariant-loop-word l = (l.position ≡ position_of l.words) × (with_words l.draft l.words.line l.words.rest.at l.words.rest.parts ≡ with_words l.fn.draft l.fn.words.line l.fn.words.rest.at l.fn.words.rest.parts)

abbrev pub decreases-loop-word : goal.decreases-loop-word
decreases-loop-word l = length l.words.rest.parts
