use Rattle.std.proofs.Common.{rules}
use Rattle.drm_text.proofs.number.digit_value.Goals as goal

pub returns-then-value-most-clause-value : goal.returns-then-value-most-clause-value
returns-then-value-most-clause-value c = search rules
