use Rattle.std.proofs.Common.{rules}
use Rattle.drm_text.proofs.hexadecimal.read_digit.Goals as goal

pub returns-then-value-lt16 : goal.returns-then-value-lt16
returns-then-value-lt16 c = search rules

pub returns-else-value-lt16 : goal.returns-else-value-lt16
returns-else-value-lt16 c = search rules
