use Rattle.std.proofs.Common.{rules}
use Rattle.drm_text.proofs.hexadecimal.read_byte.Goals as goal

pub returns-in_ok-read_digit-in-len2-2 : goal.returns-in_ok-read_digit-in-len2-2
returns-in_ok-read_digit-in-len2-2 c = search rules
