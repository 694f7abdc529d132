use Rattle.std.proofs.Common.{rules}
use Rattle.drm_text.specs.Hexadecimal.{bytes_at}
use Rattle.drm_text.proofs.hexadecimal.read_bytes_word.Goals as goal

pub returns-clause-value : goal.returns-clause-value
unfolding bytes_at
returns-clause-value c = search rules
