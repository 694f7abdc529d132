use Rattle.std.proofs.Common.{rules}
use Rattle.drm_text.specs.Hexadecimal.{last_bytes_at}
use Rattle.drm_text.proofs.hexadecimal.read_last_bytes.Goals as goal

pub returns-clause-value : goal.returns-clause-value
unfolding last_bytes_at
returns-clause-value c = search rules
