use Rattle.drm_text.proofs.BytesWritten.{bytes_takes, bytes_written}
use Rattle.drm_text.proofs.laws.bytes_are_spelled_in_one_way.Goals as goal

pub returns-clause-read : goal.returns-clause-read
returns-clause-read c = bytes_takes

pub returns-clause-written : goal.returns-clause-written
returns-clause-written c = bytes_written
