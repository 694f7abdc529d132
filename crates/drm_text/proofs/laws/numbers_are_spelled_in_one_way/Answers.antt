use Rattle.std.proofs.Common.{sym}
use Rattle.drm_text.proofs.NumberLaws.{number_takes}
use Rattle.drm_text.proofs.NumbersWritten.{number_written}
use Rattle.drm_text.proofs.laws.numbers_are_spelled_in_one_way.Goals as goal

pub returns-clause-read : goal.returns-clause-read
returns-clause-read c = λ most n word small e. sym (number_takes most n word small e)

pub returns-clause-written : goal.returns-clause-written
returns-clause-written c = number_written
