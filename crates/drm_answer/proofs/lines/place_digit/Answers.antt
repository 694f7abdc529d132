use Rattle.std.proofs.Common.{rules}
use Rattle.drm_answer.proofs.ShortNumbers.{one_digit}
use Rattle.drm_answer.proofs.lines.place_digit.Goals as goal

pub returns-clause-text : goal.returns-clause-text
returns-clause-text c = search (rules, one_digit)
