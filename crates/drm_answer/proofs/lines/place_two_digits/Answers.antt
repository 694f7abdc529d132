use Rattle.std.proofs.Common.{rules}
use Rattle.drm_answer.proofs.ShortNumbers.{two_digits}
use Rattle.drm_answer.proofs.lines.place_two_digits.Goals as goal

pub returns-clause-text : goal.returns-clause-text
returns-clause-text c = search (rules, two_digits)
