use Rattle.std.proofs.Common.{arith}
use Rattle.drm_answer.proofs.lines.place_number.Goals as goal

pub place_digit-requires-clause-most : goal.place_digit-requires-clause-most
place_digit-requires-clause-most c = omega arith
