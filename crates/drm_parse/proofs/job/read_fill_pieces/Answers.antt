use Rattle.std.proofs.Common.{rules}
use Rattle.drm_parse.proofs.InTurn.{fill_is_in_turn}
use Rattle.drm_parse.proofs.job.read_fill_pieces.Goals as goal

pub returns-in_err-packet : goal.returns-in_err-packet
returns-in_err-packet c = search (rules, fill_is_in_turn)
