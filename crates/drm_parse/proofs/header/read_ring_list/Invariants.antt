use Rattle.std.proofs.Common.{◌≡◌, length}
use Rattle.drm_parse.specs.Header.{with_rings, rings_of}
use Rattle.drm_parse.proofs.header.read_ring_list.Given as goal

abbrev pub invariant-loop-piece : goal.invariant-loop-piece
invariant-loop-piece l = with_rings l.rings l.pieces.parts ≡ rings_of l.fn.word

abbrev pub decreases-loop-piece : goal.decreases-loop-piece
decreases-loop-piece l = length l.pieces.parts
