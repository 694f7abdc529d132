use Rattle.std.proofs.Common.{arith}
use Rattle.drm_svg.proofs.Rooms.{byte_placed}
use Rattle.drm_svg.proofs.words.place_bytes.Goals as goal

pub bytes-preserved : goal.bytes-preserved
bytes-preserved c = byte_placed c.args.room.now c.bytes.room c.args.bytes.now c.args.at c.bytes.place (omega arith) (omega arith) c.bytes.invariant
