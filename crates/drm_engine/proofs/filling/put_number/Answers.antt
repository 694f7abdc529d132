use Rattle.drm_engine.proofs.Placings.{told_placed}
use Rattle.std.specs.Fmt.{decimal}
use Rattle.drm_engine.proofs.filling.put_number.Goals as goal

pub returns : goal.returns
returns g c =
    told_placed c.args.writer.now c.make_room.new.writer c.args.piece.now c.make_room.new.piece (decimal c.args.number) c.place_number.new.piece
    c.in_ok-make_room.ensures.told c.place_number.ensures.text
