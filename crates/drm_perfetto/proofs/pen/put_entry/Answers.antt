use Rattle.drm_perfetto.specs.Entries.{text_of}
use Rattle.drm_engine.proofs.Placings.{told_placed}
use Rattle.drm_perfetto.proofs.pen.put_entry.Goals as goal

pub returns : goal.returns
returns g c =
    told_placed c.args.writer.now c.make_room.new.writer c.args.piece.now c.make_room.new.piece (text_of c.args.entry) c.place_entry.new.piece c.in_ok-make_room.ensures.told c.place_entry.ensures
