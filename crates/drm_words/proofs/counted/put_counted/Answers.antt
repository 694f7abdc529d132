use Rattle.drm_words.proofs.Between.{told_counted}
use Rattle.drm_words.proofs.counted.put_counted.Goals as goal

pub returns : goal.returns
returns g c =
    told_counted c.args.writer.now c.make_room.new.writer c.args.piece.now c.make_room.new.piece c.put_all.new.self c.place_number.new.piece c.put_all-2.new.self
    c.args.before.now c.args.behind.now c.args.number c.in_ok-make_room.ensures.told c.put_all.ensures (rw c.from.ensures at c.place_number.ensures.text) c.put_all-2.ensures
