use Rattle.std.proofs.Common.{take, ap, ◌∙◌, rules}
use Rattle.std.proofs.lemmas.List.{with_items_is, places}
use Rattle.std.proofs.lemmas.Result.{err_from_is_err_and}
use Rattle.drm_stream.proofs.Known.{refused_memory}
use Rattle.drm_stream.proofs.input.read_more.Goals as goal

pub returns-in_err-make_room-clause-failures : goal.returns-in_err-make_room-clause-failures
returns-in_err-make_room-clause-failures g c =
    let p = err_from_is_err_and c.from_residual.result c.from_residual.ensures.1 in rw p.1 (refused_memory c.args.reader.now _ p.2)

pub returns-clause-front : goal.returns-clause-front
returns-clause-front g c =
    ap (take c.args.len) (with_items_is c.make_room.new.text c.read_behind.new.text (search (rules, places)))
    ∙ c.read_behind.ensures.front ∙ ap (take c.args.len) c.as_mut_slice.ensures.value ∙ c.make_room.ensures.front

pub returns-clause-ok : goal.returns-clause-ok
returns-clause-ok g c = rw (with_items_is c.make_room.new.text c.read_behind.new.text (search (rules, places))) c.read_behind.ensures.ok
