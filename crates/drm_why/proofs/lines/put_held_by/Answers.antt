use Rattle.std.proofs.lemmas.Option.{slice_get_within}
use Rattle.drm_why.proofs.lines.put_held_by.Goals as goal

pub commands-commands-requires : goal.commands-commands-requires
commands-commands-requires c = slice_get_within c.args.changes.now c.args.number c.args.change.now c.requires
