use Rattle.std.proofs.Common.{rules, ◌∙◌, sym, ap}
use Rattle.std.specs.Prelude.{option_map}
use Rattle.drm_types.specs.Usages.{added_usage}
use Rattle.drm_state.proofs.uses.add_use.Goals as goal

pub add-requires-clause-room : goal.add-requires-clause-room
add-requires-clause-room c =
    c.requires.room (added_usage c.in-Some.access) (ap (option_map added_usage) (sym c.access_of.ensures ∙ c.in-Some.is))

pub returns-in-Some-clause-used : goal.returns-in-Some-clause-used
returns-in-Some-clause-used c = search rules
