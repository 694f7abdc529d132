use Rattle.std.proofs.Common.{◌∙◌, sym}
use Rattle.std.proofs.lemmas.Bool.{ltb-false, ltb-true}
use Rattle.std.proofs.lemmas.Option.{slice_get_within}
use Rattle.drm_why.specs.Longest.{commands_of}
use Rattle.drm_why.proofs.Longer.{held_longer, held_shorter, longest_within}
use Rattle.drm_why.proofs.longest.longer_of.Goals as goal

pub is_longer-requires-clause-number : goal.is_longer-requires-clause-number
is_longer-requires-clause-number c = slice_get_within c.args.changes.now c.args.number c.requires.held.0 c.requires.held.1.at

pub is_longer-requires-clause-other : goal.is_longer-requires-clause-other
is_longer-requires-clause-other c = longest_within c.args.changes.now c.args.place c.args.number c.args.other c.requires.longest

pub returns-then-is_longer : goal.returns-then-is_longer
returns-then-is_longer c =
    let changes = c.args.changes.now in
    held_longer changes c.args.place c.args.number c.args.other c.requires.held.0 c.requires.held.1
    (ltb-true (commands_of changes c.args.place c.args.other) (commands_of changes c.args.place c.args.number) (sym c.is_longer.ensures ∙ c.if-is_longer.true))
    c.requires.longest

pub returns : goal.returns
returns c =
    let changes = c.args.changes.now in
    held_shorter changes c.args.place c.args.number c.args.other
    (ltb-false (commands_of changes c.args.place c.args.other) (commands_of changes c.args.place c.args.number) (sym c.is_longer.ensures ∙ c.if-is_longer.false))
    c.requires.longest
