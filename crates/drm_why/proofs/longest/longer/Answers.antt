use Rattle.std.proofs.Common.{◌∙◌, ap, subst, sym}
use Rattle.drm_lists.proofs.Places.{at_index}
use Rattle.drm_types.specs.Firsts.{is_nil}
use Rattle.drm_why.specs.Longest.{LongestIs}
use Rattle.drm_why.specs.declared.seeing.Change.{Change}
use Rattle.drm_why.proofs.Longer.{held_first, not_held}
use Rattle.drm_why.proofs.longest.longer.Goals as goal

pub returns-then-is_empty : goal.returns-then-is_empty
returns-then-is_empty c =
    let change = c.index-changes-number.result in
    let at = at_index c.args.changes.now c.args.number change c.index-changes-number.is c.requires.there in
    not_held c.args.changes.now c.args.place c.args.number c.args.longest change at (ap (λ (x : Change). is_nil x.links) c.index-changes-number.is ∙ (sym c.is_empty.ensures ∙ c.if-is_empty.true)) c.requires.longest

pub longer_of-requires-clause-longest : goal.longer_of-requires-clause-longest
longer_of-requires-clause-longest c = subst (LongestIs c.args.changes.now c.args.place c.args.number) c.in-Some.is c.requires.longest

pub longer_of-requires-clause-held : goal.longer_of-requires-clause-held
longer_of-requires-clause-held c =
    let change = c.index-changes-number.result in
    let at = at_index c.args.changes.now c.args.number change c.index-changes-number.is c.requires.there in
    (change, record { at = at; held = ap (λ (x : Change). is_nil x.links) c.index-changes-number.is ∙ (sym c.is_empty.ensures ∙ c.if-is_empty.false) })

pub returns-in-None : goal.returns-in-None
returns-in-None c =
    let change = c.index-changes-number.result in
    let at = at_index c.args.changes.now c.args.number change c.index-changes-number.is c.requires.there in
    held_first c.args.changes.now c.args.place c.args.number change (record { at = at; held = ap (λ (x : Change). is_nil x.links) c.index-changes-number.is ∙ (sym c.is_empty.ensures ∙ c.if-is_empty.false) })
    (subst (LongestIs c.args.changes.now c.args.place c.args.number) c.in-None.is c.requires.longest)
