use Rattle.std.proofs.Common.{◌∙◌, ℕ, ◌+◌, ◌-◌, ap, drop, get_or, sym}
use Rattle.std.specs.Option.{option_map_or}
use Rattle.drm_lists.proofs.Places.{at_index}
use Rattle.drm_why.specs.Longest.{end_of}
use Rattle.drm_why.specs.declared.seeing.Change.{Change}
use Rattle.drm_why.proofs.longest.commands.Goals as goal

pub returns : goal.returns
returns c =
    let changes = c.args.changes.now in
    let change = c.index-changes-number.result in
    let at = at_index changes c.args.number change c.index-changes-number.is c.requires in
    let ends = end_of (drop (c.args.number + 1) changes) c.args.place in
    c.saturating_sub.ensures
    ∙ (ap (λ (n : ℕ). n - (get_or changes c.args.number change).place) c.end.ensures
    ∙ (ap (λ (x : Change). ends - x.place) (sym c.index-changes-number.is)
    ∙ sym (ap (λ o. option_map_or (λ (x : Change). ends - x.place) o 0) at)))
