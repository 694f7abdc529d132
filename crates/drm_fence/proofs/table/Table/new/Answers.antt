use Rattle.std.proofs.Common.{◌≡◌, ◌*◌, List, Option, None, replicate, sym, ap, subst, ◌∙◌, rules}
use Rattle.drm_fence.specs.declared.pair.Pair.{Pair}
use Rattle.drm_fence.specs.Cells.{pairs_in}
use Rattle.drm_fence.specs.Linked.{IsLinked}
use Rattle.drm_fence.proofs.Pairs.{pairs_none}
use Rattle.drm_fence.proofs.Linking.{none_linked}
use Rattle.drm_fence.proofs.table.Table.new.Goals as goal

pub returns-clause-linked : goal.returns-clause-linked
returns-clause-linked c =
    let cells : c.in_ok-vec.field-0.items ≡ replicate {A = Option Pair} (c.args.entities * 64) None = search rules in
    let counts : c.in_ok-vec-2.field-0.items ≡ replicate c.args.entities 0 = search rules in
    subst (λ (l : List (Option Pair)). IsLinked l c.in_ok-vec-2.field-0.items c.in_ok-empty_rings.field-0.items) (sym cells)
    (subst (λ l. IsLinked (replicate (c.args.entities * 64) None) l c.in_ok-empty_rings.field-0.items) (sym counts)
    (none_linked c.args.entities c.in_ok-empty_rings.field-0.items c.requires c.in_ok-empty_rings.ensures.places))

pub returns-clause-pairs : goal.returns-clause-pairs
returns-clause-pairs c =
    let cells : c.in_ok-vec.field-0.items ≡ replicate {A = Option Pair} (c.args.entities * 64) None = search rules in
    ap pairs_in cells ∙ pairs_none (c.args.entities * 64)
