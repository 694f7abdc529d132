use Rattle.std.proofs.Common.{◌≡◌, ◌∙◌, ◌-◌, ◌==◌, sym, subst, find, List, None, arith}
use Rattle.std.specs.Option.{option_copied}
use Rattle.std.specs.Slice.{IsItemAt}
use Rattle.drm_svg.specs.declared.placing.Placed.{Placed}
use Rattle.drm_svg.proofs.InTurn.{found_in_turn, lent_at, none_before}
use Rattle.drm_svg.proofs.fences.Fences.find.Goals as goal

pub returns-then-fence-self : goal.returns-then-fence-self
returns-then-fence-self c =
    let fences = c.self.inside.placed.items in
    subst (λ (l : List Placed). None ≡ find (λ (p : Placed). p.bar.opening.number == c.args.fence) l) c.self.view_is
    (sym (none_before fences c.self.inside.first c.args.fence (c.self.invariant c.if-not-self.false) c.if-fence-self.true))

pub returns : goal.returns
returns c =
    let fences = c.self.inside.placed.items in
    subst (λ (l : List Placed). option_copied c.get.result ≡ find (λ (p : Placed). p.bar.opening.number == c.args.fence) l) c.self.view_is
    (lent_at fences (c.args.fence - c.self.inside.first) c.get.result (subst (λ (l : List Placed). IsItemAt l (c.args.fence - c.self.inside.first) c.get.result) c.as_slice.ensures.value c.get.ensures.lookup) ∙ sym (found_in_turn fences c.self.inside.first c.args.fence (c.self.invariant c.if-not-self.false) (omega arith)))
