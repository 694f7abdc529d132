use Rattle.std.proofs.Common.{rules, ap, sym, subst, ◌∙◌, ◌∷◌, ◌≡◌}
use Rattle.ww_lock.specs.Steps.{IsLater}
use Rattle.ww_lock.proofs.Closing.{pivot_or, first_pivot}
use Rattle.atomic_table.specs.Table.{rest}
use Rattle.ww_lock.specs.declared.board.Slot.TheVariants.{Pivot}
use Rattle.ww_lock.proofs.inside.try_pivot.Goals as goal

pub exchange-requires : goal.exchange-requires
exchange-requires g c = let e = c.enter-was_home.ensures.entered.0 c.if-not-was_home.false in
    (search rules, (Pivot e.0, ap (λ m. m.1) e.1 ∙ ap (λ l. (0, Pivot e.0) ∷ l) (sym (ap (λ m. rest m.1) e.1))))

pub returns-clause-later : goal.returns-clause-later
returns-clause-later g c = let w = g.W.Ward in let e = c.enter-was_home.ensures.entered.0 c.if-not-was_home.false in
    let same : e.0 ≡ c.in-Pivot.pivot = ap (first_pivot e.0) (sym (ap (λ m. m.1) e.1) ∙ c.exchange.ensures.2) ∙ ap (pivot_or e.0) c.in-Pivot.is in
    subst (λ p. IsLater w.facts c.args.place.now.me.0 p) same e.2
