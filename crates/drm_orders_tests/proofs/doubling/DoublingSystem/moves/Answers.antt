use Rattle.std.proofs.Common.{[], ◌∷◌, ap, subst, sym, ◌∙◌}
use Rattle.drm_explorer.specs.Exploring.{AreMoves}
use Rattle.drm_orders_tests.specs.Doubling.{Doubles, form_of}
use Rattle.drm_orders_tests.proofs.TwoMoves.{two_moves}
use Rattle.drm_orders_tests.proofs.doubling.DoublingSystem.moves.Goals as goal

pub returns : goal.returns
returns c =
    let number = c.end_of-number.result in
    let moves = two_moves number c.in_ok-even.even c.in_ok-odd.odd (c.in_ok-even.ensures.items ∙ ap (λ n. n ∷ []) c.next.ensures)
    (c.in_ok-odd.ensures.items ∙ ap (λ n. n ∷ []) c.next-2.ensures) in
    (number, c.end_of-number.ensures.leads, subst (AreMoves Doubles form_of number) (sym c.in_ok-vec.ensures.items) moves)
