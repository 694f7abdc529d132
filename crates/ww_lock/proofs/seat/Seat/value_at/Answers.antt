use Rattle.std.proofs.Common.{rules, arith, ◌≡◌, ◌<◌, ℕ, zero, suc, List, [], ◌∷◌, length, get_or, refl, sym, ap, ◌∙◌}
use Rattle.ww_lock.specs.Lending.{number_or, with_held}
use Rattle.ww_lock.proofs.seat.Seat.value_at.Goals as goal

number_is : {A : Type 0} (xs : List (ℕ × A)) (i : ℕ) (d : ℕ × A) → i < length xs → (get_or xs i d).0 ≡ number_or xs i
number_is [] i d l = absurd (omega arith)
number_is (x ∷ xs) zero d l = refl
number_is (x ∷ xs) (suc i) d l = number_is xs i d (omega arith)

pub returns : goal.returns
returns g c = let e = c.index_mut-entry.result.now in let s = c.args.self.now in let xs = s.held.items in let i = c.args.i in let is = c.index_mut-entry.ensures.value in let l : i < length xs = search rules in
    let same : e.0 ≡ number_or xs i = ap (λ z. z.0) is ∙ number_is xs i e l in
    ((refl, λ w. ap (λ n. with_held s i n w) same), record { writes_back = tt; value = ap (λ n. (n, e.1)) (sym same) ∙ (is ∙ ap (λ (d : _). get_or xs i d) (ap (λ n. (n, e.1)) same)) })
