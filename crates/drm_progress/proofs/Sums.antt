-- Sums over a list and one that it grew to.
use Rattle.std.proofs.Common.{◌≡◌, ℕ, zero, suc, ◌+◌, ◌<◌, ◌≤◌, List, [], ◌∷◌, length, refl, sym, ap, subst, ◌∙◌, arith, slice_get, Some}
use Rattle.std.specs.Prelude.{sum_by}
use Rattle.std.proofs.lemmas.List.Sums.{sum_by-cons, sum_by-le-sum_by}
use Rattle.drm_state.specs.Grows.{EachInPlace}

module _ {X : Type 0} (left whole : X → ℕ) (Related : X → X → Type 0) (less : (old new : X) → Related old new → left new ≤ left old)
    (same : (old new : X) → Related old new → whole new ≡ whole old) (within : (x : X) → left x ≤ whole x) where
  -- the first elements, and the lists behind them
  record Firsts (x y : X) (older newer : List X) : Type 0 where
    falls : left y ≤ left x
    stays : whole y ≡ whole x
    behind : EachInPlace Related older newer

  firsts : (x y : X) (older newer : List X) → EachInPlace Related (x ∷ older) (y ∷ newer) → Firsts x y older newer
  firsts x y older newer each =
      let (z, at, related) = each 0 x refl in
      let is : y ≡ z = cc (at) in record {
        falls = subst (λ w. left w ≤ left x) (sym is) (less x z related);
        stays = ap whole is ∙ same x z related;
        behind = λ i old there. each (suc i) old there;
      }

  -- what is left beyond what was left is of elements that are new
  pub grown_left : (olds news : List X) → EachInPlace Related olds news → sum_by left news + sum_by whole olds ≤ sum_by left olds + sum_by whole news
  grown_left [] news each = omega (arith, sum_by-le-sum_by left whole news within)
  grown_left (x ∷ older) [] each = absurd (let (z, at, related) = each 0 x refl in cc (at))
  grown_left (x ∷ older) (y ∷ newer) each =
      let here = firsts x y older newer each in
      let rest = grown_left older newer here.behind in
      omega (arith, here.falls, here.stays, rest, sum_by-cons left x older, sum_by-cons left y newer, sum_by-cons whole x older, sum_by-cons whole y newer)

  -- and one less, where one element has less left
  pub fallen_left : (olds news : List X) (i : ℕ) (x y : X) → EachInPlace Related olds news → slice_get olds i ≡ Some x → slice_get news i ≡ Some y → left y < left x
      → sum_by left news + sum_by whole olds < sum_by left olds + sum_by whole news
  fallen_left [] news i x y each at now fewer = absurd (cc (at))
  fallen_left (a ∷ older) [] i x y each at now fewer = absurd (cc (now))
  fallen_left (a ∷ older) (b ∷ newer) zero x y each at now fewer =
      let here = firsts a b older newer each in
      let rest = grown_left older newer here.behind in
      let was : a ≡ x = cc (at) in
      let is : b ≡ y = cc (now) in
      omega (arith, fewer, ap left was, ap left is, here.stays, rest, sum_by-cons left a older, sum_by-cons left b newer, sum_by-cons whole a older, sum_by-cons whole b newer)
  fallen_left (a ∷ older) (b ∷ newer) (suc i) x y each at now fewer =
      let here = firsts a b older newer each in
      let rest = fallen_left older newer i x y here.behind at now fewer in
      omega (arith, here.falls, here.stays, rest, sum_by-cons left a older, sum_by-cons left b newer, sum_by-cons whole a older, sum_by-cons whole b newer)

  -- where no element is new the whole is the same
  pub same_whole : (olds news : List X) → EachInPlace Related olds news → length news ≡ length olds → sum_by whole news ≡ sum_by whole olds
  same_whole [] [] each count = refl
  same_whole [] (y ∷ newer) each count = absurd (omega (arith, count))
  same_whole (x ∷ older) [] each count = absurd (omega (arith, count))
  same_whole (x ∷ older) (y ∷ newer) each count =
      let here = firsts x y older newer each in
      let fewer : length newer ≡ length older = omega (arith, count) in
      let rest = same_whole older newer here.behind fewer in
      omega (arith, here.stays, rest, sum_by-cons whole x older, sum_by-cons whole y newer)
