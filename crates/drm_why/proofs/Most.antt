-- The total so far, and the fence that held a ring up longest so far, and one command more.
use Rattle.std.proofs.Common.{◌≡◌, ℕ, ◌+◌, ◌<◌, ◌≤◌, ◌⊎◌, List, drop, length, Option, None, Some, sym, ap, subst, ◌∙◌, inl, inr, arith, slice_get}
use Rattle.std.proofs.Math.ListN.{drop_of_length-le}
use Rattle.drm_why.specs.Totals.{MostIs, WasHeld, commands_for, counted_in, held_in, total_from}
use Rattle.drm_why.specs.declared.rings.Row.{Row}
use Rattle.drm_why.specs.declared.totals.Kind.{Kind}
use Rattle.drm_why.specs.declared.totals.Total.{Total}
use Rattle.drm_why.proofs.Longer.{before_or_at}
use Rattle.drm_why.proofs.Spans.{left_begins}

-- ---- totals

pub total_more : (ring : ℕ) (kind : Kind) (rows : List Row) (k : ℕ) (row : Row) (before after whole : Total) → slice_get rows k ≡ Some row
    → after ≡ counted_in ring kind before row (drop (k + 1) rows) → total_from ring kind before (drop k rows) ≡ whole
    → total_from ring kind after (drop (k + 1) rows) ≡ whole
total_more ring kind rows k row before after whole at counted so =
    ap (λ (t : Total). total_from ring kind t (drop (k + 1) rows)) counted
    ∙ (ap (total_from ring kind before) (sym (left_begins rows k row at)) ∙ so)

pub total_ends : (ring : ℕ) (kind : Kind) (rows : List Row) (k : ℕ) (total whole : Total) → length rows ≤ k → total_from ring kind total (drop k rows) ≡ whole → total ≡ whole
total_ends ring kind rows k total whole all so = ap (total_from ring kind total) (sym (drop_of_length-le rows all)) ∙ so

-- ---- the fence that held the ring up longest

-- one command more
one_more : (ring : ℕ) (rows : List Row) (n i fence other : ℕ) → held_in ring rows n ≡ Some fence → i < n + 1 → held_in ring rows i ≡ Some other → (i < n) ⊎ (other ≡ fence)
one_more ring rows n i fence other here less held =
    elim (before_or_at n i less) [
      | inl before ↦ inl before
      | inr same ↦ let there : held_in ring rows n ≡ Some other = subst (λ (k : ℕ). held_in ring rows k ≡ Some other) same held in inr (cc (here, there))
    ]

-- behind which no fence does
pub none_more : (ring : ℕ) (rows : List Row) (n : ℕ) (most : Option ℕ) → held_in ring rows n ≡ None → MostIs ring rows n most → MostIs ring rows (n + 1) most
none_more ring rows n None none is = λ i fence less held.
    elim (before_or_at n i less) [
      | inl before ↦ is i fence before held
      | inr same ↦ let there : held_in ring rows n ≡ Some fence = subst (λ (k : ℕ). held_in ring rows k ≡ Some fence) same held in absurd (cc (none, there))
    ]
none_more ring rows n (Some best) none (place, is) = (
  place,
  record {
    within = omega (arith, is.within);
    held = is.held;
    most = λ i other less held. elim (before_or_at n i less) [
      | inl before ↦ is.most i other before held
      | inr same ↦ let there : held_in ring rows n ≡ Some other = subst (λ (k : ℕ). held_in ring rows k ≡ Some other) same held in absurd (cc (none, there))
    ];
    first = is.first;
  },
)

-- behind which one does that held the ring up for no more commands
pub fewer_more : (ring : ℕ) (rows : List Row) (n best fence : ℕ) → held_in ring rows n ≡ Some fence → commands_for ring rows fence ≤ commands_for ring rows best
    → MostIs ring rows n (Some best) → MostIs ring rows (n + 1) (Some best)
fewer_more ring rows n best fence here fewer (place, is) = (
  place,
  record {
    within = omega (arith, is.within);
    held = is.held;
    most = λ i other less held. elim (one_more ring rows n i fence other here less held) [
      | inl before ↦ is.most i other before held
      | inr same ↦ subst (λ (f : ℕ). commands_for ring rows f ≤ commands_for ring rows best) (sym same) fewer
    ];
    first = is.first;
  },
)

-- that was told before
pub told_more : (ring : ℕ) (rows : List Row) (n fence : ℕ) (most : Option ℕ) → held_in ring rows n ≡ Some fence → WasHeld ring rows n fence → MostIs ring rows n most
    → MostIs ring rows (n + 1) most
told_more ring rows n fence None here was is = absurd (is was.place fence was.before was.held)
told_more ring rows n fence (Some best) here was (place, is) =
    fewer_more ring rows n best fence here (is.most was.place fence was.before was.held) (place, is)

-- behind which one does that held it up for more
pub greater_more : (ring : ℕ) (rows : List Row) (n best fence : ℕ) → held_in ring rows n ≡ Some fence → commands_for ring rows best < commands_for ring rows fence
    → MostIs ring rows n (Some best) → MostIs ring rows (n + 1) (Some fence)
greater_more ring rows n best fence here greater (place, is) = (
  n,
  record {
    within = omega arith;
    held = here;
    most = λ i other less held. elim (one_more ring rows n i fence other here less held) [
      | inl before ↦ let most = is.most i other before held in omega (arith, most, greater)
      | inr same ↦ subst (λ (f : ℕ). commands_for ring rows f ≤ commands_for ring rows fence) (sym same) (omega arith)
    ];
    first = λ i other less held. let most = is.most i other less held in omega (arith, most, greater);
  },
)

-- the first that does
pub first_more : (ring : ℕ) (rows : List Row) (n fence : ℕ) → held_in ring rows n ≡ Some fence → MostIs ring rows n None → MostIs ring rows (n + 1) (Some fence)
first_more ring rows n fence here none = (
  n,
  record {
    within = omega arith;
    held = here;
    most = λ i other less held. elim (one_more ring rows n i fence other here less held) [
      | inl before ↦ absurd (none i other before held)
      | inr same ↦ subst (λ (f : ℕ). commands_for ring rows f ≤ commands_for ring rows fence) (sym same) (omega arith)
    ];
    first = λ i other less held. absurd (none i other less held);
  },
)
