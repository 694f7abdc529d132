-- The counts of the pairs, where one is taken out or put in.
use Rattle.std.proofs.Common.{◌≡◌, ◌≢◌, ℕ, zero, suc, ◌+◌, ◌-◌, ◌*◌, ◌<◌, ◌≤◌, Bool, true, false, ◌&&◌, ◌==◌, cond, List, [], ◌∷◌, set, length, length-set, get_or, replicate, Option, Some, None, refl, sym, ap, subst, ◌∙◌, inl, inr, arith, slice_get, eq-eqb}
use Rattle.std.specs.Prelude.{IsFalse, is_some, nat_lt}
use Rattle.std.specs.List.{AllByRecursion}
use Rattle.std.proofs.lemmas.Bool.{cases_eq, eqb-true, ltb-true, ltb-false, and_parts}
use Rattle.std.proofs.lemmas.List.{get_or-set_same, get_or-set_other, get_or_past, length-replicate}
use Rattle.std.proofs.lemmas.List.Elements.{recursion_from_All, All-from_recursion}
use Rattle.std.proofs.lemmas.Option.{slice_get-get_or, get_or_from_slice_get}
use Rattle.drm_lists.proofs.Changed.{get_set_is, get_set_other}
use Rattle.drm_fence.specs.declared.pair.Pair.{Pair}
use Rattle.drm_fence.specs.Waiting.{unmet_in, HasNoPair}
use Rattle.drm_fence.specs.Cells.{pairs_in, IsCounted}
use Rattle.drm_fence.proofs.Pairs.{pairs_none, holds_at, unmet_taken, unmet_more, unmet_within, unmet_none}

pub differs : (a b : ℕ) → a ≢ b → (a == b) ≡ false
differs a b apart = elim (a == b) as (λ t. (a == b) ≡ t → t ≡ false) [ true ↦ λ is. absurd (apart (eqb-true a b is)) | false ↦ λ is. refl ] refl

read_is : (xs : List ℕ) (i x : ℕ) → i < length xs → x ≡ get_or xs i x → get_or xs i 0 ≡ x
read_is xs i x lt is = get_or_from_slice_get xs i x 0 (slice_get-get_or xs i x lt ∙ ap Some (sym is))

pub at_least_one : (cells : List (Option Pair)) (unmet : List ℕ) (k x : ℕ) (p : Pair) → IsCounted cells unmet → slice_get cells k ≡ Some (Some p)
    → x ≡ get_or unmet p.entity x → 1 ≤ x
at_least_one cells unmet k x p is at x_is =
    let lt = (is.placed k p at).2 in
    let one : (p.entity == p.entity) ≡ true = eq-eqb p.entity p.entity refl in
    let first : unmet_in (pairs_in cells) p.entity ≡ 1 + unmet_in (pairs_in (set cells k None)) p.entity =
    unmet_taken cells k p p.entity at ∙ ap (λ t. cond t 1 0 + unmet_in (pairs_in (set cells k None)) p.entity) one in
    omega (arith, read_is unmet p.entity x lt x_is, is.counted p.entity lt, first)

pub taken_counted : (cells : List (Option Pair)) (unmet : List ℕ) (k x : ℕ) (p : Pair) → IsCounted cells unmet → slice_get cells k ≡ Some (Some p)
    → x ≡ get_or unmet p.entity x → IsCounted (set cells k None) (set unmet p.entity (x - 1))
taken_counted cells unmet k x p is at x_is = record {
  room = omega (arith, is.room, length-set cells k None, length-set unmet p.entity (x - 1));
  few = omega (arith, is.few, length-set unmet p.entity (x - 1));
  placed = λ j q at_j. at_place j q at_j;
  counted = λ e e_lt. count_of e (omega (arith, e_lt, length-set unmet p.entity (x - 1)));
}
  where
    lt : p.entity < length unmet
    lt = (is.placed k p at).2

    at_place : (j : ℕ) (q : Pair) → slice_get (set cells k None) j ≡ Some (Some q) → (j ≡ q.entity * 64 + q.of) × (q.of < 64) × (q.entity < length (set unmet p.entity (x - 1)))
    at_place j q at_j =
        elim (cases_eq j k) [
          | inl same ↦ let none : Some q ≡ None = get_set_is cells k (Some p) None (Some q) at (subst (λ i. slice_get (set cells k None) i ≡ Some (Some q)) same at_j) in absurd (cc (none))
          | inr away ↦ let old = is.placed j q (sym (get_set_other cells k j None away) ∙ at_j) in (old.0, old.1, omega (arith, old.2, length-set unmet p.entity (x - 1)))
        ]

    count_of : (e : ℕ) → e < length unmet → get_or (set unmet p.entity (x - 1)) e 0 ≡ unmet_in (pairs_in (set cells k None)) e
    count_of e e_lt =
        elim (cases_eq e p.entity) [
          | inl same ↦
              let one : (p.entity == e) ≡ true = eq-eqb p.entity e (sym same) in
              let first : unmet_in (pairs_in cells) e ≡ 1 + unmet_in (pairs_in (set cells k None)) e =
              unmet_taken cells k p e at ∙ ap (λ t. cond t 1 0 + unmet_in (pairs_in (set cells k None)) e) one in
              let read : get_or unmet e 0 ≡ x = ap (λ i. get_or unmet i 0) same ∙ read_is unmet p.entity x lt x_is in
              let wrote : get_or (set unmet p.entity (x - 1)) e 0 ≡ x - 1 = ap (λ i. get_or (set unmet p.entity (x - 1)) i 0) same ∙ get_or-set_same unmet p.entity (x - 1) 0 lt in
              omega (arith, first, read, wrote, is.counted e e_lt)
          | inr away ↦
              let none : (p.entity == e) ≡ false = differs p.entity e (λ s. away (sym s)) in
              let same : unmet_in (pairs_in cells) e ≡ 0 + unmet_in (pairs_in (set cells k None)) e =
              unmet_taken cells k p e at ∙ ap (λ t. cond t 1 0 + unmet_in (pairs_in (set cells k None)) e) none in
              omega (arith, same, get_or-set_other unmet p.entity e (x - 1) 0 away, is.counted e e_lt)
        ]

-- the place of a pair that is not there
pub no_cell : (cells : List (Option Pair)) (unmet : List ℕ) (e of : ℕ) → IsCounted cells unmet → e < length unmet → of < 64 → HasNoPair (pairs_in cells) e of
    → slice_get cells (e * 64 + of) ≡ Some None
no_cell cells unmet e of is e_lt of_lt none =
    let inside : e * 64 + of < length cells = omega (arith, e_lt, of_lt, is.room) in
    by_cell (get_or cells (e * 64 + of) None) (slice_get-get_or cells (e * 64 + of) None inside)
  where
    by_cell : (o : Option Pair) → slice_get cells (e * 64 + of) ≡ Some o → slice_get cells (e * 64 + of) ≡ Some None
    by_cell None at = at
    by_cell (Some p) at =
        let placed = is.placed (e * 64 + of) p at in
        let same_entity : p.entity ≡ e = omega (arith, placed.0, placed.1, of_lt) in
        let same_of : p.of ≡ of = omega (arith, placed.0, placed.1, of_lt) in
        let not_there : ((p.entity == e) && (p.of == of)) ≡ false =
        holds_at (λ q. ((q.entity == e) && (q.of == of)) ≡ false) cells (e * 64 + of) p (recursion_from_All _ (pairs_in cells) none) at in
        let there : ((p.entity == e) && (p.of == of)) ≡ true = ap (λ b. b && (p.of == of)) (eq-eqb p.entity e same_entity) ∙ eq-eqb p.of of same_of in
        let never : true ≡ false = sym there ∙ not_there in absurd (cc (never))

pub more_counted : (cells : List (Option Pair)) (unmet : List ℕ) (k x : ℕ) (p : Pair) → IsCounted cells unmet → slice_get cells k ≡ Some None
    → k ≡ p.entity * 64 + p.of → p.of < 64 → p.entity < length unmet → x ≡ get_or unmet p.entity x → IsCounted (set cells k (Some p)) (set unmet p.entity (x + 1))
more_counted cells unmet k x p is at k_is of_lt lt x_is = record {
  room = omega (arith, is.room, length-set cells k (Some p), length-set unmet p.entity (x + 1));
  few = omega (arith, is.few, length-set unmet p.entity (x + 1));
  placed = λ j q at_j. at_place j q at_j;
  counted = λ e e_lt. count_of e (omega (arith, e_lt, length-set unmet p.entity (x + 1)));
}
  where
    at_place : (j : ℕ) (q : Pair) → slice_get (set cells k (Some p)) j ≡ Some (Some q) → (j ≡ q.entity * 64 + q.of) × (q.of < 64) × (q.entity < length (set unmet p.entity (x + 1)))
    at_place j q at_j =
        elim (cases_eq j k) [
          | inl same ↦
              let some : Some q ≡ Some p = get_set_is cells k None (Some p) (Some q) at (subst (λ i. slice_get (set cells k (Some p)) i ≡ Some (Some q)) same at_j) in
              let one : p ≡ q = cc (some) in
              subst (λ (z : Pair). (j ≡ z.entity * 64 + z.of) × (z.of < 64) × (z.entity < length (set unmet p.entity (x + 1)))) one
              (same ∙ k_is, of_lt, omega (arith, lt, length-set unmet p.entity (x + 1)))
          | inr away ↦ let old = is.placed j q (sym (get_set_other cells k j (Some p) away) ∙ at_j) in (old.0, old.1, omega (arith, old.2, length-set unmet p.entity (x + 1)))
        ]

    count_of : (e : ℕ) → e < length unmet → get_or (set unmet p.entity (x + 1)) e 0 ≡ unmet_in (pairs_in (set cells k (Some p))) e
    count_of e e_lt =
        elim (cases_eq e p.entity) [
          | inl same ↦
              let one : (p.entity == e) ≡ true = eq-eqb p.entity e (sym same) in
              let first : unmet_in (pairs_in (set cells k (Some p))) e ≡ 1 + unmet_in (pairs_in cells) e =
              unmet_more cells k p e at ∙ ap (λ t. cond t 1 0 + unmet_in (pairs_in cells) e) one in
              let read : get_or unmet e 0 ≡ x = ap (λ i. get_or unmet i 0) same ∙ read_is unmet p.entity x lt x_is in
              let wrote : get_or (set unmet p.entity (x + 1)) e 0 ≡ x + 1 = ap (λ i. get_or (set unmet p.entity (x + 1)) i 0) same ∙ get_or-set_same unmet p.entity (x + 1) 0 lt in
              omega (arith, first, read, wrote, is.counted e e_lt)
          | inr away ↦
              let none : (p.entity == e) ≡ false = differs p.entity e (λ s. away (sym s)) in
              let same : unmet_in (pairs_in (set cells k (Some p))) e ≡ 0 + unmet_in (pairs_in cells) e =
              unmet_more cells k p e at ∙ ap (λ t. cond t 1 0 + unmet_in (pairs_in cells) e) none in
              omega (arith, same, get_or-set_other unmet p.entity e (x + 1) 0 away, is.counted e e_lt)
        ]

-- a count fits, since there are few places
pub count_fits : (cells : List (Option Pair)) (unmet : List ℕ) (e x : ℕ) → IsCounted cells unmet → e < length unmet → x ≡ get_or unmet e x → x ≤ 4096
count_fits cells unmet e x is lt x_is =
    omega (arith, read_is unmet e x lt x_is, is.counted e lt, unmet_within cells e, is.room, is.few)

-- an entity that is not there waits for nothing
pub nothing_past : (cells : List (Option Pair)) (unmet : List ℕ) (e : ℕ) → IsCounted cells unmet → length unmet ≤ e → unmet_in (pairs_in cells) e ≡ 0
nothing_past cells unmet e is past =
    unmet_none cells e (λ k p at. let placed = is.placed k p at in differs p.entity e (λ same. absurd (omega (arith, past, placed.2, same))))

pub count_at : (cells : List (Option Pair)) (unmet seen : List ℕ) (e : ℕ) → IsCounted cells unmet → seen ≡ unmet → get_or seen e 0 ≡ unmet_in (pairs_in cells) e
count_at cells unmet seen e is same =
    ap (λ l. get_or l e 0) same
    ∙ elim (nat_lt e (length unmet)) as (λ t. nat_lt e (length unmet) ≡ t → get_or unmet e 0 ≡ unmet_in (pairs_in cells) e) [
      | true ↦ λ lt. is.counted e (ltb-true e (length unmet) lt)
      | false ↦ λ not_lt.
          let past : length unmet ≤ e = ltb-false e (length unmet) not_lt in
          get_or_past unmet e 0 past ∙ sym (nothing_past cells unmet e is past)
    ] refl

-- nobody waits
pub none_there : (n k : ℕ) (p : Pair) → slice_get (replicate n None) k ≡ Some (Some p) → ⊥
none_there zero k p at = absurd (cc (at))
none_there (suc n) zero p at = absurd (cc (at))
none_there (suc n) (suc k) p at = none_there n k p at

zeros : (n e : ℕ) → ◌≡◌ {A = ℕ} (get_or (replicate n 0) e 0) 0
zeros zero e = refl
zeros (suc n) zero = refl
zeros (suc n) (suc e) = zeros n e

pub none_counted : (n : ℕ) → n ≤ 64 → IsCounted (replicate (n * 64) None) (replicate n 0)
none_counted n few = record {
  room = length-replicate (n * 64) None ∙ ap (λ k. k * 64) (sym (length-replicate {A = ℕ} n 0));
  few = omega (arith, few, length-replicate {A = ℕ} n 0);
  placed = λ k p at. absurd (none_there (n * 64) k p at);
  counted = λ e lt. zeros n e ∙ sym (ap (λ pairs. unmet_in pairs e) (pairs_none (n * 64)));
}

-- whether a pair stands at its place
all_pairs : (Q : Pair → Type 0) (cells : List (Option Pair)) → ((k : ℕ) (p : Pair) → slice_get cells k ≡ Some (Some p) → Q p) → AllByRecursion Q (pairs_in cells)
all_pairs Q [] each = tt
all_pairs Q (None ∷ cells) each = all_pairs Q cells (λ k p at. each (suc k) p at)
all_pairs Q (Some q ∷ cells) each = (each zero q refl, all_pairs Q cells (λ k p at. each (suc k) p at))

pub free_cell : (cells : List (Option Pair)) (unmet : List ℕ) (e of : ℕ) → IsCounted cells unmet → slice_get cells (e * 64 + of) ≡ Some None
    → HasNoPair (pairs_in cells) e of
free_cell cells unmet e of is none =
    All-from_recursion (λ p. IsFalse ((p.entity == e) && (p.of == of))) (pairs_in cells)
    (all_pairs (λ p. ((p.entity == e) && (p.of == of)) ≡ false) cells (λ k p at. by_test p k at ((p.entity == e) && (p.of == of)) refl))
  where
    by_test : (p : Pair) (k : ℕ) → slice_get cells k ≡ Some (Some p) → (b : Bool) → ((p.entity == e) && (p.of == of)) ≡ b → b ≡ false
    by_test p k at true is_true =
        let parts = and_parts (p.entity == e) (p.of == of) is_true in
        let placed = is.placed k p at in
        let same : k ≡ e * 64 + of = omega (arith, placed.0, eqb-true p.entity e parts.0, eqb-true p.of of parts.1) in
        let some : slice_get cells (e * 64 + of) ≡ Some (Some p) = subst (λ i. slice_get cells i ≡ Some (Some p)) same at in absurd (cc (some, none))
    by_test p k at false is_false = refl

pub watching_is : (cells : List (Option Pair)) (unmet : List ℕ) (e of : ℕ) (o : Option Pair) → IsCounted cells unmet → e < length unmet → of < 64
    → slice_get cells (e * 64 + of) ≡ Some o
    → (is_some o ≡ false → HasNoPair (pairs_in cells) e of) × (HasNoPair (pairs_in cells) e of → is_some o ≡ false)
watching_is cells unmet e of None is e_lt of_lt at = (λ none. free_cell cells unmet e of is at, λ none. refl)
watching_is cells unmet e of (Some p) is e_lt of_lt at =
    (λ none. absurd (cc (none)), λ none. let free = no_cell cells unmet e of is e_lt of_lt none in absurd (cc (at, free)))

-- what is there after a pair was taken out was there before
pub kept_of : (cells : List (Option Pair)) (place k : ℕ) (o : Option Pair) (p : Pair) → slice_get cells place ≡ Some o
    → slice_get (set cells place None) k ≡ Some (Some p) → slice_get cells k ≡ Some (Some p)
kept_of cells place k o p at there =
    elim (cases_eq k place) [
      | inl same ↦ let none : Some p ≡ None = get_set_is cells place o None (Some p) at (subst (λ i. slice_get (set cells place None) i ≡ Some (Some p)) same there) in absurd (cc (none))
      | inr away ↦ sym (get_set_other cells place k None away) ∙ there
    ]

-- an entity of which no pair is counted has none
pub none_waits : (cells : List (Option Pair)) (unmet : List ℕ) (e x k : ℕ) (p : Pair) → IsCounted cells unmet → e < length unmet → x ≡ get_or unmet e x → x ≡ 0
    → slice_get cells k ≡ Some (Some p) → p.entity ≡ e → ⊥
none_waits cells unmet e x k p is lt x_is zero_is at same =
    let one : (p.entity == e) ≡ true = eq-eqb p.entity e same in
    let first : unmet_in (pairs_in cells) e ≡ 1 + unmet_in (pairs_in (set cells k None)) e =
    unmet_taken cells k p e at ∙ ap (λ t. cond t 1 0 + unmet_in (pairs_in (set cells k None)) e) one in
    omega (arith, read_is unmet e x lt x_is, is.counted e lt, first, zero_is)

-- what is left when a place was cleared stood elsewhere before
pub left_of : (cells : List (Option Pair)) (place k : ℕ) (p : Pair) → slice_get (set cells place None) k ≡ Some (Some p) → (k ≢ place) × (slice_get cells k ≡ Some (Some p))
left_of [] place k p at = absurd (cc (at))
left_of (c ∷ cells) zero zero p at = absurd (cc (at))
left_of (c ∷ cells) zero (suc k) p at = (λ same. absurd (omega (arith, same)), at)
left_of (c ∷ cells) (suc place) zero p at = (λ same. absurd (omega (arith, same)), at)
left_of (c ∷ cells) (suc place) (suc k) p at = let before = left_of cells place k p at in (λ same. before.0 (omega (arith, same)), before.1)
