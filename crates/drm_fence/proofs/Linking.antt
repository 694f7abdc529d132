-- The lists of the fences, where a pair is taken out or put in.
use Rattle.std.proofs.Common.{◌≡◌, ◌≢◌, ℕ, zero, suc, ◌+◌, ◌-◌, ◌*◌, ◌<◌, ◌≤◌, Bool, true, false, ◌&&◌, ◌==◌, List, [], ◌∷◌, ◌++◌, set, replicate, cond, length, length-set, length-append, get_or, Option, Some, None, refl, sym, ap, subst, ◌∙◌, inl, inr, arith, slice_get, eq-eqb}
use Rattle.std.specs.Prelude.{◌⊎◌, IsTrue}
use Rattle.std.proofs.lemmas.Bool.{cases_eq, cases_lt, eqb-true, and_parts, lt-ltb, le-ltb}
use Rattle.std.proofs.lemmas.List.{length-replicate}
use Rattle.std.proofs.lemmas.Option.{slice_get_within, slice_get-get_or}
use Rattle.std.specs.Option.{option_map_or}
use Rattle.drm_lists.proofs.Changed.{get_set_is, get_set_same, get_set_other}
use Rattle.drm_fence.specs.declared.pair.Pair.{Pair}
use Rattle.drm_fence.specs.declared.links.Links.{Links}
use Rattle.drm_fence.specs.declared.pair.Release.{Release}
use Rattle.drm_fence.specs.declared.pair.Release.TheVariants.{Scheduled, Ended}
use Rattle.drm_fence.specs.Cells.{is_released, fence_of}
use Rattle.drm_fence.specs.Linked.{behind_of, before_of, linked_place, IsJoined, IsOf, IsEarly, IsRing, IsLinked}
use Rattle.drm_fence.proofs.Counted.{differs, kept_of, taken_counted, more_counted, none_there, none_counted}
use Rattle.drm_fence.proofs.Ring.{IsOut, IsIn, leads, ring_without, ring_with}

-- where a link leads
pub to_cell : (cells fence link : ℕ) → link < cells → linked_place cells fence link ≡ link
to_cell cells fence link inside = ap (λ b. cond b link (cells + fence)) (lt-ltb link cells inside)

pub to_end : (cells fence link : ℕ) → cells ≤ link → linked_place cells fence link ≡ cells + fence
to_end cells fence link past = ap (λ b. cond b link (cells + fence)) (le-ltb link cells past)

-- neighbours with those of one place changed
with_one : (ℕ → ℕ) → ℕ → ℕ → ℕ → ℕ
with_one next k v j = cond (j == k) v (next j)

one_here : (next : ℕ → ℕ) (k v j : ℕ) → j ≡ k → with_one next k v j ≡ v
unfolding with_one
one_here next k v j same = ap (λ b. cond b v (next j)) (eq-eqb j k same)

one_there : (next : ℕ → ℕ) (k v j : ℕ) → j ≢ k → with_one next k v j ≡ next j
unfolding with_one
one_there next k v j apart = ap (λ b. cond b v (next j)) (differs j k apart)

-- a place is in the list of one fence
pub one_fence : (cells : List (Option Pair)) (n j g h : ℕ) → IsOf cells n j g → IsOf cells n j h → g ≡ h
one_fence cells n j g h (inl x) (inl y) = let same : x.0 ≡ y.0 = cc (x.1, y.1) in sym x.2 ∙ (ap (λ (p : Pair). p.fence) same ∙ y.2)
one_fence cells n j g h (inl x) (inr y) = absurd (omega (arith, slice_get_within cells j (Some x.0) x.1, y.0))
one_fence cells n j g h (inr x) (inl y) = absurd (omega (arith, slice_get_within cells j (Some y.0) y.1, x.0))
one_fence cells n j g h (inr x) (inr y) = omega (arith, x.0, y.0)

of_set : (cells : List (Option Pair)) (n k j f : ℕ) (o : Option Pair) → j ≢ k → IsOf cells n j f → IsOf (set cells k o) n j f
of_set cells n k j f o apart (inl x) = inl (x.0, get_set_other cells k j o apart ∙ x.1, x.2)
of_set cells n k j f o apart (inr x) = inr (omega (arith, x.0, length-set cells k o), x.1)

of_unset : (cells : List (Option Pair)) (n k j f : ℕ) (o : Option Pair) → j ≢ k → IsOf (set cells k o) n j f → IsOf cells n j f
of_unset cells n k j f o apart (inl x) = inl (x.0, sym (get_set_other cells k j o apart) ∙ x.1, x.2)
of_unset cells n k j f o apart (inr x) = inr (omega (arith, x.0, length-set cells k o), x.1)

early_set : (cells : List (Option Pair)) (k j : ℕ) (o : Option Pair) → j ≢ k → IsEarly cells j → IsEarly (set cells k o) j
early_set cells k j o apart x = (x.0, get_set_other cells k j o apart ∙ x.1, x.2)

early_unset : (cells : List (Option Pair)) (k j : ℕ) (o : Option Pair) → j ≢ k → IsEarly (set cells k o) j → IsEarly cells j
early_unset cells k j o apart x = (x.0, sym (get_set_other cells k j o apart) ∙ x.1, x.2)

-- no place that was cleared is in a list
cleared : (cells : List (Option Pair)) (n k j f : ℕ) (p : Pair) → slice_get cells k ≡ Some (Some p) → IsOf (set cells k None) n j f → j ≢ k
cleared cells n k j f p at (inl x) same =
    let none : Some x.0 ≡ None = get_set_is cells k (Some p) None (Some x.0) at (subst (λ i. slice_get (set cells k None) i ≡ Some (Some x.0)) same x.1) in absurd (cc (none))
cleared cells n k j f p at (inr x) same =
    absurd (omega (arith, same, x.0, slice_get_within cells k (Some p) at, length-set cells k None))

early_cleared : (cells : List (Option Pair)) (k j : ℕ) (p : Pair) → slice_get cells k ≡ Some (Some p) → IsEarly (set cells k None) j → j ≢ k
early_cleared cells k j p at x same =
    let none : Some x.0 ≡ None = get_set_is cells k (Some p) None (Some x.0) at (subst (λ i. slice_get (set cells k None) i ≡ Some (Some x.0)) same x.1) in absurd (cc (none))

pub taken_linked : (cells : List (Option Pair)) (unmet : List ℕ) (links new : List Links) (k x : ℕ) (p : Pair) → IsLinked cells unmet links
    → slice_get cells k ≡ Some (Some p) → IsJoined links new (length cells) p.fence (before_of links k) (behind_of links k) → x ≡ get_or unmet p.entity x
    → IsLinked (set cells k None) (set unmet p.entity (x - 1)) new
taken_linked cells unmet links new k x p is at joined x_is = record {
  counted = taken_counted cells unmet k x p is.counted at x_is;
  fences = λ j q there. omega (arith, is.fences j q (kept_of cells k j (Some p) q at there), length-set cells k None, joined.places);
  behind = behind_new;
  before = before_new;
  rings = subst (λ n. IsRing (IsOf (set cells k None) n) (IsEarly (set cells k None)) (length (set cells k None)) behind_new before_new) (sym joined.places)
      (subst (λ n. IsRing (IsOf (set cells k None) (length links)) (IsEarly (set cells k None)) n behind_new before_new) (sym (length-set cells k None)) ring);
  behind_is = λ j g there. subst (λ n. linked_place n g (behind_of new j) ≡ behind_new j) (sym (length-set cells k None)) (behind_leads j g (old_of j g there));
  before_is = λ j g there. subst (λ n. linked_place n g (before_of new j) ≡ before_new j) (sym (length-set cells k None)) (before_leads j g (old_of j g there));
}
  where
    a : ℕ
    a = linked_place (length cells) p.fence (before_of links k)

    b : ℕ
    b = linked_place (length cells) p.fence (behind_of links k)

    here : IsOf cells (length links) k p.fence
    here = inl (p, at, refl)

    a_is : a ≡ is.before k
    a_is = is.before_is k p.fence here

    b_is : b ≡ is.behind k
    b_is = is.behind_is k p.fence here

    behind_new : ℕ → ℕ
    behind_new = with_one is.behind (is.before k) (is.behind k)

    before_new : ℕ → ℕ
    before_new = with_one is.before (is.behind k) (is.before k)

    out : IsOut (IsOf cells (length links)) (IsOf (set cells k None) (length links)) (IsEarly cells) (IsEarly (set cells k None)) is.behind is.before behind_new before_new k
    out = record {
      in_old = λ j g new_at. of_unset cells (length links) k j g None (cleared cells (length links) k j g p at new_at) new_at;
      away = λ j g new_at. cleared cells (length links) k j g p at new_at;
      in_new = λ j g old apart. of_set cells (length links) k j g None apart old;
      early_old = λ j early. early_unset cells k j None (early_cleared cells k j p at early) early;
      early_new = λ j early apart. early_set cells k j None apart early;
      behind_here = one_here is.behind (is.before k) (is.behind k) (is.before k) refl;
      behind_there = one_there is.behind (is.before k) (is.behind k);
      before_here = one_here is.before (is.behind k) (is.before k) (is.behind k) refl;
      before_there = one_there is.before (is.behind k) (is.before k);
    }

    ring : IsRing (IsOf (set cells k None) (length links)) (IsEarly (set cells k None)) (length cells) behind_new before_new
    ring = ring_without _ _ _ _ _ _ _ _ _ k p.fence is.rings here (slice_get_within cells k (Some p) at) out

    old_of : (j g : ℕ) → IsOf (set cells k None) (length new) j g → IsOf cells (length links) j g
    old_of j g there =
        let old : IsOf (set cells k None) (length links) j g = subst (λ n. IsOf (set cells k None) n j g) joined.places there in out.in_old j g old

    behind_leads : (j g : ℕ) → IsOf cells (length links) j g → linked_place (length cells) g (behind_of new j) ≡ behind_new j
    behind_leads j g old =
        elim (cases_eq j (is.before k)) [
          | inl same ↦
              let g_is : g ≡ p.fence = one_fence cells (length links) (is.before k) g p.fence (subst (λ i. IsOf cells (length links) i g) same old) (is.rings.before_in k p.fence here) in
              ap (λ h. linked_place (length cells) h (behind_of new j)) g_is
              ∙ (ap (linked_place (length cells) p.fence) (ap (behind_of new) (same ∙ sym a_is) ∙ joined.behind_is)
              ∙ (b_is ∙ sym (one_here is.behind (is.before k) (is.behind k) j same)))
          | inr apart ↦
              ap (linked_place (length cells) g) (joined.others_behind j (λ same. apart (same ∙ a_is)))
              ∙ (is.behind_is j g old ∙ sym (one_there is.behind (is.before k) (is.behind k) j apart))
        ]

    before_leads : (j g : ℕ) → IsOf cells (length links) j g → linked_place (length cells) g (before_of new j) ≡ before_new j
    before_leads j g old =
        elim (cases_eq j (is.behind k)) [
          | inl same ↦
              let g_is : g ≡ p.fence = one_fence cells (length links) (is.behind k) g p.fence (subst (λ i. IsOf cells (length links) i g) same old) (is.rings.behind_in k p.fence here) in
              ap (λ h. linked_place (length cells) h (before_of new j)) g_is
              ∙ (ap (linked_place (length cells) p.fence) (ap (before_of new) (same ∙ sym b_is) ∙ joined.before_is)
              ∙ (a_is ∙ sym (one_here is.before (is.behind k) (is.before k) j same)))
          | inr apart ↦
              ap (linked_place (length cells) g) (joined.others_before j (λ same. apart (same ∙ b_is)))
              ∙ (is.before_is j g old ∙ sym (one_there is.before (is.behind k) (is.before k) j apart))
        ]

-- the links that stand at a place
pub links_at : (links : List Links) (k : ℕ) (l : Links) → k < length links → l ≡ get_or links k l → (before_of links k ≡ l.before) × (behind_of links k ≡ l.behind)
links_at links k l inside is =
    let at : slice_get links k ≡ Some l = slice_get-get_or links k l inside ∙ ap Some (sym is) in (
      ap (λ o. option_map_or (λ (z : Links). z.before) o 0) at,
      ap (λ o. option_map_or (λ (z : Links). z.behind) o 0) at,
    )

pub in_places : (cells : List (Option Pair)) (n k f : ℕ) → length cells ≤ n → IsOf cells n k f → k < n
in_places cells n k f few (inl x) = omega (arith, slice_get_within cells k (Some x.0) x.1, few)
in_places cells n k f few (inr x) = x.1

pub pair_in_places : (cells : List (Option Pair)) (unmet : List ℕ) (links : List Links) (k : ℕ) (p : Pair) → IsLinked cells unmet links → slice_get cells k ≡ Some (Some p) → k < length links
pair_in_places cells unmet links k p is at = omega (arith, is.fences k p at, slice_get_within cells k (Some p) at)

-- the neighbours of a place are places
pub neighbours_there : (cells : List (Option Pair)) (unmet : List ℕ) (links : List Links) (k f : ℕ) → IsLinked cells unmet links → length cells ≤ length links
    → IsOf cells (length links) k f → (linked_place (length cells) f (before_of links k) < length links) × (linked_place (length cells) f (behind_of links k) < length links)
neighbours_there cells unmet links k f is few at = (
  subst (λ n. n < length links) (sym (is.before_is k f at)) (in_places cells (length links) (is.before k) f few (is.rings.before_in k f at)),
  subst (λ n. n < length links) (sym (is.behind_is k f at)) (in_places cells (length links) (is.behind k) f few (is.rings.behind_in k f at)),
)

pub neighbours_of_pair : (cells : List (Option Pair)) (unmet : List ℕ) (links : List Links) (k : ℕ) (p : Pair) → IsLinked cells unmet links → slice_get cells k ≡ Some (Some p)
    → (linked_place (length cells) p.fence (before_of links k) < length links) × (linked_place (length cells) p.fence (behind_of links k) < length links)
neighbours_of_pair cells unmet links k p is at =
    neighbours_there cells unmet links k p.fence is (omega (arith, is.fences k p at)) (inl (p, at, refl))

-- few cells
pub few_cells : (cells : List (Option Pair)) (unmet : List ℕ) (links : List Links) → IsLinked cells unmet links → length cells ≤ 4096
few_cells cells unmet links is = omega (arith, is.counted.room, is.counted.few)

-- one pair more between two neighbours of its list
pub put_linked : (cells : List (Option Pair)) (unmet : List ℕ) (links middle new : List Links) (k before behind x : ℕ) (p : Pair) → IsLinked cells unmet links
    → slice_get cells k ≡ Some None → k ≡ p.entity * 64 + p.of → p.of < 64 → p.entity < length unmet → length cells + p.fence < length links → x ≡ get_or unmet p.entity x
    → IsOf cells (length links) (linked_place (length cells) p.fence before) p.fence
    → linked_place (length cells) p.fence (behind_of links (linked_place (length cells) p.fence before)) ≡ linked_place (length cells) p.fence behind
    → IsJoined links middle (length cells) p.fence before k → IsJoined middle new (length cells) p.fence k behind
    → (IsTrue p.is_early → linked_place (length cells) p.fence before < length cells → IsEarly cells (linked_place (length cells) p.fence before))
    → (IsEarly cells (linked_place (length cells) p.fence behind) → IsTrue p.is_early) → IsLinked (set cells k (Some p)) (set unmet p.entity (x + 1)) new
put_linked cells unmet links middle new k before behind x p is at place of_lt there fence x_is at_a leads_to first second front rear = record {
  counted = more_counted cells unmet k x p is.counted at place of_lt there x_is;
  fences = λ j q at_j. fence_of_pair j q at_j;
  behind = behind_new;
  before = before_new;
  rings = subst (λ n. IsRing (IsOf (set cells k (Some p)) n) (IsEarly (set cells k (Some p))) (length (set cells k (Some p))) behind_new before_new) (sym places)
      (subst (λ n. IsRing (IsOf (set cells k (Some p)) (length links)) (IsEarly (set cells k (Some p))) n behind_new before_new) (sym (length-set cells k (Some p)))
      (ring_with _ _ _ _ _ _ _ _ _ k p.fence a b is.rings at_a next more));
  behind_is = λ j g at_j. subst (λ n. linked_place n g (behind_of new j) ≡ behind_new j) (sym (length-set cells k (Some p))) (behind_leads j g (of_links j g at_j));
  before_is = λ j g at_j. subst (λ n. linked_place n g (before_of new j) ≡ before_new j) (sym (length-set cells k (Some p))) (before_leads j g (of_links j g at_j));
}
  where
    places : length new ≡ length links
    places = second.places ∙ first.places

    a : ℕ
    a = linked_place (length cells) p.fence before

    b : ℕ
    b = linked_place (length cells) p.fence behind

    next : is.behind a ≡ b
    next = sym (is.behind_is a p.fence at_a) ∙ leads_to

    behind_new : ℕ → ℕ
    behind_new = with_one (with_one is.behind a k) k b

    before_new : ℕ → ℕ
    before_new = with_one (with_one is.before k a) b k

    inside : k < length cells
    inside = slice_get_within cells k None at

    to_k : (g : ℕ) → linked_place (length cells) g k ≡ k
    to_k g = to_cell (length cells) g k inside

    here : slice_get (set cells k (Some p)) k ≡ Some (Some p)
    here = get_set_same cells k None (Some p) at

    free : (j g : ℕ) → IsOf cells (length links) j g → j ≢ k
    free j g (inl x) same = let none : Some (Some x.0) ≡ Some None = sym (subst (λ i. slice_get cells i ≡ Some (Some x.0)) same x.1) ∙ at in absurd (cc (none))
    free j g (inr x) same = absurd (omega (arith, same, x.0, inside))

    free_early : (j : ℕ) → IsEarly cells j → j ≢ k
    free_early j x same = let none : Some (Some x.0) ≡ Some None = sym (subst (λ i. slice_get cells i ≡ Some (Some x.0)) same x.1) ∙ at in absurd (cc (none))

    at_k : (j g : ℕ) → j ≡ k → IsOf (set cells k (Some p)) (length links) j g → (j ≡ k) × (g ≡ p.fence)
    at_k j g same (inl x) =
        let it : Some x.0 ≡ Some p = get_set_is cells k None (Some p) (Some x.0) at (subst (λ i. slice_get (set cells k (Some p)) i ≡ Some (Some x.0)) same x.1) in
        let is_p : x.0 ≡ p = cc (it) in (same, sym x.2 ∙ ap (λ (q : Pair). q.fence) is_p)
    at_k j g same (inr x) = absurd (omega (arith, same, x.0, inside, length-set cells k (Some p)))

    early_k : IsEarly (set cells k (Some p)) k → IsTrue p.is_early
    early_k x =
        let it : Some x.0 ≡ Some p = get_set_is cells k None (Some p) (Some x.0) at x.1 in
        let is_p : x.0 ≡ p = cc (it) in subst (λ (q : Pair). IsTrue q.is_early) is_p x.2

    at_b : IsOf cells (length links) b p.fence
    at_b = subst (λ x. IsOf cells (length links) x p.fence) next (is.rings.behind_in a p.fence at_a)

    more : IsIn (IsOf cells (length links)) (IsOf (set cells k (Some p)) (length links)) (IsEarly cells) (IsEarly (set cells k (Some p))) (length cells) is.behind is.before behind_new before_new k p.fence a b
    more = record {
      one = one_fence cells (length links);
      free = λ g there. free k g there refl;
      here = inl (p, here, refl);
      in_new = λ j g old. of_set cells (length links) k j g (Some p) (free j g old) old;
      cases = λ j g there.
          elim (cases_eq j k) [
            | inl same ↦ inl (at_k j g same there)
            | inr apart ↦ inr (of_unset cells (length links) k j g (Some p) apart there)
          ];
      early_old = λ j early apart. early_unset cells k j (Some p) apart early;
      early_new = λ j early. early_set cells k j (Some p) (free_early j early) early;
      early_before = λ early cell. front (early_k early) cell;
      early_behind = λ early. (p, here, rear early);
      behind_before = one_there (with_one is.behind a k) k b a (free a p.fence at_a) ∙ one_here is.behind a k a refl;
      behind_here = one_here (with_one is.behind a k) k b k refl;
      behind_there = λ j not_a not_k. one_there (with_one is.behind a k) k b j not_k ∙ one_there is.behind a k j not_a;
      before_behind = one_here (with_one is.before k a) b k b refl;
      before_here = one_there (with_one is.before k a) b k k (λ same. free b p.fence at_b (sym same)) ∙ one_here is.before k a k refl;
      before_there = λ j not_b not_k. one_there (with_one is.before k a) b k j not_b ∙ one_there is.before k a j not_k;
    }

    of_links : (j g : ℕ) → IsOf (set cells k (Some p)) (length new) j g → IsOf (set cells k (Some p)) (length links) j g
    of_links j g at_j = subst (λ n. IsOf (set cells k (Some p)) n j g) places at_j

    behind_leads : (j g : ℕ) → IsOf (set cells k (Some p)) (length links) j g → linked_place (length cells) g (behind_of new j) ≡ behind_new j
    behind_leads j g at_j =
        elim (cases_eq j k) [
          | inl same ↦
              ap (λ h. linked_place (length cells) h (behind_of new j)) (at_k j g same at_j).1
              ∙ (ap (linked_place (length cells) p.fence) (ap (behind_of new) (same ∙ sym (to_k p.fence)) ∙ second.behind_is)
              ∙ sym (one_here (with_one is.behind a k) k b j same))
          | inr apart ↦
              ap (linked_place (length cells) g) (second.others_behind j (λ same. apart (same ∙ to_k p.fence)))
              ∙ (behind_middle j g (of_unset cells (length links) k j g (Some p) apart at_j) ∙ sym (one_there (with_one is.behind a k) k b j apart))
        ]
      where
        behind_middle : (j g : ℕ) → IsOf cells (length links) j g → linked_place (length cells) g (behind_of middle j) ≡ with_one is.behind a k j
        behind_middle j g old =
            elim (cases_eq j a) [
              | inl same ↦ ap (linked_place (length cells) g) (ap (behind_of middle) same ∙ first.behind_is) ∙ (to_k g ∙ sym (one_here is.behind a k j same))
              | inr apart ↦ ap (linked_place (length cells) g) (first.others_behind j apart) ∙ (is.behind_is j g old ∙ sym (one_there is.behind a k j apart))
            ]

    before_leads : (j g : ℕ) → IsOf (set cells k (Some p)) (length links) j g → linked_place (length cells) g (before_of new j) ≡ before_new j
    before_leads j g at_j =
        elim (cases_eq j b) [
          | inl same ↦ ap (linked_place (length cells) g) (ap (before_of new) same ∙ second.before_is) ∙ (to_k g ∙ sym (one_here (with_one is.before k a) b k j same))
          | inr apart ↦
              ap (linked_place (length cells) g) (second.others_before j apart) ∙ (before_middle j g at_j ∙ sym (one_there (with_one is.before k a) b k j apart))
        ]
      where
        before_middle : (j g : ℕ) → IsOf (set cells k (Some p)) (length links) j g → linked_place (length cells) g (before_of middle j) ≡ with_one is.before k a j
        before_middle j g at_j =
            elim (cases_eq j k) [
              | inl same ↦
                  ap (λ h. linked_place (length cells) h (before_of middle j)) (at_k j g same at_j).1
                  ∙ (ap (linked_place (length cells) p.fence) (ap (before_of middle) (same ∙ sym (to_k p.fence)) ∙ first.before_is) ∙ sym (one_here is.before k a j same))
              | inr apart ↦
                  ap (linked_place (length cells) g) (first.others_before j (λ same. apart (same ∙ to_k p.fence)))
                  ∙ (is.before_is j g (of_unset cells (length links) k j g (Some p) apart at_j) ∙ sym (one_there is.before k a j apart))
            ]

    fence_of_pair : (j : ℕ) (q : Pair) → slice_get (set cells k (Some p)) j ≡ Some (Some q) → length (set cells k (Some p)) + q.fence < length new
    fence_of_pair j q at_j =
        elim (cases_eq j k) [
          | inl same ↦
              let it : Some q ≡ Some p = get_set_is cells k None (Some p) (Some q) at (subst (λ i. slice_get (set cells k (Some p)) i ≡ Some (Some q)) same at_j) in
              let is_p : q ≡ p = cc (it) in
              omega (arith, fence, ap (λ (z : Pair). z.fence) is_p, length-set cells k (Some p), places)
          | inr apart ↦ omega (arith, is.fences j q (sym (get_set_other cells k j (Some p) apart) ∙ at_j), length-set cells k (Some p), places)
        ]

-- the end of the list of a fence
pub end_is_of : (cells : List (Option Pair)) (n f : ℕ) → length cells + f < n → IsOf cells n (length cells + f) f
end_is_of cells n f inside = inr (refl, inside)

pub ends_are : (cells : List (Option Pair)) (n f j : ℕ) → IsOf cells n j f → length cells ≤ j → j ≡ length cells + f
ends_are cells n f j (inl x) past = absurd (omega (arith, past, slice_get_within cells j (Some x.0) x.1))
ends_are cells n f j (inr x) past = x.0

-- the pair at the front of a list, where the list has a pair for which something holds that holds of those before it
-- too
pub at_front : (cells : List (Option Pair)) (unmet : List ℕ) (links : List Links) (Q : ℕ → Type 0) (f k : ℕ) (p : Pair) (is : IsLinked cells unmet links)
    → ((j : ℕ) → IsOf cells (length links) j f → Q j → is.before j < length cells → Q (is.before j))
    → slice_get cells k ≡ Some (Some p) → p.fence ≡ f → Q k
    → (q : Pair) × (slice_get cells (is.behind (length cells + f)) ≡ Some (Some q)) × (q.fence ≡ f) × Q (is.behind (length cells + f))
at_front cells unmet links Q f k p is step at fence q =
    found (subst (λ g. IsOf cells (length links) (is.behind (length cells + g)) g) fence (is.rings.behind_in (length cells + p.fence) p.fence (end_is_of cells (length links) p.fence (is.fences k p at))))
    (leads _ _ (length cells) is.behind is.before Q f (length cells + f) is.rings (λ j there past. ends_are cells (length links) f j there past) step
    (is.rings.turn k + 1) k (omega arith) (inl (p, at, fence)) (slice_get_within cells k (Some p) at) q)
  where
    found : IsOf cells (length links) (is.behind (length cells + f)) f → (is.behind (length cells + f) < length cells) × Q (is.behind (length cells + f))
        → (q : Pair) × (slice_get cells (is.behind (length cells + f)) ≡ Some (Some q)) × (q.fence ≡ f) × Q (is.behind (length cells + f))
    found (inl x) holds = (x.0, x.1, x.2, holds.1)
    found (inr x) holds = absurd (omega (arith, x.0, holds.0))

-- a list that has a pair has one in front
pub none_in_front : (cells : List (Option Pair)) (unmet : List ℕ) (links : List Links) (f k : ℕ) (p : Pair) (is : IsLinked cells unmet links)
    → ((q : Pair) → slice_get cells (is.behind (length cells + f)) ≢ Some (Some q)) → slice_get cells k ≡ Some (Some p) → (p.fence == f) ≡ false
none_in_front cells unmet links f k p is none at =
    differs p.fence f (λ fence. let front = at_front cells unmet links (λ j. Unit {0}) f k p is (λ j there _ _. tt) at fence tt in none front.0 front.1)

-- where the pair in front is not early, none is
pub late_in_front : (cells : List (Option Pair)) (unmet : List ℕ) (links : List Links) (f k : ℕ) (p first : Pair) (is : IsLinked cells unmet links)
    → slice_get cells (is.behind (length cells + f)) ≡ Some (Some first) → first.is_early ≡ false → slice_get cells k ≡ Some (Some p) → ((p.fence == f) && p.is_early) ≡ false
late_in_front cells unmet links f k p first is at_first late at = by_test ((p.fence == f) && p.is_early) refl
  where
    by_test : (b : Bool) → ((p.fence == f) && p.is_early) ≡ b → b ≡ false
    by_test false is_false = refl
    by_test true is_true =
        let parts = and_parts (p.fence == f) p.is_early is_true in
        let front = at_front cells unmet links (IsEarly cells) f k p is (λ j there early inside. is.rings.early_first j f there early inside) at (eqb-true p.fence f parts.0) (p, at, parts.1) in
        let early = front.3 in
        let same : early.0 ≡ first = cc (early.1, at_first) in
        let never : true ≡ false = sym early.2 ∙ (ap (λ (z : Pair). z.is_early) same ∙ late) in absurd (cc (never))

-- the pair in front is of the fence
pub front_is_of : (cells : List (Option Pair)) (unmet : List ℕ) (links : List Links) (f : ℕ) (first : Pair) (is : IsLinked cells unmet links) → length cells + f < length links
    → slice_get cells (is.behind (length cells + f)) ≡ Some (Some first) → first.fence ≡ f
front_is_of cells unmet links f first is inside at =
    one_fence cells (length links) (is.behind (length cells + f)) first.fence f (inl (first, at, refl))
    (is.rings.behind_in (length cells + f) f (end_is_of cells (length links) f inside))

-- nothing in front that is released, nothing released at all
pub none_released : (cells : List (Option Pair)) (unmet : List ℕ) (links : List Links) (why : Release) (k : ℕ) (p : Pair) (is : IsLinked cells unmet links)
    → ((q : Pair) → slice_get cells (is.behind (length cells + fence_of why)) ≢ Some (Some q)) → slice_get cells k ≡ Some (Some p) → is_released why p ≡ false
none_released cells unmet links (Scheduled f) k p is none at = ap (λ b. b && p.is_early) (none_in_front cells unmet links f k p is none at)
none_released cells unmet links (Ended f) k p is none at = none_in_front cells unmet links f k p is none at

pub first_stays : (cells : List (Option Pair)) (unmet : List ℕ) (links : List Links) (why : Release) (k : ℕ) (p first : Pair) (is : IsLinked cells unmet links)
    → length cells + fence_of why < length links → slice_get cells (is.behind (length cells + fence_of why)) ≡ Some (Some first) → is_released why first ≡ false
    → slice_get cells k ≡ Some (Some p) → is_released why p ≡ false
first_stays cells unmet links (Scheduled f) k p first is inside at_first stays at =
    let late : first.is_early ≡ false = sym (ap (λ b. b && first.is_early) (eq-eqb first.fence f (front_is_of cells unmet links f first is inside at_first))) ∙ stays in
    late_in_front cells unmet links f k p first is at_first late at
first_stays cells unmet links (Ended f) k p first is inside at_first stays at =
    let never : true ≡ false = sym (eq-eqb first.fence f (front_is_of cells unmet links f first is inside at_first)) ∙ stays in absurd (cc (never))

-- nobody waits, for no fence has a list
pub none_linked : (n : ℕ) (links : List Links) → n ≤ 64 → length links ≡ n * 64 → IsLinked (replicate (n * 64) None) (replicate n 0) links
none_linked n links few size = record {
  counted = none_counted n few;
  fences = λ k p at. absurd (none_there (n * 64) k p at);
  behind = λ k. k;
  before = λ k. k;
  rings = record {
    turn = λ k. 0;
    behind_in = λ k f at. absurd (nowhere k f at);
    before_in = λ k f at. absurd (nowhere k f at);
    there = λ k f at. absurd (nowhere k f at);
    back = λ k f at. absurd (nowhere k f at);
    later = λ k f at inside. absurd (nowhere k f at);
    early_first = λ k f at early inside. absurd (nowhere k f at);
  };
  behind_is = λ k f at. absurd (nowhere k f at);
  before_is = λ k f at. absurd (nowhere k f at);
}
  where
    cells : List (Option Pair)
    cells = replicate (n * 64) None

    nowhere : (k f : ℕ) → IsOf cells (length links) k f → ⊥
    nowhere k f (inl x) = none_there (n * 64) k x.0 x.1
    nowhere k f (inr x) = omega (arith, x.0, x.1, size, length-replicate {A = Option Pair} (n * 64) None)

-- a list with one more at its end
get_old : (links : List Links) (end : Links) (k : ℕ) → k < length links → slice_get (links ++ end ∷ []) k ≡ slice_get links k
get_old [] end k inside = absurd (omega (arith, inside))
get_old (l ∷ links) end zero inside = refl
get_old (l ∷ links) end (suc k) inside = get_old links end k (omega (arith, inside))

get_new : (links : List Links) (end : Links) → slice_get (links ++ end ∷ []) (length links) ≡ Some end
get_new [] end = refl
get_new (l ∷ links) end = get_new links end

-- one list more: it has its end alone
pub more_linked : (cells : List (Option Pair)) (unmet : List ℕ) (links : List Links) → IsLinked cells unmet links → length cells ≤ length links
    → IsLinked cells unmet (links ++ record { before = length cells; behind = length cells } ∷ [])
more_linked cells unmet links is few = record {
  counted = is.counted;
  fences = λ k p at. omega (arith, is.fences k p at, size);
  behind = behind_new;
  before = before_new;
  rings = subst (λ m. IsRing (IsOf cells m) (IsEarly cells) (length cells) behind_new before_new) (sym size) ring;
  behind_is = λ k f at. behind_leads k f (subst (λ m. IsOf cells m k f) size at);
  before_is = λ k f at. before_leads k f (subst (λ m. IsOf cells m k f) size at);
}
  where
    n : ℕ
    n = length links

    end : Links
    end = record { before = length cells; behind = length cells }

    new : List Links
    new = links ++ end ∷ []

    size : length new ≡ n + 1
    size = length-append links (end ∷ [])

    behind_new : ℕ → ℕ
    behind_new = with_one is.behind n n

    before_new : ℕ → ℕ
    before_new = with_one is.before n n

    behind_old : (k : ℕ) → k < n → behind_new k ≡ is.behind k
    behind_old k inside = one_there is.behind n n k (λ same. absurd (omega (arith, same, inside)))

    before_old : (k : ℕ) → k < n → before_new k ≡ is.before k
    before_old k inside = one_there is.before n n k (λ same. absurd (omega (arith, same, inside)))

    behind_n : behind_new n ≡ n
    behind_n = one_here is.behind n n n refl

    before_n : before_new n ≡ n
    before_n = one_here is.before n n n refl

    -- a place of the new lists is the new end, or one of the old lists
    either : (k f : ℕ) → IsOf cells (n + 1) k f → (k ≡ n) ⊎ ((k < n) × IsOf cells n k f)
    either k f (inl x) = inr (omega (arith, slice_get_within cells k (Some x.0) x.1, few), inl x)
    either k f (inr x) =
        elim (cases_eq k n) [
          | inl same ↦ inl same
          | inr apart ↦ let inside : k < n = omega (arith, x.1, apart) in inr (inside, inr (x.0, inside))
        ]

    still : (k f : ℕ) → IsOf cells n k f → IsOf cells (n + 1) k f
    still k f (inl x) = inl x
    still k f (inr x) = inr (x.0, omega (arith, x.1))

    behind_is : (k f : ℕ) → IsOf cells (n + 1) k f → IsOf cells (n + 1) (behind_new k) f
    behind_is k f at =
        elim (either k f at) [
          | inl same ↦ subst (λ j. IsOf cells (n + 1) j f) (same ∙ sym (ap (behind_new) same ∙ behind_n)) at
          | inr old ↦ subst (λ j. IsOf cells (n + 1) j f) (sym (behind_old k old.0)) (still (is.behind k) f (is.rings.behind_in k f old.1))
        ]

    before_is : (k f : ℕ) → IsOf cells (n + 1) k f → IsOf cells (n + 1) (before_new k) f
    before_is k f at =
        elim (either k f at) [
          | inl same ↦ subst (λ j. IsOf cells (n + 1) j f) (same ∙ sym (ap (before_new) same ∙ before_n)) at
          | inr old ↦ subst (λ j. IsOf cells (n + 1) j f) (sym (before_old k old.0)) (still (is.before k) f (is.rings.before_in k f old.1))
        ]

    there_is : (k f : ℕ) → IsOf cells (n + 1) k f → behind_new (before_new k) ≡ k
    there_is k f at =
        elim (either k f at) [
          | inl same ↦ ap (behind_new) (ap (before_new) same ∙ before_n) ∙ (behind_n ∙ sym same)
          | inr old ↦
              ap (behind_new) (before_old k old.0)
              ∙ (behind_old (is.before k) (in_places cells n (is.before k) f few (is.rings.before_in k f old.1)) ∙ is.rings.there k f old.1)
        ]

    back_is : (k f : ℕ) → IsOf cells (n + 1) k f → before_new (behind_new k) ≡ k
    back_is k f at =
        elim (either k f at) [
          | inl same ↦ ap (before_new) (ap (behind_new) same ∙ behind_n) ∙ (before_n ∙ sym same)
          | inr old ↦
              ap (before_new) (behind_old k old.0)
              ∙ (before_old (is.behind k) (in_places cells n (is.behind k) f few (is.rings.behind_in k f old.1)) ∙ is.rings.back k f old.1)
        ]

    later_is : (k f : ℕ) → IsOf cells (n + 1) k f → k < length cells → is.rings.turn (before_new k) < is.rings.turn k
    later_is k f at inside =
        elim (either k f at) [
          | inl same ↦ absurd (omega (arith, same, inside, few))
          | inr old ↦ subst (λ j. is.rings.turn j < is.rings.turn k) (sym (before_old k old.0)) (is.rings.later k f old.1 inside)
        ]

    early_is : (k f : ℕ) → IsOf cells (n + 1) k f → IsEarly cells k → before_new k < length cells → IsEarly cells (before_new k)
    early_is k f at early inside =
        elim (either k f at) [
          | inl same ↦ absurd (omega (arith, ap (before_new) same ∙ before_n, inside, few))
          | inr old ↦
              subst (IsEarly cells) (sym (before_old k old.0))
              (is.rings.early_first k f old.1 early (subst (λ j. j < length cells) (before_old k old.0) inside))
        ]

    links_old : (k : ℕ) → k < n → (behind_of new k ≡ behind_of links k) × (before_of new k ≡ before_of links k)
    links_old k inside =
        let same = get_old links end k inside in
        (ap (λ o. option_map_or (λ (l : Links). l.behind) o 0) same, ap (λ o. option_map_or (λ (l : Links). l.before) o 0) same)

    to_n : (k f : ℕ) → k ≡ n → IsOf cells (n + 1) k f → linked_place (length cells) f (length cells) ≡ n
    to_n k f same (inl x) = absurd (omega (arith, same, slice_get_within cells k (Some x.0) x.1, few))
    to_n k f same (inr x) = to_end (length cells) f (length cells) (omega arith) ∙ (sym x.0 ∙ same)

    behind_leads : (k f : ℕ) → IsOf cells (n + 1) k f → linked_place (length cells) f (behind_of new k) ≡ behind_new k
    behind_leads k f at =
        elim (either k f at) [
          | inl same ↦
              ap (linked_place (length cells) f) (ap (behind_of new) same ∙ ap (λ o. option_map_or (λ (l : Links). l.behind) o 0) (get_new links end))
              ∙ (to_n k f same at ∙ sym (ap behind_new same ∙ behind_n))
          | inr old ↦ ap (linked_place (length cells) f) (links_old k old.0).0 ∙ (is.behind_is k f old.1 ∙ sym (behind_old k old.0))
        ]

    before_leads : (k f : ℕ) → IsOf cells (n + 1) k f → linked_place (length cells) f (before_of new k) ≡ before_new k
    before_leads k f at =
        elim (either k f at) [
          | inl same ↦
              ap (linked_place (length cells) f) (ap (before_of new) same ∙ ap (λ o. option_map_or (λ (l : Links). l.before) o 0) (get_new links end))
              ∙ (to_n k f same at ∙ sym (ap before_new same ∙ before_n))
          | inr old ↦ ap (linked_place (length cells) f) (links_old k old.0).1 ∙ (is.before_is k f old.1 ∙ sym (before_old k old.0))
        ]

    ring : IsRing (IsOf cells (n + 1)) (IsEarly cells) (length cells) (behind_new) (before_new)
    ring = record {
      turn = is.rings.turn;
      behind_in = behind_is;
      before_in = before_is;
      there = there_is;
      back = back_is;
      later = later_is;
      early_first = early_is;
    }

-- the place before the end of a list is in the list, and the end is behind it
pub last_in : (cells : List (Option Pair)) (unmet : List ℕ) (links : List Links) (f link : ℕ) → IsLinked cells unmet links → length cells + f < length links
    → before_of links (length cells + f) ≡ link → IsOf cells (length links) (linked_place (length cells) f link) f
last_in cells unmet links f link is inside link_is =
    let end = end_is_of cells (length links) f inside in
    let place : is.before (length cells + f) ≡ linked_place (length cells) f link = sym (is.before_is (length cells + f) f end) ∙ ap (linked_place (length cells) f) link_is in
    subst (λ k. IsOf cells (length links) k f) place (is.rings.before_in (length cells + f) f end)

pub behind_last : (cells : List (Option Pair)) (unmet : List ℕ) (links : List Links) (f link n : ℕ) → IsLinked cells unmet links → length cells + f < length links
    → before_of links (length cells + f) ≡ link → n ≡ length cells
    → linked_place (length cells) f (behind_of links (linked_place (length cells) f link)) ≡ linked_place (length cells) f n
behind_last cells unmet links f link n is inside link_is n_is =
    let end = end_is_of cells (length links) f inside in
    let place : linked_place (length cells) f link ≡ is.before (length cells + f) = ap (linked_place (length cells) f) (sym link_is) ∙ is.before_is (length cells + f) f end in
    is.behind_is (linked_place (length cells) f link) f (last_in cells unmet links f link is inside link_is)
    ∙ (ap is.behind place ∙ (is.rings.there (length cells + f) f end ∙ sym (to_end (length cells) f n (omega (arith, n_is)))))

-- the link of the end of a list leads to the pair at its front, if there is one
pub front_link : (cells : List (Option Pair)) (unmet : List ℕ) (links : List Links) (f : ℕ) (q : Pair) (is : IsLinked cells unmet links) → length cells + f < length links
    → slice_get cells (is.behind (length cells + f)) ≡ Some (Some q) → slice_get cells (behind_of links (length cells + f)) ≡ Some (Some q)
front_link cells unmet links f q is inside at =
    elim (cases_lt (behind_of links (length cells + f)) (length cells)) [
      | inl cell ↦
          let same = sym (is.behind_is (length cells + f) f (end_is_of cells (length links) f inside)) ∙ to_cell (length cells) f (behind_of links (length cells + f)) cell in
          subst (λ j. slice_get cells j ≡ Some (Some q)) same at
      | inr past ↦
          let same = sym (is.behind_is (length cells + f) f (end_is_of cells (length links) f inside)) ∙ to_end (length cells) f (behind_of links (length cells + f)) past in
          absurd (omega (arith, slice_get_within cells (is.behind (length cells + f)) (Some q) at, same))
    ]

pub front_place : (cells : List (Option Pair)) (unmet : List ℕ) (links : List Links) (f : ℕ) (q : Pair) (is : IsLinked cells unmet links) → length cells + f < length links
    → slice_get cells (behind_of links (length cells + f)) ≡ Some (Some q) → slice_get cells (is.behind (length cells + f)) ≡ Some (Some q)
front_place cells unmet links f q is inside at =
    let cell : behind_of links (length cells + f) < length cells = slice_get_within cells (behind_of links (length cells + f)) (Some q) at in
    let same = sym (to_cell (length cells) f (behind_of links (length cells + f)) cell) ∙ is.behind_is (length cells + f) f (end_is_of cells (length links) f inside) in
    subst (λ j. slice_get cells j ≡ Some (Some q)) same at

-- nobody waits for a fence without a list
pub fence_within : (cells : List (Option Pair)) (unmet : List ℕ) (links : List Links) (fence : ℕ) → IsLinked cells unmet links → length links ≤ length cells + fence
    → (k : ℕ) (p : Pair) → slice_get cells k ≡ Some (Some p) → (p.fence == fence) ≡ false
fence_within cells unmet links fence is past k p at =
    differs p.fence fence (λ same. absurd (omega (arith, is.fences k p at, past, same)))

pub entity_within : (cells : List (Option Pair)) (unmet : List ℕ) (links : List Links) (entity : ℕ) → IsLinked cells unmet links → length unmet ≤ entity
    → (k : ℕ) (p : Pair) → slice_get cells k ≡ Some (Some p) → (p.entity == entity) ≡ false
entity_within cells unmet links entity is past k p at =
    differs p.entity entity (λ same. absurd (omega (arith, (is.counted.placed k p at).2, past, same)))
