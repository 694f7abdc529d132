use Rattle.std.proofs.Common.{arith, ◌≡◌, ◌+◌, ℕ, List, length, get_or, sym, refl, ap, ◌∙◌, subst, false, get_or-set_other, Option, Some, None, vec_capacity, MatchOption, length-append, ◌++◌, ◌∷◌, []}
use mathlib.Core.Logic.{dite}
use native.Mathlib.Decide.{ℕ_discrete}
use Rattle.std.specs.Mem.Slots.{slots_items, slots_filled, slots_counts, slots_len, IsFull}
use lib.ListN.{get_elem?}
use mathlib.Core.Option.{some}
use Rattle.ww_lock.specs.declared.board.Slot.{Slot}
use Rattle.ww_lock.specs.declared.board.Slot.TheVariants.{Value}
use Rattle.ww_lock.specs.Lifetime.{TakesApart}
use Rattle.ww_lock.proofs.Closing.{home_value, pivot_at_home, comes_back, set_false, more_back, back_same, Back, Whole, more_whole, whole_same, gives_home, gives_pivot, pivot_is_out, comes_as_seen, pivot_not_out, all_there}
use Rattle.ww_lock.proofs.board.Board.close.Goals as goal

-- the option has a value, for which B holds, exactly where A holds
there_if : {A X : Type 0} (B : X → Type 0) (o : Option X) → MatchOption o (A → ⊥) (λ x. A × B x) → A → (x : X) × (o ≡ Some x) × B x
there_if B None h a = absurd (h a)
there_if B (Some x) h a = (x, refl, h.1)

pub take_value-requires-clause-home : goal.take_value-requires-clause-home
take_value-requires-clause-home g c = let w = g.W.Ward in let i = c.loop-b.invariant in let e = c.close_with-closed.ensures in let t = c.take-pivot.ensures.others in let low = c.loop-b-test.true in let n = slots_counts c.close_with-closed.result.slots in let size = c.args.self.sized.2 in let count = e.counts in
    λ z. (let h = home_value w.facts _ _ _ _ _ e.values.2 c.loop-b.b (let k = e.counts.1 in omega arith) (ap (λ ws. get_elem? (slots_items ws) (c.loop-b.b + 2)) (sym (i.0 ∙ t.3)) ∙ z) in
    (h.0, ap (λ ss. get_elem? ss (c.loop-b.b + 1)) (i.1 ∙ t.0) ∙ h.1))

pub take_value-requires-clause-word : goal.take_value-requires-clause-word
take_value-requires-clause-word g c = let i = c.loop-b.invariant in let e = c.close_with-closed.ensures in let t = c.take-pivot.ensures.others in let low = c.loop-b-test.true in let size = c.args.self.sized in let s0 = size.0 in let s2 = size.2 in let counts = e.counts.0 in
    let words : c.loop-b.closed.words ≡ c.close_with-closed.result.words = i.0 ∙ t.3 in
    let len = ap slots_len words in
    (omega arith, subst (λ ws. IsFull ws) (sym words) e.values.0)

none_at : {X : Type 0} (i : ℕ) (x : X) (xs : List X) → xs ≡ [] → get_elem? xs i ≡ some x → ⊥
none_at i x xs none at = let m = ap (λ l. get_elem? l i) none in absurd (cc (m, at))

pub loop-b-init : goal.loop-b-init
loop-b-init g c = let e = c.close_with-closed.ensures in let t = c.take-pivot.ensures.others in let slots = c.close_with-closed.result.slots in let len = t.2 in let out = c.requires.out in (
  refl,
  refl,
  refl,
  (λ k low. let zero_is : k ≡ 0 = omega (arith, low) in ap (λ l. get_or l k false) t.1 ∙ (ap (λ n. get_or (Rattle.std.proofs.Common.set (slots_filled slots) 0 false) n false) zero_is ∙ set_false (slots_filled slots) 0)),
  (λ k low high. ap (λ l. get_or l k false) t.1 ∙ (get_or-set_other (slots_filled slots) 0 k false false (λ q. omega (arith, q, low)) ∙ e.values.1 k (omega arith) (omega (arith, len, high)))),
  omega arith,
  ap length out.0,
  out.1,
  (λ i x at. absurd (none_at i (Some x) _ out.0 at)),
  (λ i low. absurd (let none = ap length out.0 in omega (arith, none, low))),
)

pub unreachable-requires : goal.unreachable-requires
unreachable-requires g c = let w = g.W.Ward in let e = c.close_with-closed.ensures in
    pivot_at_home w.facts _ _ _ _ _ e.values.2 c.take-pivot.result (c.word-at.ensures ∙ ap some c.if-at-ne0.false) c.take-pivot.ensures.value c.in_default.not-Pivot

pub loop-b-preserved : goal.loop-b-preserved
loop-b-preserved g c = let i = c.loop-b.invariant in let t = c.take_value.ensures.others in let low = c.loop-b-test.true in let X = g.row.W-Value.Denot in let o = c.take_value.result in let p = c.push_reserved.ensures in
    let A : Type 0 = get_elem? (slots_items c.take_value.new.closed.words) (c.loop-b.b + 2) ≡ some 0 in
    let B : X → Type 0 = λ x. get_elem? (slots_items c.take_value.new.closed.slots) (c.loop-b.b + 1) ≡ some (Value x) in
    let value : MatchOption o (A → ⊥) (λ x. A × B x) = subst (λ (z : List ℕ × List (Slot g.row.W-Pivot.Denot X g.row.W-Task.Denot)). MatchOption o (get_elem? z.0 (c.loop-b.b + 2) ≡ some 0 → ⊥) (λ x. (get_elem? z.0 (c.loop-b.b + 2) ≡ some 0) × (get_elem? z.1 (c.loop-b.b + 1) ≡ some (Value x)))) (λ k. (slots_items (sym t.3 k), sym t.0 k)) c.take_value.ensures.value in
    let N : Type 0 = (o : Option X) × (c.push_reserved.new.self.items ≡ c.loop-b.out.items ++ o ∷ []) × (vec_capacity c.push_reserved.new.self ≡ vec_capacity c.loop-b.out) × ((x : X) → o ≡ Some x → B x × A) × (A → (x : X) × (o ≡ Some x) × B x) in
    let next : N = (o, p.items, p.capacity, (λ x e. (let h = subst (λ z. MatchOption z (A → ⊥) (λ y. A × B y)) e value in (h.1, h.0))), there_if B o value) in (
      t.3 ∙ i.0,
      t.0 ∙ i.1,
      t.2 ∙ i.2,
      (λ k h. dite (ℕ_discrete k (c.loop-b.b + 1))
          (λ same. ap (λ l. get_or l k false) t.1 ∙ (ap (λ n. get_or (Rattle.std.proofs.Common.set (slots_filled c.loop-b.closed.slots) (c.loop-b.b + 1) false) n false) same ∙ set_false (slots_filled c.loop-b.closed.slots) (c.loop-b.b + 1)))
          (λ ne. ap (λ l. get_or l k false) t.1 ∙ (get_or-set_other (slots_filled c.loop-b.closed.slots) (c.loop-b.b + 1) k false false (λ q. ne q) ∙ i.3 k (omega arith)))),
      (λ k h l. ap (λ l. get_or l k false) t.1 ∙ (get_or-set_other (slots_filled c.loop-b.closed.slots) (c.loop-b.b + 1) k false false (λ q. omega arith) ∙ i.4 k (omega arith) (let m = t.2 in omega arith))),
      omega arith,
      (let q = ap length next.1 in let n = length-append c.loop-b.out.items (next.0 ∷ []) in let had = i.6 in omega arith),
      (let q = next.2 in let had = i.7 in omega arith),
      subst (Back (slots_items c.take_value.new.closed.words) (slots_items c.take_value.new.closed.slots)) (sym next.1)
          (more_back (slots_items c.take_value.new.closed.words) (slots_items c.take_value.new.closed.slots) c.loop-b.out.items c.loop-b.b next.0 i.6
          (back_same _ _ _ _ c.loop-b.out.items (ap slots_items (sym t.3)) (sym t.0) i.8) next.3),
      subst (Whole (slots_items c.take_value.new.closed.words) (slots_items c.take_value.new.closed.slots)) (sym next.1)
          (more_whole (slots_items c.take_value.new.closed.words) (slots_items c.take_value.new.closed.slots) c.loop-b.out.items c.loop-b.b next.0 i.6
          (whole_same _ _ _ _ c.loop-b.out.items (ap slots_items (sym t.3)) (sym t.0) i.9) next.4),
    )

pub returns-clause-pivot : goal.returns-clause-pivot
returns-clause-pivot g c = let w = g.W.Ward in let i = c.loop-b.invariant in let e = c.close_with-closed.ensures in let t = c.take-pivot.ensures.others in let n = slots_counts c.close_with-closed.result.slots in let count = e.counts in
    comes_back w.facts _ _ _ _ _ e.values.2 c.in-Pivot.pivot c.loop-b.out.items (let had = i.6 in let low = i.5 in let s₁ = c.args.self.sized in let s = s₁.2 in omega arith) (c.word-at.ensures ∙ ap some c.if-at-ne0.false) (c.take-pivot.ensures.value ∙ ap some c.in-Pivot.is)
    (back_same _ _ _ _ c.loop-b.out.items (ap slots_items (i.0 ∙ t.3)) (i.1 ∙ t.0) i.8)

pub returns-clause-home : goal.returns-clause-home
returns-clause-home g c = let w = g.W.Ward in let i = c.loop-b.invariant in let e = c.close_with-closed.ensures in let t = c.take-pivot.ensures.others in let n = slots_counts c.close_with-closed.result.slots in let s = c.args.self.sized in
    let back = back_same _ _ _ _ c.loop-b.out.items (ap slots_items (i.0 ∙ t.3)) (i.1 ∙ t.0) i.8 in
    let whole = whole_same _ _ _ _ c.loop-b.out.items (ap slots_items (i.0 ∙ t.3)) (i.1 ∙ t.0) i.9 in
    subst (λ k. TakesApart w.facts k c.args.seat.place.id c.args.seat.place.me.0 c.loop-b.out.items (Some c.in-Pivot.pivot)) s.1 (
      e.values.2.0,
      e.values.2.1,
      gives_home w.facts _ _ _ _ _ e.values.2 c.loop-b.out.items (let had = i.6 in let low = i.5 in let last = c.loop-b-test.false in let count = e.counts.1 in let size = s.2 in omega arith) back whole,
      gives_pivot w.facts _ _ _ _ _ e.values.2 c.in-Pivot.pivot (c.word-at.ensures ∙ ap some c.if-at-ne0.false) (c.take-pivot.ensures.value ∙ ap some c.in-Pivot.is),
    )

pub returns-then-at-ne0-clause-home : goal.returns-then-at-ne0-clause-home
returns-then-at-ne0-clause-home g c = let w = g.W.Ward in let i = c.loop-b.invariant in let e = c.close_with-closed.ensures in let t = c.take-pivot.ensures.others in let n = slots_counts c.close_with-closed.result.slots in let s = c.args.self.sized in
    let back = back_same _ _ _ _ c.loop-b.out.items (ap slots_items (i.0 ∙ t.3)) (i.1 ∙ t.0) i.8 in
    let whole = whole_same _ _ _ _ c.loop-b.out.items (ap slots_items (i.0 ∙ t.3)) (i.1 ∙ t.0) i.9 in
    subst (λ k. TakesApart w.facts k c.args.seat.place.id c.args.seat.place.me.0 c.loop-b.out.items None) s.1 (
      e.values.2.0,
      e.values.2.1,
      gives_home w.facts _ _ _ _ _ e.values.2 c.loop-b.out.items (let had = i.6 in let low = i.5 in let last = c.loop-b-test.false in let count = e.counts.1 in let size = s.2 in omega arith) back whole,
      pivot_is_out w.facts _ _ _ _ _ e.values.2 c.word-at.result c.word-at.ensures c.if-at-ne0.true,
    )

pub returns-clause-last : goal.returns-clause-last
returns-clause-last g c = let w = g.W.Ward in let e = c.close_with-closed.ensures in let t = c.take-pivot.ensures.others in
    λ all. comes_as_seen w.facts _ _ _ _ _ e.values.2 all c.in-Pivot.pivot (c.word-at.ensures ∙ ap some c.if-at-ne0.false) (c.take-pivot.ensures.value ∙ ap some c.in-Pivot.is)

pub returns-then-at-ne0-clause-last : goal.returns-then-at-ne0-clause-last
returns-then-at-ne0-clause-last g c = let w = g.W.Ward in let e = c.close_with-closed.ensures in
    λ all. pivot_not_out w.facts _ _ _ _ _ e.values.2 all c.word-at.result c.word-at.ensures c.if-at-ne0.true

pub returns-clause-all : goal.returns-clause-all
returns-clause-all g c = let w = g.W.Ward in let i = c.loop-b.invariant in let e = c.close_with-closed.ensures in let t = c.take-pivot.ensures.others in let n = slots_counts c.close_with-closed.result.slots in let s = c.args.self.sized in
    let whole = whole_same _ _ _ _ c.loop-b.out.items (ap slots_items (i.0 ∙ t.3)) (i.1 ∙ t.0) i.9 in
    λ all b low. all_there w.facts _ _ _ _ _ e.values.2 c.loop-b.out.items (let had = i.6 in let low' = i.5 in let last = c.loop-b-test.false in let count = e.counts.1 in let size = s.2 in omega arith) whole all b (let had = i.6 in let low' = i.5 in let last = c.loop-b-test.false in omega arith)

pub returns-then-at-ne0-clause-all : goal.returns-then-at-ne0-clause-all
returns-then-at-ne0-clause-all g c = let w = g.W.Ward in let i = c.loop-b.invariant in let e = c.close_with-closed.ensures in let t = c.take-pivot.ensures.others in let n = slots_counts c.close_with-closed.result.slots in let s = c.args.self.sized in
    let whole = whole_same _ _ _ _ c.loop-b.out.items (ap slots_items (i.0 ∙ t.3)) (i.1 ∙ t.0) i.9 in
    λ all b low. all_there w.facts _ _ _ _ _ e.values.2 c.loop-b.out.items (let had = i.6 in let low' = i.5 in let last = c.loop-b-test.false in let count = e.counts.1 in let size = s.2 in omega arith) whole all b (let had = i.6 in let low' = i.5 in let last = c.loop-b-test.false in omega arith)
