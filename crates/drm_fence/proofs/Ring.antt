-- Rings of places, where one is taken out or put in.
use Rattle.std.proofs.Common.{◌≡◌, ◌≢◌, ℕ, zero, suc, ◌+◌, ◌*◌, ◌<◌, ◌≤◌, cond, ◌==◌, refl, sym, ap, subst, ◌∙◌, inl, inr, arith, eq-eqb}
use Rattle.std.specs.Prelude.{◌⊎◌}
use Rattle.std.proofs.lemmas.Bool.{cases_eq, cases_lt}
use Rattle.drm_fence.specs.Linked.{IsRing}
use Rattle.drm_fence.proofs.Counted.{differs}

-- what holds of a place, and with each place of the one before it, holds of the first
pub leads : (In : ℕ → ℕ → Type 0) (Early : ℕ → Type 0) (ends : ℕ) (behind before : ℕ → ℕ) (Q : ℕ → Type 0) (f end : ℕ) (is : IsRing In Early ends behind before)
    → ((j : ℕ) → In j f → ends ≤ j → j ≡ end) → ((j : ℕ) → In j f → Q j → before j < ends → Q (before j))
    → (n k : ℕ) → is.turn k < n → In k f → k < ends → Q k → (behind end < ends) × Q (behind end)
leads In Early ends behind before Q f end is only step zero k small at lt q = absurd (omega (arith, small))
leads In Early ends behind before Q f end is only step (suc n) k small at lt q =
    elim (cases_lt (before k) ends) [
      | inl inside ↦ leads In Early ends behind before Q f end is only step n (before k) (omega (arith, small, is.later k f at lt)) (is.before_in k f at) inside (step k at q inside)
      | inr past ↦
          let same : k ≡ behind end = sym (is.there k f at) ∙ ap behind (only (before k) (is.before_in k f at) past) in
          (subst (λ j. j < ends) same lt, subst Q same q)
    ]

-- one place is taken out
pub record IsOut (In In_new : ℕ → ℕ → Type 0) (Early Early_new : ℕ → Type 0) (behind before behind_new before_new : ℕ → ℕ) (k : ℕ) : Type 0 where
  pub in_old : (j g : ℕ) → In_new j g → In j g
  pub away : (j g : ℕ) → In_new j g → j ≢ k
  pub in_new : (j g : ℕ) → In j g → j ≢ k → In_new j g
  pub early_old : (j : ℕ) → Early_new j → Early j
  pub early_new : (j : ℕ) → Early j → j ≢ k → Early_new j
  pub behind_here : behind_new (before k) ≡ behind k
  pub behind_there : (j : ℕ) → j ≢ before k → behind_new j ≡ behind j
  pub before_here : before_new (behind k) ≡ before k
  pub before_there : (j : ℕ) → j ≢ behind k → before_new j ≡ before j

pub ring_without : (In In_new : ℕ → ℕ → Type 0) (Early Early_new : ℕ → Type 0) (ends : ℕ) (behind before behind_new before_new : ℕ → ℕ) (k f : ℕ)
    → IsRing In Early ends behind before → In k f → k < ends → IsOut In In_new Early Early_new behind before behind_new before_new k
    → IsRing In_new Early_new ends behind_new before_new
ring_without In In_new Early Early_new ends behind before behind_new before_new k f is at lt out = record {
  turn = is.turn;
  behind_in = λ j g new. behind_is j g new (out.in_old j g new);
  before_in = λ j g new. before_is j g new (out.in_old j g new);
  there = λ j g new. there_is j g new (out.in_old j g new);
  back = λ j g new. back_is j g new (out.in_old j g new);
  later = λ j g new inside. later_is j g (out.in_old j g new) inside;
  early_first = λ j g new early inside. early_is j g (out.in_old j g new) early inside;
}
  where
    before_apart : before k ≢ k
    before_apart same = absurd (omega (arith, is.later k f at lt, ap is.turn same))

    behind_apart : behind k ≢ k
    behind_apart same = before_apart (sym (ap before same) ∙ is.back k f at)

    behind_is : (j g : ℕ) → In_new j g → In j g → In_new (behind_new j) g
    behind_is j g new old =
        elim (cases_eq j (before k)) [
          | inl same ↦
              let in_k : In k g = subst (λ x. In x g) (ap behind same ∙ is.there k f at) (is.behind_in j g old) in
              subst (λ x. In_new x g) (sym (ap behind_new same ∙ out.behind_here)) (out.in_new (behind k) g (is.behind_in k g in_k) behind_apart)
          | inr apart ↦
              subst (λ x. In_new x g) (sym (out.behind_there j apart))
              (out.in_new (behind j) g (is.behind_in j g old) (λ same. apart (sym (is.back j g old) ∙ ap before same)))
        ]

    before_is : (j g : ℕ) → In_new j g → In j g → In_new (before_new j) g
    before_is j g new old =
        elim (cases_eq j (behind k)) [
          | inl same ↦
              let in_k : In k g = subst (λ x. In x g) (ap before same ∙ is.back k f at) (is.before_in j g old) in
              subst (λ x. In_new x g) (sym (ap before_new same ∙ out.before_here)) (out.in_new (before k) g (is.before_in k g in_k) before_apart)
          | inr apart ↦
              subst (λ x. In_new x g) (sym (out.before_there j apart))
              (out.in_new (before j) g (is.before_in j g old) (λ same. apart (sym (is.there j g old) ∙ ap behind same)))
        ]

    there_is : (j g : ℕ) → In_new j g → In j g → behind_new (before_new j) ≡ j
    there_is j g new old =
        elim (cases_eq j (behind k)) [
          | inl same ↦ ap behind_new (ap before_new same ∙ out.before_here) ∙ (out.behind_here ∙ sym same)
          | inr apart ↦
              ap behind_new (out.before_there j apart)
              ∙ (out.behind_there (before j) (λ same. out.away j g new (sym (is.there j g old) ∙ (ap behind same ∙ is.there k f at))) ∙ is.there j g old)
        ]

    back_is : (j g : ℕ) → In_new j g → In j g → before_new (behind_new j) ≡ j
    back_is j g new old =
        elim (cases_eq j (before k)) [
          | inl same ↦ ap before_new (ap behind_new same ∙ out.behind_here) ∙ (out.before_here ∙ sym same)
          | inr apart ↦
              ap before_new (out.behind_there j apart)
              ∙ (out.before_there (behind j) (λ same. out.away j g new (sym (is.back j g old) ∙ (ap before same ∙ is.back k f at))) ∙ is.back j g old)
        ]

    later_is : (j g : ℕ) → In j g → j < ends → is.turn (before_new j) < is.turn j
    later_is j g old inside =
        elim (cases_eq j (behind k)) [
          | inl same ↦
              omega (arith, is.later k f at lt, is.later j g old inside, ap is.turn (ap before same ∙ is.back k f at), ap is.turn (ap before_new same ∙ out.before_here))
          | inr apart ↦ omega (arith, is.later j g old inside, ap is.turn (out.before_there j apart))
        ]

    early_is : (j g : ℕ) → In j g → Early_new j → before_new j < ends → Early_new (before_new j)
    early_is j g old early inside =
        elim (cases_eq j (behind k)) [
          | inl same ↦
              let is_k : before j ≡ k = ap before same ∙ is.back k f at in
              let is_before : before_new j ≡ before k = ap before_new same ∙ out.before_here in
              let early_k : Early k = subst Early is_k (is.early_first j g old (out.early_old j early) (subst (λ x. x < ends) (sym is_k) lt)) in
              subst Early_new (sym is_before)
              (out.early_new (before k) (is.early_first k f at early_k (subst (λ x. x < ends) is_before inside)) before_apart)
          | inr apart ↦
              let is_before : before_new j ≡ before j = out.before_there j apart in
              subst Early_new (sym is_before)
              (out.early_new (before j) (is.early_first j g old (out.early_old j early) (subst (λ x. x < ends) is_before inside))
              (λ same. apart (sym (is.there j g old) ∙ ap behind same)))
        ]

-- one place is put between two neighbours
pub record IsIn (In In_new : ℕ → ℕ → Type 0) (Early Early_new : ℕ → Type 0) (ends : ℕ) (behind before behind_new before_new : ℕ → ℕ) (k f a b : ℕ) : Type 0 where
  pub one : (j g h : ℕ) → In j g → In j h → g ≡ h
  pub free : (g : ℕ) → In k g → ⊥
  pub here : In_new k f
  pub in_new : (j g : ℕ) → In j g → In_new j g
  pub cases : (j g : ℕ) → In_new j g → ((j ≡ k) × (g ≡ f)) ⊎ In j g
  pub early_old : (j : ℕ) → Early_new j → j ≢ k → Early j
  pub early_new : (j : ℕ) → Early j → Early_new j
  pub early_before : Early_new k → a < ends → Early a
  pub early_behind : Early b → Early_new k
  pub behind_before : behind_new a ≡ k
  pub behind_here : behind_new k ≡ b
  pub behind_there : (j : ℕ) → j ≢ a → j ≢ k → behind_new j ≡ behind j
  pub before_behind : before_new b ≡ k
  pub before_here : before_new k ≡ a
  pub before_there : (j : ℕ) → j ≢ b → j ≢ k → before_new j ≡ before j

pub ring_with : (In In_new : ℕ → ℕ → Type 0) (Early Early_new : ℕ → Type 0) (ends : ℕ) (behind before behind_new before_new : ℕ → ℕ) (k f a b : ℕ)
    → IsRing In Early ends behind before → In a f → behind a ≡ b → IsIn In In_new Early Early_new ends behind before behind_new before_new k f a b
    → IsRing In_new Early_new ends behind_new before_new
ring_with In In_new Early Early_new ends behind before behind_new before_new k f a b is at_a next more = record {
  turn = turn_new;
  behind_in = behind_is;
  before_in = before_is;
  there = there_is;
  back = back_is;
  later = later_is;
  early_first = early_is;
}
  where
    turn_new : ℕ → ℕ
    turn_new j = cond (j == k) (is.turn a * 2 + 1) (is.turn j * 2)

    turn_here : turn_new k ≡ is.turn a * 2 + 1
    turn_here = ap (λ t. cond t (is.turn a * 2 + 1) (is.turn k * 2)) (eq-eqb k k refl)

    turn_there : (j : ℕ) → j ≢ k → turn_new j ≡ is.turn j * 2
    turn_there j apart = ap (λ t. cond t (is.turn a * 2 + 1) (is.turn j * 2)) (differs j k apart)

    at_b : In b f
    at_b = subst (λ x. In x f) next (is.behind_in a f at_a)

    before_b : before b ≡ a
    before_b = sym (ap before next) ∙ is.back a f at_a

    apart_k : (j g : ℕ) → In j g → j ≢ k
    apart_k j g old same = more.free g (subst (λ x. In x g) same old)

    behind_is : (j g : ℕ) → In_new j g → In_new (behind_new j) g
    behind_is j g new =
        elim (more.cases j g new) [
          | inl it ↦ subst (λ y. In_new (behind_new j) y) (sym it.1) (subst (λ x. In_new x f) (sym (ap behind_new it.0 ∙ more.behind_here)) (more.in_new b f at_b))
          | inr old ↦
              elim (cases_eq j a) [
                | inl same ↦
                    let g_is : g ≡ f = more.one a g f (subst (λ x. In x g) same old) at_a in
                    subst (λ y. In_new (behind_new j) y) (sym g_is) (subst (λ x. In_new x f) (sym (ap behind_new same ∙ more.behind_before)) more.here)
                | inr apart ↦ subst (λ x. In_new x g) (sym (more.behind_there j apart (apart_k j g old))) (more.in_new (behind j) g (is.behind_in j g old))
              ]
        ]

    before_is : (j g : ℕ) → In_new j g → In_new (before_new j) g
    before_is j g new =
        elim (more.cases j g new) [
          | inl it ↦ subst (λ y. In_new (before_new j) y) (sym it.1) (subst (λ x. In_new x f) (sym (ap before_new it.0 ∙ more.before_here)) (more.in_new a f at_a))
          | inr old ↦
              elim (cases_eq j b) [
                | inl same ↦
                    let g_is : g ≡ f = more.one b g f (subst (λ x. In x g) same old) at_b in
                    subst (λ y. In_new (before_new j) y) (sym g_is) (subst (λ x. In_new x f) (sym (ap before_new same ∙ more.before_behind)) more.here)
                | inr apart ↦ subst (λ x. In_new x g) (sym (more.before_there j apart (apart_k j g old))) (more.in_new (before j) g (is.before_in j g old))
              ]
        ]

    there_is : (j g : ℕ) → In_new j g → behind_new (before_new j) ≡ j
    there_is j g new =
        elim (more.cases j g new) [
          | inl it ↦ ap behind_new (ap before_new it.0 ∙ more.before_here) ∙ (more.behind_before ∙ sym it.0)
          | inr old ↦
              elim (cases_eq j b) [
                | inl same ↦ ap behind_new (ap before_new same ∙ more.before_behind) ∙ (more.behind_here ∙ sym same)
                | inr apart ↦
                    ap behind_new (more.before_there j apart (apart_k j g old))
                    ∙ (more.behind_there (before j) (λ same. apart (sym (is.there j g old) ∙ (ap behind same ∙ next))) (apart_k (before j) g (is.before_in j g old))
                    ∙ is.there j g old)
              ]
        ]

    back_is : (j g : ℕ) → In_new j g → before_new (behind_new j) ≡ j
    back_is j g new =
        elim (more.cases j g new) [
          | inl it ↦ ap before_new (ap behind_new it.0 ∙ more.behind_here) ∙ (more.before_behind ∙ sym it.0)
          | inr old ↦
              elim (cases_eq j a) [
                | inl same ↦ ap before_new (ap behind_new same ∙ more.behind_before) ∙ (more.before_here ∙ sym same)
                | inr apart ↦
                    ap before_new (more.behind_there j apart (apart_k j g old))
                    ∙ (more.before_there (behind j) (λ same. apart (sym (is.back j g old) ∙ (ap before same ∙ before_b))) (apart_k (behind j) g (is.behind_in j g old))
                    ∙ is.back j g old)
              ]
        ]

    later_is : (j g : ℕ) → In_new j g → j < ends → turn_new (before_new j) < turn_new j
    later_is j g new inside =
        elim (more.cases j g new) [
          | inl it ↦
              omega (arith, ap turn_new it.0, turn_here, ap turn_new (ap before_new it.0 ∙ more.before_here), turn_there a (apart_k a f at_a))
          | inr old ↦
              elim (cases_eq j b) [
                | inl same ↦
                    omega (arith, is.later j g old inside, ap is.turn (ap before same ∙ before_b), turn_here, ap turn_new (ap before_new same ∙ more.before_behind), turn_there j (apart_k j g old))
                | inr apart ↦
                    omega (arith, is.later j g old inside, ap turn_new (more.before_there j apart (apart_k j g old)), turn_there (before j) (apart_k (before j) g (is.before_in j g old)), turn_there j (apart_k j g old))
              ]
        ]

    early_is : (j g : ℕ) → In_new j g → Early_new j → before_new j < ends → Early_new (before_new j)
    early_is j g new early inside =
        elim (more.cases j g new) [
          | inl it ↦
              let is_a : before_new j ≡ a = ap before_new it.0 ∙ more.before_here in
              subst Early_new (sym is_a) (more.early_new a (more.early_before (subst Early_new it.0 early) (subst (λ x. x < ends) is_a inside)))
          | inr old ↦
              elim (cases_eq j b) [
                | inl same ↦
                    subst Early_new (sym (ap before_new same ∙ more.before_behind))
                    (more.early_behind (subst Early same (more.early_old j early (apart_k j g old))))
                | inr apart ↦
                    let is_before : before_new j ≡ before j = more.before_there j apart (apart_k j g old) in
                    subst Early_new (sym is_before)
                    (more.early_new (before j) (is.early_first j g old (more.early_old j early (apart_k j g old)) (subst (λ x. x < ends) is_before inside)))
              ]
        ]
