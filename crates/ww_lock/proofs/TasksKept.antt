-- A step of one seat keeps the tasks' part of the rule.
use Rattle.std.proofs.Common.{◌≡◌, ℕ, List, [], ◌∷◌, ◌++◌, set, sym, refl, ap, ◌∙◌, subst, ⊎_elim, Option, Some, None}
use Rattle.std.proofs.lemmas.Option.{same_Some}
use Rattle.atomic_table.proofs.Lists.{at_snoc}
use Rattle.ww_lock.specs.declared.board.TaskChange.{TaskChange}
use Rattle.ww_lock.specs.declared.board.TaskChange.TheVariants.{Same, Begins, Ends}
use Rattle.ww_lock.specs.Rule.{At, Tasks}
use Rattle.ww_lock.specs.Steps.{task_after, Turns}
use Rattle.ww_lock.proofs.Lists.{seats}

none_some : {T : Type 0} (t : T) {A : Type 0} → None ≡ Some t → A
none_some t e = absurd (cc (e))

module _ {T : Type 0} where
  -- a new seat has no task
  pub tasks_split : (busy : T → Type 0) (views : List (Option T)) → Tasks busy views → Tasks busy (views ++ None ∷ [])
  tasks_split busy views r = record {
    each = λ j t a. ⊎_elim (r.each j t) (λ e. none_some t e) (at_snoc views None (Some t) j a);
    once = λ j k t a b. ⊎_elim (λ a. ⊎_elim (λ b. r.once j k t a b) (λ e. none_some t e) (at_snoc views None (Some t) k b)) (λ e. none_some t e) (at_snoc views None (Some t) j a);
  }

  -- a seat has no task any more
  pub tasks_spent : (busy : T → Type 0) (views : List (Option T)) (id : ℕ) → Tasks busy views → Tasks busy (set views id None)
  tasks_spent busy views id r = let old : (j : ℕ) (t : T) → At (set views id None) j (Some t) → At views j (Some t)
      = λ j t a. seats (λ j (u : Option T). u ≡ Some t → At views j (Some t)) views id None (λ e. none_some t e) (λ j u _ a e. subst (At views j) e a) j (Some t) a refl in record {
        each = λ j t a. r.each j t (old j t a);
        once = λ j k t a b. r.once j k t (old j t a) (old k t b);
      }

  -- the seat id turns p into q, and its task with it
  pub tasks_turn : {P : Type 0} (busy : P → T → Type 0) (p q : P) (views : List (Option T)) (id : ℕ) (v : Option T) (change : TaskChange T) → At views id v → Turns busy p q v change → Tasks (busy p) views
      → Tasks (busy q) (set views id (task_after change v))
  tasks_turn busy p q views id v Same at turns r = record {
    each = λ j t a. seats (λ j (u : Option T). u ≡ Some t → busy q t) views id v (λ e. turns t (r.each id t (subst (At views id) e at))) (λ j u _ a e. turns t (r.each j t (subst (At views j) e a))) j (Some t) a refl;
    once = λ j k t a b. let old : (j : ℕ) → At (set views id v) j (Some t) → At views j (Some t)
        = λ j a. seats (λ j (u : Option T). u ≡ Some t → At views j (Some t)) views id v (λ e. subst (At views id) e at) (λ j u _ a e. subst (At views j) e a) j (Some t) a refl in r.once j k t (old j a) (old k b);
  }
  tasks_turn busy p q views id v (Begins t) at turns r = record {
    each = λ j s a. seats (λ j (u : Option T). u ≡ Some s → busy q s) views id (Some t) (λ e. subst (busy q) (same_Some t s e) turns.2) (λ j u _ a e. turns.3 s (r.each j s (subst (At views j) e a))) j (Some s) a refl;
    once = λ j k s a b. seats (λ j (u : Option T). u ≡ Some s → j ≡ k) views id (Some t)
        (λ e. seats (λ k (u : Option T). u ≡ Some s → id ≡ k) views id (Some t) (λ _. refl) (λ k u _ b f. absurd (turns.1 (subst (busy p) (sym (same_Some t s e)) (r.each k s (subst (At views k) f b))))) k (Some s) b refl)
        (λ j u _ a e. seats (λ k (u : Option T). u ≡ Some s → j ≡ k) views id (Some t) (λ f. absurd (turns.1 (subst (busy p) (sym (same_Some t s f)) (r.each j s (subst (At views j) e a))))) (λ k w _ b f. r.once j k s (subst (At views j) e a) (subst (At views k) f b)) k (Some s) b refl) j (Some s) a refl;
  }
  tasks_turn busy p q views id v Ends at turns r = let r' = tasks_spent (busy p) views id r in record {
    each = λ j s a. seats (λ j (u : Option T). u ≡ Some s → busy q s) views id None (λ e. none_some s e)
        (λ j u ne a e. let h = subst (At views j) e a in turns.2 s (λ same. ne (r.once j id s h (subst (At views id) (turns.1 ∙ ap (λ z. Some z) (sym same)) at))) (r.each j s h)) j (Some s) a refl;
    once = r'.once;
  }
