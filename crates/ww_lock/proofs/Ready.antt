-- A caller that may lock may lock still after each call.
use Rattle.std.proofs.Common.{◌≡◌, ℕ, List, [], ◌∷◌, ◌++◌, length, map, refl, sym, ap, ◌∙◌, subst, ⊎_elim, arith, Bool, Result, Ok, Err}
use Rattle.ww_lock.specs.declared.acquire.Acquire.{Acquire}
use Rattle.ww_lock.specs.declared.locks.TryLockError.{TryLockError}
use Rattle.ww_lock.specs.declared.locks.TryLockError.TheVariants.{Sealed, Already, Older, Younger}
use Rattle.atomic_table.specs.Seated.{TableId}
use Rattle.ww_lock.specs.Rule.{In}
use Rattle.ww_lock.specs.Steps.{number_of, with_release, without}
use Rattle.ww_lock.specs.Held.{IsApart, Lacks, emptied}
use Rattle.ww_lock.specs.Acquiring.{HoldsOutside, IsReady, IsSameAcquire, Claimed, AnswersTry, view}
use Rattle.ww_lock.specs.declared.seat.Seat.{Seat}
use Rattle.ww_lock.specs.Seats.{IsAsOwed, IsOutside, Sits, behind_pivot, sees}
use Rattle.ww_lock.proofs.Lists.{in_last, in_without}
use Rattle.ww_lock.proofs.Trying.{lacks_same}

module _ {A : Type 0} where
  -- a number that stands once has one value
  pub one_value : (b : ℕ) (x y : A) (xs : List (ℕ × A)) → IsApart xs → In (b, x) xs → In (b, y) xs → x ≡ y
  one_value b x y [] h i j = absurd i
  one_value b x y (q ∷ xs) h i j =
      ⊎_elim (λ s. ⊎_elim (λ t. ap (λ z. z.1) (s ∙ sym t)) (λ t. absurd (h.0 y (subst (λ n. In (n, y) xs) (ap (λ z. z.0) s) t))) j)
      (λ s. ⊎_elim (λ t. absurd (h.0 x (subst (λ n. In (n, x) xs) (ap (λ z. z.0) t) s))) (λ t. one_value b x y xs h.1 s t) j) i

-- a seat still sits where it has the same slots, holds and owes the same, and saw the same
pub sits_on : {P X T : Type 0} (inside : Bool) (z : TableId) (s t : Seat P X T) → Sits inside z s → t.place.table_id ≡ s.place.table_id → t.place.me.1 ≡ s.place.me.1 → (sees t).lock.owes ≡ (sees s).lock.owes → (sees t).pivot ≡ (sees s).pivot
    → t.held.items ≡ s.held.items → Sits inside z t
sits_on {P} {X} {T} inside z s t st table slots owes pivot held = record {
  seated = table ∙ st.seated;
  keys = ap (map number_of) owes ∙ (st.keys ∙ ap (map number_of) (sym held));
  apart = subst (IsApart {A = X}) (sym held) st.apart;
  within = λ b x h. st.within b x (subst (In (b, x)) held h);
  hands = slots ∙ (st.hands ∙ ap (λ xs. behind_pivot inside (emptied xs)) (sym held));
  inside = ap (λ p. p.inside) pivot ∙ st.inside;
  saw = (st.saw.0, st.saw.1, ap (λ p. p.seen) pivot ∙ st.saw.2);
}

no_numbers : {A : Type 0} (xs : List (ℕ × A)) → map number_of xs ≡ [] → xs ≡ []
no_numbers [] e = refl
no_numbers (x ∷ xs) e = let n = ap length e in absurd (omega arith)

-- a seat that holds nothing owes nothing
pub none_owed : {P X T : Type 0} (z : TableId) (s : Seat P X T) → IsOutside z s → (sees s).lock.owes ≡ []
none_owed z s o = no_numbers (sees s).lock.owes (o.sits.keys ∙ ap (map number_of) o.none)

-- a seat that owes what it holds as it is may give it back as it is
pub owes_held : {P X T : Type 0} (fits : ℕ → P → X → Type 0) (s : Seat P X T) → IsApart s.held.items → (sees s).lock.owes ≡ s.held.items → IsAsOwed fits s
owes_held fits s apart e b x y i j p f = subst (fits b p) (one_value b x y s.held.items apart (subst (In (b, x)) e i) j) f

module _ {P X T : Type 0} (fits : ℕ → P → X → Type 0) (z : TableId) where
  -- the caller has taken one more value
  pub took : (b : ℕ) (x : X) (a a' : Acquire P X T) → IsReady fits z a → HoldsOutside z a' → Lacks b a.seat.held.items → a'.sealed ≡ a.sealed → (view a').lock.owes ≡ (view a).lock.owes ++ (b, x) ∷ [] → (view a').task ≡ (view a).task
      → a'.seat.held.items ≡ a.seat.held.items ++ (b, x) ∷ [] → IsReady fits z a'
  took b x a a' r h lacks s o t e = record {
    holds = h;
    unsealed = s ∙ r.unsealed;
    owed = λ d y w i j p f.
        ⊎_elim (λ old. ⊎_elim (λ kept. r.owed d y w old kept p f) (λ new. absurd (lacks_same b a.seat.place.me.0.lock.owes a.seat.held.items r.holds.sits.keys lacks y (subst (λ n. In (n, y) a.seat.place.me.0.lock.owes) (ap (λ q. q.0) new) old)))
        (in_last (d, w) (b, x) a.seat.held.items (subst (In (d, w)) e j)))
        (λ new. ⊎_elim (λ kept. absurd (lacks w (subst (λ n. In (n, w) a.seat.held.items) (ap (λ q. q.0) new) kept))) (λ also. subst (fits d p) (ap (λ q. q.1) new ∙ sym (ap (λ q. q.1) also)) f)
        (in_last (d, w) (b, x) a.seat.held.items (subst (In (d, w)) e j)))
        (in_last (d, y) (b, x) a.seat.place.me.0.lock.owes (subst (In (d, y)) o i));
    idle = t ∙ r.idle;
  }

  -- the caller has locked a value
  pub claimed : (b : ℕ) (a a' : Acquire P X T) → IsReady fits z a → HoldsOutside z a' → Claimed b a a' → IsReady fits z a'
  claimed b a a' r h c = took b c.3.0 a a' r h c.1 c.2.1 (ap (λ u. u.lock.owes) c.3.3) (ap (λ u. u.task) c.3.3) c.3.4

  -- the caller holds and owes what it did
  pub kept : (a a' : Acquire P X T) → IsReady fits z a → HoldsOutside z a' → a'.sealed ≡ a.sealed → (view a').lock.owes ≡ (view a).lock.owes → (view a').task ≡ (view a).task → a'.seat.held ≡ a.seat.held → IsReady fits z a'
  kept a a' r h s o t e = record {
    holds = h;
    unsealed = s ∙ r.unsealed;
    owed = λ d y w i j p f. r.owed d y w (subst (In (d, y)) o i) (subst (λ u. In (d, w) u.items) e j) p f;
    idle = t ∙ r.idle;
  }

  -- the caller has given a value back
  pub released : (b : ℕ) (a a' : Acquire P X T) → IsReady fits z a → HoldsOutside z a' → IsSameAcquire a a' → view a' ≡ with_release b (view a) → a'.seat.held.items ≡ without b a.seat.held.items → IsReady fits z a'
  released b a a' r h s v e = record {
    holds = h;
    unsealed = s.1 ∙ r.unsealed;
    owed = λ d y w i j p f. r.owed d y w (in_without b (d, y) a.seat.place.me.0.lock.owes (subst (λ u. In (d, y) u.lock.owes) v i)).0 (in_without b (d, w) a.seat.held.items (subst (In (d, w)) e j)).0 p f;
    idle = ap (λ u. u.task) v ∙ r.idle;
  }

  -- the caller has tried to lock a value
  pub tried : (b : ℕ) (a a' : Acquire P X T) (r : Result (Unit {0}) TryLockError) → IsReady fits z a → HoldsOutside z a' → AnswersTry b a a' r → IsReady fits z a'
  tried b a a' (Ok u) r h t = took b t.3.0 a a' r h t.1 t.2.1 (ap (λ u. u.lock.owes) t.3.1) (ap (λ u. u.task) t.3.1) t.3.2
  tried b a a' (Err Sealed) r h t = subst (IsReady fits z) (sym t.1) r
  tried b a a' (Err Already) r h t = subst (IsReady fits z) (sym t.2) r
  tried b a a' (Err (Older k)) r h t = kept a a' r h t.2.1 (ap (λ u. u.lock.owes) t.4) (ap (λ u. u.task) t.4) t.5
  tried b a a' (Err (Younger k)) r h t = kept a a' r h t.2.1 (ap (λ u. u.lock.owes) t.4) (ap (λ u. u.task) t.4) t.5
