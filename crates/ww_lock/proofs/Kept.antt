-- Each step keeps the rule of the board.
use Rattle.std.proofs.Common.{◌≡◌, ◌≢◌, ℕ, suc, ◌+◌, ◌^◌, ◌<◌, ◌≤◌, eqb, List, [], ◌∷◌, ◌++◌, map, length, get_or, set, sym, refl, ap, ◌∙◌, subst, ◌⊎◌, inl, arith, length-set, get_or-set_other, get_or-set_same, eq-eqb, ne_eqb, true, false}
use Rattle.std.proofs.lemmas.List.Sorted.{IsPermutation-sym}
use Rattle.std.proofs.lemmas.Bool.{false_from_ne_true, false≢true}
use mathlib.Core.Logic.{dite}
use mathlib.Core.Option.{none, some}
use mathlib.Core.Option as maybe
use mathlib.Core.List.{map-append}
use native.Mathlib.Decide.{ℕ_discrete}
use lib.ListN.{get_elem?}
use lib.Seq.{set-get_or, map-set}
use prog.Atomic.{either}
use Rattle.atomic_table.specs.Table.{State, step, keeps, takes, gives, stepped, rest, Allows, Splits, Joins}
use Rattle.atomic_table.proofs.Lists.{set_else, set_again, at_map, at_longer}
use Rattle.ww_lock.specs.declared.board.View.{View}
use Rattle.ww_lock.specs.declared.board.LockView.{LockView}
use Rattle.ww_lock.specs.declared.board.PivotView.{PivotView}
use Rattle.ww_lock.specs.declared.board.Slot.{Slot}
use Rattle.ww_lock.specs.declared.board.Slot.TheVariants.{Pivot, Value}
use Rattle.ww_lock.specs.Rule.{In, At, Locks, Pivots, Parts, Keeps, lock_of, pivot_of, idle, saw}
use Rattle.ww_lock.specs.Steps.{Sat, drawn, exhausted, with_end, claimed, released, entered, left, left_as, settled, with_entry, with_exit, number_of, with_ticket, with_claim, with_met, with_release, left_half, right_half, joined, HasSeen, IsLater}
use Rattle.ww_lock.proofs.Lists.{key_in, in_permutation, in_left, in_right, set_at, same_view}
use Rattle.ww_lock.proofs.Sharing.{parts_stay, parts_split, parts_join, none_halved, seen_by_all}
use Rattle.ww_lock.proofs.LocksKept as lk
use Rattle.ww_lock.proofs.PivotsKept as pk
use Rattle.ww_lock.proofs.LooksKept as fk
use Rattle.ww_lock.proofs.TasksKept as tk
use Rattle.ww_lock.specs.Facts.{Facts, AreLawful}
use Rattle.ww_lock.specs.Leaving.{MayLeave, MayPost}
use Rattle.ww_lock.specs.Rule.{Looks, Tasks, looked_of, task_of, looked_only, spent}
use Rattle.ww_lock.specs.Steps.{with_post, with_look, posted_as, posts_word, looks_at, read_back}
use Rattle.ww_lock.specs.declared.board.TaskChange.{TaskChange}
use Rattle.ww_lock.specs.declared.board.TaskChange.TheVariants.{Same}
use Rattle.std.specs.Prelude.{Bool, ◌&&◌, not}
use Rattle.std.specs.Prelude as plain

abbrev first_or : {A : Type 0} → A → List A → A
first_or d [] = d
first_or d (x ∷ xs) = x

-- a seat that has something was not taken in by another
module _ {P X T : Type 0} (v : View P X T) where
  by_seen : HasSeen v → v ≡ looked_only v.looked → ⊥
  by_seen h b = let n : suc (length h.1) ≡ 0 = ap length (sym h.2 ∙ ap (λ z. z.pivot.seen) b) in omega arith

  by_inside : v.pivot.inside ≡ true → v ≡ looked_only v.looked → ⊥
  by_inside e b = false≢true (sym (ap (λ z. z.pivot.inside) b) ∙ e)

  by_ticket : 0 < v.lock.ticket → v ≡ looked_only v.looked → ⊥
  by_ticket pos b = let n : v.lock.ticket ≡ 0 = ap (λ z. z.lock.ticket) b in omega arith

  by_owed : (b : ℕ) (x : X) → In (b, x) v.lock.owes → v ≡ looked_only v.looked → ⊥
  by_owed b x h e = subst (λ (z : View P X T). In (b, x) z.lock.owes) e h

module _ {P X T : Type 0} (facts : Facts P X T) (lawful : AreLawful facts) (posts : ℕ) where
  abbrev Rule : State (Slot P X T) (View P X T) → Type 0
  Rule = Keeps facts posts

  abbrev Homes : Type 0
  Homes = List (maybe.Option (Slot P X T))

  abbrev Fit : P → ℕ → X → Type 0
  Fit p b x = facts.fits b p x

  wider : (s : State (Slot P X T) (View P X T)) (r : Rule s) → r.n + 2 ≤ length s.words
  wider s r = let w = r.wide in omega arith

  -- the fence words stay where a step changes a word below them, and its seat looks at none
  looks_same : (s : State (Slot P X T) (View P X T)) (r : Rule s) (i n' id : ℕ) (v w : View P X T) → At s.views id v → i < r.n + 2 → w.looked ≡ v.looked → Looks (facts.posted r.shown) r.n posts (set s.words i n') (map looked_of (set s.views id w))
  looks_same s r i n' id v w at near e = subst (Looks (facts.posted r.shown) r.n posts (set s.words i n'))
      (sym (map-set looked_of s.views id w ∙ (ap (λ (l : List (ℕ × ℕ)). set (map looked_of s.views) id l) e ∙ set_again (map looked_of s.views) id v.looked (at_map looked_of s.views id v at))))
      (fk.looks_stay r.n posts (map looked_of s.views) (facts.posted r.shown) s.words (set s.words i n') (λ f _. get_or-set_other s.words i (r.n + 2 + f) n' 0 (λ e. omega arith)) r.looks)

  -- the tasks stay where the seat of a step keeps its task
  tasks_same : (s : State (Slot P X T) (View P X T)) (r : Rule s) (id : ℕ) (v w : View P X T) → At s.views id v → w.task ≡ v.task → Tasks (facts.busy r.shown) (map task_of (set s.views id w))
  tasks_same s r id v w at e = subst (Tasks (facts.busy r.shown))
      (sym (map-set task_of s.views id w ∙ (ap (λ (t : plain.Option T). set (map task_of s.views) id t) e ∙ set_again (map task_of s.views) id v.task (at_map task_of s.views id v at)))) r.tasks

  -- the parts stay where the seat of a step has something and keeps its part
  parts_same : (s : State (Slot P X T) (View P X T)) (r : Rule s) (id : ℕ) (v w : View P X T) → At s.views id v → w.part ≡ v.part → (v ≡ looked_only v.looked → ⊥) → Parts (set s.views id w)
  parts_same s r id v w at e some_left = parts_stay s.views id v w at e (λ none. absurd (some_left (r.parts.blank id v at (sym e ∙ none)))) r.parts

  -- some seat has seen the pivot still, where the seat of a step has seen what it had
  latest_same : (s : State (Slot P X T) (View P X T)) (r : Rule s) (id : ℕ) (v w : View P X T) → At s.views id v → w.pivot.seen ≡ v.pivot.seen → (j : ℕ) × (u : View P X T) × At (set s.views id w) j u × In r.shown u.pivot.seen
  latest_same s r id v w at e = let h = r.latest in dite (ℕ_discrete h.0 id)
      (λ same_seat. (id, w, set_at s.views id v w at, subst (In r.shown) (sym e) (subst (λ (z : View P X T). In r.shown z.pivot.seen) (same_view s.views id h.0 v h.1 at h.2 same_seat) h.3)))
      (λ ne. (h.0, h.1, set_else s.views id h.0 w ne ∙ h.2, h.3))

  -- the rule stays where a step changes the values' part alone
  lock_step : (s : State (Slot P X T) (View P X T)) (r : Rule s) (i n' id : ℕ) (v : View P X T) (l : LockView X) (homes' : Homes) → At s.views id v → (v ≡ looked_only v.looked → ⊥) → i ≢ 1 → i < r.n + 2 → length homes' ≡ length s.homes → get_elem? homes' 0 ≡ get_elem? s.homes 0
      → Locks (Fit r.shown) r.n (set s.words i n') homes' (set (map lock_of s.views) id l) → Rule record { words = set s.words i n'; homes = homes'; views = set s.views id (record v { lock = l }) }
  lock_step s r i n' id v l homes' at some_left ne near deep there locks = let w : View P X T = record v { lock = l } in record {
    n = r.n;
    shown = r.shown;
    wide = length-set s.words i n' ∙ r.wide;
    deep = deep ∙ r.deep;
    locks = subst (Locks (Fit r.shown) r.n (set s.words i n') homes') (sym (map-set lock_of s.views id w)) locks;
    pivots = subst (Pivots facts r.shown _ homes') (sym (map-set pivot_of s.views id w ∙ set_again (map pivot_of s.views) id v.pivot (at_map pivot_of s.views id v at)))
        (pk.slots_stay facts lawful r.shown (get_or s.words 1 0) _ s.homes homes' (map pivot_of s.views) (get_or-set_other s.words i 1 n' 0 (λ e. ne (sym e))) there r.pivots);
    looks = looks_same s r i n' id v w at near refl;
    tasks = tasks_same s r id v w at refl;
    parts = parts_same s r id v w at refl some_left;
    latest = latest_same s r id v w at refl;
  }

  -- the rule stays where a step changes nothing
  unmoved : (s : State (Slot P X T) (View P X T)) (r : Rule s) (i id : ℕ) (v : View P X T) → At s.views id v → Rule record { words = set s.words i (get_or s.words i 0); homes = s.homes; views = set s.views id v }
  unmoved s r i id v at = subst (λ (z : List ℕ × List (View P X T)). Rule record { words = z.0; homes = s.homes; views = z.1 }) (λ k. (sym (set-get_or s.words i 0) k, sym (set_again s.views id v at) k)) r

  pub draws : (slots id : ℕ) (me : Sat P X T) (old : ℕ) → old < 2 ^ 63 → me.0.lock.owes ≡ [] → HasSeen me.0 → Allows Rule slots id me 0 (λ n. either (eqb n old) (old + 1) n) (drawn (step slots 0 old (old + 1) none) me)
  draws slots id me old small bare saw_one s r deep at _ = let n : ℕ = get_or s.words 0 0 in
      dite (ℕ_discrete n old)
      (λ hit. (
        with_ticket old me.0,
        keeps,
        tt,
        subst (λ b. Rule (stepped s 0 (either b (old + 1) n) id me.1 (with_ticket old me.0) keeps)) (sym (eq-eqb n old hit))
            (lock_step s r 0 (old + 1) id me.0 _ s.homes at (by_seen me.0 saw_one) (λ e. omega arith) (omega arith) refl refl
            (lk.draws (Fit r.shown) r.n s.words s.homes (map lock_of s.views) r.locks id me.0.lock (at_map lock_of s.views id me.0 at) (wider s r) r.deep old small hit bare)),
        ((λ _. (ap (λ (z : ℕ). (with_ticket z me.0, me.1)) (sym hit), let at' = at_map lock_of s.views id me.0 at in (r.locks.counter.0, r.locks.tickets id me.0.lock at', r.locks.known id me.0.lock at', false_from_ne_true me.0.lock.ended (λ t. let e = r.locks.ended id me.0.lock at' t in omega arith)))), λ not. absurd (not hit)),
      ))
      (λ miss. (
        me.0,
        keeps,
        tt,
        subst (λ b. Rule (stepped s 0 (either b (old + 1) n) id me.1 me.0 keeps)) (sym (ne_eqb n old miss)) (unmoved s r 0 id me.0 at),
        ((λ hit. absurd (miss hit)), λ _. refl),
      ))

  pub exhausts : (slots id : ℕ) (me : Sat P X T) → HasSeen me.0 → Allows Rule slots id me 0 (λ n. n) (exhausted (step slots 0 0 0 none) me)
  exhausts slots id me saw_one s r deep at _ = let n : ℕ = get_or s.words 0 0 in
      dite (ℕ_discrete n (2 ^ 63))
      (λ full. let w : View P X T = with_end me.0 in (
        w,
        keeps,
        tt,
        lock_step s r 0 n id me.0 _ s.homes at (by_seen me.0 saw_one) (λ e. omega arith) (omega arith) refl refl
            (subst (λ (ws : List ℕ). Locks (Fit r.shown) r.n ws s.homes (set (map lock_of s.views) id w.lock)) (sym (set-get_or s.words 0 0))
            (lk.ends (Fit r.shown) r.n s.words s.homes (map lock_of s.views) r.locks id me.0.lock (at_map lock_of s.views id me.0 at) (wider s r) r.deep full)),
        ((λ _. refl), λ not. absurd (not full)),
      ))
      (λ ne. (me.0, keeps, tt, unmoved s r 0 id me.0 at, ((λ full. absurd (ne full)), λ _. refl)))

  pub claims : (slots id : ℕ) (me : Sat P X T) (b t : ℕ) → b + 1 < slots → me.0.lock.ticket ≡ t → 0 < t → ((x : X) → In (b, x) me.0.lock.owes → ⊥)
      → Allows Rule slots id me (b + 2) (λ n. either (eqb n 0) t n) (claimed (step slots (b + 2) 0 t none) me)
  claims slots id me b t near mine pos free s r deep at _ = let n : ℕ = get_or s.words (b + 2) 0 in let tall = r.deep in let inside : b < r.n = omega arith in let at' = at_map lock_of s.views id me.0 at in
      dite (ℕ_discrete n 0)
      (λ hit. let locks = r.locks in let h = locks.home b inside hit in let x : X = h.0 in let w : View P X T = with_claim b x me.0 in (
        w,
        takes (b + 1) (Value x),
        h.1,
        subst (λ k. Rule (stepped s (b + 2) (either k t n) id me.1 w (takes (b + 1) (Value x)))) (sym (eq-eqb n 0 hit))
            (lock_step s r (b + 2) t id me.0 _ (set s.homes (b + 1) none) at (by_ticket me.0 (subst (λ (k : ℕ). 0 < k) (sym mine) pos)) (λ e. omega arith) (omega arith) (length-set s.homes (b + 1) none) (set_else s.homes (b + 1) 0 none (λ e. omega arith))
            (lk.claims (Fit r.shown) r.n s.words s.homes (map lock_of s.views) r.locks id me.0.lock at' (wider s r) r.deep b t x inside mine pos hit h.2)),
        ((λ c e. let same : b ≡ c = omega arith in ((λ _. (x, ap (λ (z : ℕ). (with_claim z x me.0, (z + 1, Value x) ∷ me.1)) same)), λ not. absurd (not hit)))),
      ))
      (λ miss. let f = lk.fails (Fit r.shown) r.n s.words s.homes (map lock_of s.views) r.locks id me.0.lock at' (wider s r) r.deep b inside miss free in let w : View P X T = with_met b n me.0 in (
        w,
        keeps,
        tt,
        subst (λ z. Rule (stepped s (b + 2) (either z t n) id me.1 w keeps)) (sym (ne_eqb n 0 miss))
            (lock_step s r (b + 2) n id me.0 _ s.homes at (by_ticket me.0 (subst (λ (k : ℕ). 0 < k) (sym mine) pos)) (λ e. omega arith) (omega arith) refl refl (subst (λ (ws : List ℕ). Locks (Fit r.shown) r.n ws s.homes (set (map lock_of s.views) id w.lock)) (sym (set-get_or s.words (b + 2) 0)) f.1)),
        (λ c e. let same : b ≡ c = omega arith in ((λ hit. absurd (miss hit)), λ _. (f.0, ap (λ (z : ℕ). (with_met z n me.0, me.1)) same))),
      ))

  pub releases : (slots id : ℕ) (me : Sat P X T) (b : ℕ) (x y : X) → me.1 ≡ (b + 1, Value y) ∷ rest me.1 → In (b, x) me.0.lock.owes → ((p : P) → facts.fits b p x → facts.fits b p y)
      → Allows Rule slots id me (b + 2) (λ _. 0) (λ _. released (step slots (b + 2) 0 0 none) me 0)
  releases slots id me b x y front has like s r deep at _ = let locks = r.locks in let due = locks.owed id me.0.lock b x (at_map lock_of s.views id me.0 at) has in let homes' : Homes = set s.homes (b + 1) (some (Value y)) in
      let w : View P X T = with_release b me.0 in (
        w,
        gives,
        tt,
        subst (λ (c : List (ℕ × Slot P X T)). Rule (stepped s (b + 2) 0 id c w gives)) (sym front)
            (lock_step s r (b + 2) 0 id me.0 _ homes' at (by_owed me.0 b x has) (λ e. omega arith) (omega arith) (length-set s.homes (b + 1) (some (Value y))) (set_else s.homes (b + 1) 0 (some (Value y)) (λ e. omega arith))
            (lk.releases (Fit r.shown) r.n s.words s.homes (map lock_of s.views) r.locks id me.0.lock (at_map lock_of s.views id me.0 at) (wider s r) r.deep b x y has (like r.shown due.3))),
        (λ c e. let same : b ≡ c = omega arith in ap (λ (z : ℕ). (with_release z me.0, rest me.1)) same),
      )

  looked_again : (s : State (Slot P X T) (View P X T)) (id : ℕ) (v w : View P X T) → At s.views id v → w.looked ≡ v.looked → map looked_of (set s.views id w) ≡ map looked_of s.views
  looked_again s id v w at e = map-set looked_of s.views id w ∙ (ap (λ (l : List (ℕ × ℕ)). set (map looked_of s.views) id l) e ∙ set_again (map looked_of s.views) id v.looked (at_map looked_of s.views id v at))

  pub splits : (id : ℕ) (v : View P X T) → Splits Rule id v (left_half v) (right_half v)
  splits id v s r at = let w : View P X T = left_half v in let u : View P X T = right_half v in let views' : List (View P X T) = set s.views id w in record {
    n = r.n;
    shown = r.shown;
    wide = r.wide;
    deep = r.deep;
    locks = subst (Locks (Fit r.shown) r.n s.words s.homes)
        (sym (map-append lock_of views' (u ∷ []) ∙ ap (λ (l : List (LockView X)). l ++ idle ∷ []) (map-set lock_of s.views id w ∙ set_again (map lock_of s.views) id v.lock (at_map lock_of s.views id v at))))
        (lk.seated (Fit r.shown) r.n s.words s.homes (map lock_of s.views) r.locks);
    pivots = subst (Pivots facts r.shown (get_or s.words 1 0) s.homes)
        (sym (map-append pivot_of views' (u ∷ []) ∙ ap (λ (l : List (PivotView P)). l ++ saw v.pivot.seen ∷ []) (map-set pivot_of s.views id w ∙ set_again (map pivot_of s.views) id v.pivot (at_map pivot_of s.views id v at))))
        (pk.splits facts lawful r.shown s.homes (map pivot_of s.views) id v.pivot (at_map pivot_of s.views id v at) (get_or s.words 1 0) r.pivots);
    looks = subst (Looks (facts.posted r.shown) r.n posts s.words)
        (sym (map-append looked_of views' (u ∷ []) ∙ ap (λ (l : List (List (ℕ × ℕ))). l ++ v.looked ∷ []) (looked_again s id v w at refl)))
        (fk.looks_split r.n posts (map looked_of s.views) (facts.posted r.shown) s.words r.looks id v.looked (at_map looked_of s.views id v at));
    tasks = subst (Tasks (facts.busy r.shown))
        (sym (map-append task_of views' (u ∷ []) ∙ ap (λ (l : List (plain.Option T)). l ++ plain.None ∷ []) (map-set task_of s.views id w ∙ set_again (map task_of s.views) id v.task (at_map task_of s.views id v at))))
        (tk.tasks_split (facts.busy r.shown) (map task_of s.views) r.tasks);
    parts = parts_split s.views id v w u at refl refl (λ none. ap left_half (r.parts.blank id v at (none_halved v.part none))) (λ none. ap right_half (r.parts.blank id v at (none_halved v.part none))) r.parts;
    latest = let h = latest_same s r id v w at refl in (h.0, h.1, at_longer views' (u ∷ []) h.0 h.1 h.2, h.3);
  }

  pub joins : (id : ℕ) (v : View P X T) (other : ℕ) (u : View P X T) → u.lock.owes ≡ [] → v.pivot.inside ≡ false → u.pivot.inside ≡ false → Joins Rule id v other u (joined v u) spent
  joins id v other u bare off away s r at ne there' = let there : get_elem? s.views other ≡ some u = sym (set_else s.views id other (joined v u) ne) ∙ there' in
      let w : View P X T = joined v u in record {
        n = r.n;
        shown = r.shown;
        wide = r.wide;
        deep = r.deep;
        locks = subst (Locks (Fit r.shown) r.n s.words s.homes) (sym (map-set lock_of (set s.views id w) other spent ∙ ap (λ (l : List (LockView X)). set l other idle) (map-set lock_of s.views id w)))
            (lk.joins (Fit r.shown) r.n s.words s.homes (map lock_of s.views) r.locks id v.lock (at_map lock_of s.views id v at) (wider s r) r.deep other u.lock (at_map lock_of s.views other u there) ne bare);
        pivots = subst (Pivots facts r.shown (get_or s.words 1 0) s.homes) (sym (map-set pivot_of (set s.views id w) other spent ∙ ap (λ (l : List (PivotView P)). set l other (saw [])) (map-set pivot_of s.views id w)))
            (pk.joins facts lawful r.shown (get_or s.words 1 0) s.homes (map pivot_of s.views) id v.pivot other u.pivot (at_map pivot_of s.views id v at) (at_map pivot_of s.views other u there) ne off away r.pivots);
        looks = subst (Looks (facts.posted r.shown) r.n posts s.words) (sym (map-set looked_of (set s.views id w) other spent ∙ ap (λ (l : List (List (ℕ × ℕ))). set l other []) (map-set looked_of s.views id w)))
            (fk.looks_join r.n posts (map looked_of s.views) (facts.posted r.shown) s.words r.looks id v.looked (at_map looked_of s.views id v at) other u.looked (at_map looked_of s.views other u there));
        tasks = subst (Tasks (facts.busy r.shown)) (sym (map-set task_of (set s.views id w) other spent ∙ ap (λ (l : List (plain.Option T)). set l other plain.None) (map-set task_of s.views id w ∙ set_again (map task_of s.views) id v.task (at_map task_of s.views id v at))))
            (tk.tasks_spent (facts.busy r.shown) (map task_of s.views) other r.tasks);
        parts = parts_join s.views id v other u w spent at there ne refl refl refl (λ _ _ a b. (λ i. joined (a i) (b i))) r.parts;
        latest = let h = r.latest in let here : get_elem? (set (set s.views id w) other spent) id ≡ some w = set_else (set s.views id w) other id spent (λ e. ne (sym e)) ∙ set_at s.views id v w at in dite (ℕ_discrete h.0 other)
            (λ e. (id, w, here, in_right r.shown v.pivot.seen u.pivot.seen (subst (λ (z : View P X T). In r.shown z.pivot.seen) (same_view s.views other h.0 u h.1 there h.2 e) h.3)))
            (λ apart. dite (ℕ_discrete h.0 id)
            (λ e. (id, w, here, in_left r.shown v.pivot.seen u.pivot.seen (subst (λ (z : View P X T). In r.shown z.pivot.seen) (same_view s.views id h.0 v h.1 at h.2 e) h.3)))
            (λ no. (h.0, h.1, set_else (set s.views id w) other h.0 spent apart ∙ (set_else s.views id h.0 w no ∙ h.2), h.3)));
      }

  -- the pivot shown is later than what the seat knows
  later : (s : State (Slot P X T) (View P X T)) (r : Rule s) (id : ℕ) (v : View P X T) → At s.views id v → IsLater facts v r.shown
  later s r id v at = let pivots = r.pivots in let looks = r.looks in let tasks = r.tasks in record {
    fine = pivots.is_good;
    grown = (pivots.each id v.pivot (at_map pivot_of s.views id v at)).grown;
    shows = λ f x h. looks.past id v.looked f x (at_map looked_of s.views id v at) h;
    waits = λ t h. tasks.each id t (at_map task_of s.views id v at ∙ ap some h);
    alone = λ all. seen_by_all s.views id v r.shown at r.parts all r.latest;
  }

  pub enters : (slots id : ℕ) (me : Sat P X T) → HasSeen me.0 → Allows Rule slots id me 1 (λ n. either (eqb n 0) 1 n) (entered facts (step slots 1 0 1 none) me)
  enters slots id me saw_one s r deep at _ = let n : ℕ = get_or s.words 1 0 in let tall = r.deep in let wide = r.wide in let p : P = r.shown in let pivots = r.pivots in let locks = r.locks in
      dite (ℕ_discrete n 0)
      (λ hit. let w : View P X T = with_entry p me.0 in let now = get_or-set_same s.words 1 1 0 (omega arith) in let words' : List ℕ = set s.words 1 1 in let homes' : Homes = set s.homes 0 none in
      let rule : Rule record { words = words'; homes = homes'; views = set s.views id w } = record {
        n = r.n;
        shown = p;
        wide = length-set s.words 1 1 ∙ r.wide;
        deep = length-set s.homes 0 none ∙ r.deep;
        locks = subst (Locks (Fit p) r.n words' homes') (sym (map-set lock_of s.views id w ∙ set_again (map lock_of s.views) id me.0.lock (at_map lock_of s.views id me.0 at)))
            (lk.locks_stay (Fit p) r.n s.words words' s.homes homes' (map lock_of s.views) r.locks (get_or-set_other s.words 1 0 1 0 (λ e. omega arith)) (λ b _. get_or-set_other s.words 1 (b + 2) 1 0 (λ e. omega arith)) (λ b. set_else s.homes 0 (b + 1) none (λ e. omega arith)));
        pivots = subst (λ (z : ℕ × List (PivotView P)). Pivots facts p z.0 homes' z.1) (λ i. (sym now i, sym (map-set pivot_of s.views id w) i))
            (pk.enters facts lawful p s.homes (map pivot_of s.views) id me.0.pivot (at_map pivot_of s.views id me.0 at) (subst (λ (z : ℕ). Pivots facts p z s.homes (map pivot_of s.views)) hit pivots) (omega arith));
        looks = looks_same s r 1 1 id me.0 w at (omega arith) refl;
        tasks = tasks_same s r id me.0 w at refl;
        parts = parts_same s r id me.0 w at refl (by_seen me.0 saw_one);
        latest = (id, w, set_at s.views id me.0 w at, inl refl);
      } in (
        w,
        takes 0 (Pivot p),
        pivots.at_home hit,
        subst (λ k. Rule (stepped s 1 (either k 1 n) id me.1 w (takes 0 (Pivot p)))) (sym (eq-eqb n 0 hit)) rule,
        (
          (λ _. (
            p,
            refl,
            later s r id me.0 at,
            λ b x h. let o = locks.owed id me.0.lock b x (at_map lock_of s.views id me.0 at) h in o.3,
          )),
          λ not. absurd (not hit),
        ),
      ))
      (λ miss. (
        me.0,
        keeps,
        tt,
        subst (λ b. Rule (stepped s 1 (either b 1 n) id me.1 me.0 keeps)) (sym (ne_eqb n 0 miss)) (unmoved s r 1 id me.0 at),
        ((λ hit. absurd (miss hit)), λ _. refl),
      ))

  -- the fence words stay where a seat turns p into q, which shows the same
  turned_looks : (s : State (Slot P X T) (View P X T)) (r : Rule s) (id : ℕ) (v w : View P X T) → At s.views id v → w.looked ≡ v.looked → (p q : P) → r.shown ≡ p → (words' : List ℕ) → ((f : ℕ) → f < posts → get_or words' (r.n + 2 + f) 0 ≡ get_or s.words (r.n + 2 + f) 0)
      → ((f : ℕ) → facts.posted q f ≡ facts.posted p f) → Looks (facts.posted q) r.n posts words' (map looked_of (set s.views id w))
  turned_looks s r id v w at e p q shows words' words still = subst (Looks (facts.posted q) r.n posts words') (sym (looked_again s id v w at e))
      (fk.looks_turn r.n posts (map looked_of s.views) (facts.posted p) (facts.posted q) s.words words' words still (subst (λ (z : P). Looks (facts.posted z) r.n posts s.words (map looked_of s.views)) shows r.looks))

  -- the seat that is inside leaves q, and its task changes
  pub leaves : (slots id : ℕ) (me : Sat P X T) (said : Slot P X T) (is_call : Bool) (change : TaskChange T) (q : P) (xs : List (ℕ × X)) (may : MayLeave facts me.0 xs q change)
      → left_as (may.0 ∷ []) (some said) me ≡ (with_exit is_call change may.0 q xs me.0, rest me.1) → me.0.pivot.inside ≡ true → me.1 ≡ (0, Pivot q) ∷ rest me.1 → map number_of me.0.lock.owes ≡ map number_of xs
      → Allows Rule slots id me 1 (λ n. either (eqb n 1) 0 n) (left (step slots 1 1 0 (some said)) me)
  leaves slots id me said is_call change q xs may tells within front keys s r deep at _ = let p = may.0 in let seen = may.1 in let up = may.3 in let n : ℕ = get_or s.words 1 0 in let tall = r.deep in let wide = r.wide in let pivots = r.pivots in let at' = at_map pivot_of s.views id me.0 at in
      let known = (pivots.each id me.0.pivot at').inside within in let shows : r.shown ≡ p = ap (first_or r.shown) (sym known.1 ∙ seen) in
      let w : View P X T = with_exit is_call change p q xs me.0 in let now = get_or-set_same s.words 1 0 0 (omega arith) in let words' : List ℕ = set s.words 1 0 in let homes' : Homes = set s.homes 0 (some (Pivot q)) in
      let rule : Rule record { words = words'; homes = homes'; views = set s.views id w } = record {
        n = r.n;
        shown = q;
        wide = length-set s.words 1 0 ∙ r.wide;
        deep = length-set s.homes 0 (some (Pivot q)) ∙ r.deep;
        locks = subst (Locks (Fit q) r.n words' homes') (sym (map-set lock_of s.views id w))
            (lk.locks_stay (Fit q) r.n s.words words' s.homes homes' (set (map lock_of s.views) id w.lock)
            (lk.leaves (Fit p) r.n s.words s.homes (map lock_of s.views) (subst (λ (z : P). Locks (Fit z) r.n s.words s.homes (map lock_of s.views)) shows r.locks) id me.0.lock (at_map lock_of s.views id me.0 at) (wider s r) r.deep
            (Fit q) xs (key_in xs me.0.lock.owes (sym keys)) (key_in me.0.lock.owes xs keys) may.4 may.5)
            (get_or-set_other s.words 1 0 0 0 (λ e. omega arith)) (λ b _. get_or-set_other s.words 1 (b + 2) 0 0 (λ e. omega arith)) (λ b. set_else s.homes 0 (b + 1) (some (Pivot q)) (λ e. omega arith)));
        pivots = subst (λ (z : ℕ × List (PivotView P)). Pivots facts q z.0 homes' z.1) (λ i. (sym now i, sym (map-set pivot_of s.views id w) i))
            (pk.leaves facts lawful p s.homes (map pivot_of s.views) id me.0.pivot at' (is_call && not me.0.pivot.posted) n q (subst (λ (z : P). Pivots facts z n s.homes (map pivot_of s.views)) shows pivots) within may.2 up (omega arith));
        looks = turned_looks s r id me.0 w at refl p q shows (set s.words 1 0) (λ f _. get_or-set_other s.words 1 (r.n + 2 + f) 0 0 (λ e. omega arith)) may.6;
        tasks = subst (Tasks (facts.busy q)) (sym (map-set task_of s.views id w)) (tk.tasks_turn facts.busy p q (map task_of s.views) id me.0.task change (at_map task_of s.views id me.0 at) may.7 (subst (λ (z : P). Tasks (facts.busy z) (map task_of s.views)) shows r.tasks));
        parts = parts_same s r id me.0 w at refl (by_inside me.0 within);
        latest = (id, w, set_at s.views id me.0 w at, inl refl);
      } in (
        w,
        gives,
        tt,
        subst (λ (c : List (ℕ × Slot P X T)). Rule (stepped s 1 (either (eqb n 1) 0 n) id c w gives)) (sym front) (subst (λ k. Rule record { words = set s.words 1 (either k 0 n); homes = homes'; views = set s.views id w }) (sym (eq-eqb n 1 known.0)) rule),
        sym (subst (λ (z : List P). left_as z (some said) me ≡ (w, rest me.1)) (sym seen) tells),
      )

  -- a joined seat puts its calls in order
  pub settles : (slots id : ℕ) (me : Sat P X T) (q : P) (qs : List P) → me.0.pivot.seen ≡ q ∷ qs → me.0.pivot.inside ≡ false → Allows Rule slots id me 0 (λ n. n) (settled facts.grows (step slots 0 0 0 none) me)
  settles slots id me q qs seen off s r deep at _ = let h = r.latest in let at' = at_map pivot_of s.views id me.0 at in let pivots = r.pivots in let own = pivots.each id me.0.pivot at' in
      let near : (a b : P) → In a (q ∷ qs) → In b (q ∷ qs) → facts.grows a b ⊎ facts.grows b a = λ a b h k. own.order a b (subst (In a) (sym seen) h) (subst (In b) (sym seen) k) in
      let shared = pk.last_seen facts lawful q qs near in let c = pk.chained facts lawful me.0.pivot.mine own.calls own.ordered in
      let pick : (p : P) × In p me.0.pivot.seen × ((a : P) → In a me.0.pivot.seen → facts.grows a p) × (h.0 ≡ id → r.shown ≡ p) = dite (ℕ_discrete h.0 id)
      (λ e. (r.shown, subst (λ (z : View P X T). In r.shown z.pivot.seen) (same_view s.views id h.0 me.0 h.1 at h.2 e) h.3, own.grown, λ _. refl))
      (λ ne. (shared.0, subst (In shared.0) (sym seen) shared.1, (λ a k. shared.2 a (subst (In a) seen k)), λ e. absurd (ne e))) in
      let w : View P X T = record me.0 { pivot = record me.0.pivot { seen = pick.0 ∷ []; mine = c.0 } } in (
        w,
        keeps,
        tt,
        subst (λ (ws : List ℕ). Rule record { words = ws; homes = s.homes; views = set s.views id w }) (sym (set-get_or s.words 0 0)) record {
          n = r.n;
          shown = r.shown;
          wide = r.wide;
          deep = r.deep;
          locks = subst (Locks (Fit r.shown) r.n s.words s.homes) (sym (map-set lock_of s.views id w ∙ set_again (map lock_of s.views) id me.0.lock (at_map lock_of s.views id me.0 at))) r.locks;
          pivots = subst (Pivots facts r.shown (get_or s.words 1 0) s.homes) (sym (map-set pivot_of s.views id w))
              (pk.settles facts lawful r.shown (get_or s.words 1 0) s.homes (map pivot_of s.views) id me.0.pivot at' off pivots pick.0 c.0 pick.1 pick.2 c.1 c.2);
          looks = subst (Looks (facts.posted r.shown) r.n posts s.words) (sym (looked_again s id me.0 w at refl)) r.looks;
          tasks = tasks_same s r id me.0 w at refl;
          parts = parts_same s r id me.0 w at refl (by_seen me.0 (q, qs, seen));
          latest = dite (ℕ_discrete h.0 id) (λ e. (id, w, set_at s.views id me.0 w at, inl (pick.3 e))) (λ ne. (h.0, h.1, set_else s.views id h.0 w ne ∙ h.2, h.3));
        },
        (pick.0, c.0, refl, c.1, c.2, pick.1, pick.2, λ d k. let l = own.lefts d (in_permutation d c.0 me.0.pivot.mine (IsPermutation-sym me.0.pivot.mine c.0 c.2) k) in lawful.transitive _ _ _ l.2 (pick.2 l.0 l.1)),
      )

  -- the seat that is inside reads the word of a fence
  pub reads_back : (slots id : ℕ) (me : Sat P X T) (f : ℕ) → me.0.pivot.inside ≡ true → f < posts
      → Allows Rule slots id me (slots + 1 + f) (λ n. n) (read_back facts.posted (step slots (slots + 1 + f) 0 0 none) me)
  reads_back slots id me f within low s r deep at _ = let tall = r.deep in let n₀ : r.n + 1 ≡ slots = omega arith in let pivots = r.pivots in let looks = r.looks in (
    me.0,
    keeps,
    tt,
    unmoved s r (slots + 1 + f) id me.0 at,
    (
      refl,
      λ g p e within' seen.
          let known = (pivots.each id me.0.pivot (at_map pivot_of s.views id me.0 at)).inside within in let shows : r.shown ≡ p = ap (first_or r.shown) (sym known.1 ∙ seen) in let g_is : f ≡ g = omega arith in
          let place : slots + 1 + f ≡ r.n + 2 + f = omega arith in
          ap (λ (k : ℕ). get_or s.words k 0) place ∙ (looks.at f low ∙ (ap (λ (z : P). facts.posted z f) shows ∙ ap (facts.posted p) g_is)),
    ),
  )

  -- a seat looks at the word of a fence
  pub looks_on : (slots id : ℕ) (me : Sat P X T) (f : ℕ) → f < posts → Allows Rule slots id me (slots + 1 + f) (λ n. n) (looks_at facts (step slots (slots + 1 + f) 0 0 none) me)
  looks_on slots id me f low s r deep at _ = let tall = r.deep in let pivots = r.pivots in let looks = r.looks in let own = pivots.each id me.0.pivot (at_map pivot_of s.views id me.0 at) in
      let place : slots + 1 + f ≡ r.n + 2 + f = omega arith in let x : ℕ = get_or s.words (slots + 1 + f) 0 in let w : View P X T = with_look f x me.0 in let at' = at_map looked_of s.views id me.0 at in
      let is : x ≡ facts.posted r.shown f = ap (λ (k : ℕ). get_or s.words k 0) place ∙ looks.at f low in (
        w,
        keeps,
        tt,
        subst (λ (ws : List ℕ). Rule record { words = ws; homes = s.homes; views = set s.views id w }) (sym (set-get_or s.words (slots + 1 + f) 0)) record {
          n = r.n;
          shown = r.shown;
          wide = r.wide;
          deep = r.deep;
          locks = subst (Locks (Fit r.shown) r.n s.words s.homes) (sym (map-set lock_of s.views id w ∙ set_again (map lock_of s.views) id me.0.lock (at_map lock_of s.views id me.0 at))) r.locks;
          pivots = subst (Pivots facts r.shown (get_or s.words 1 0) s.homes) (sym (map-set pivot_of s.views id w ∙ set_again (map pivot_of s.views) id me.0.pivot (at_map pivot_of s.views id me.0 at))) r.pivots;
          looks = subst (Looks (facts.posted r.shown) r.n posts s.words) (sym (map-set looked_of s.views id w ∙ ap (λ (k : ℕ). set (map looked_of s.views) id (me.0.looked ++ (f, get_or s.words k 0) ∷ [])) place))
              (fk.looks_more r.n posts (map looked_of s.views) (facts.posted r.shown) s.words looks id me.0.looked at' f low);
          tasks = tasks_same s r id me.0 w at refl;
          parts = parts_stay s.views id me.0 w at refl (λ none. ap (with_look f x) (r.parts.blank id me.0 at none)) r.parts;
          latest = latest_same s r id me.0 w at refl;
        },
        λ g e. let g_is : f ≡ g = omega arith in (
          ap (λ (k : ℕ). (with_look k x me.0, me.1)) g_is,
          (r.shown, later s r id me.0 at, is ∙ ap (facts.posted r.shown) g_is),
        ),
      )

  -- the seat that is inside shows q by the word of a fence
  pub posts_one : (slots id : ℕ) (me : Sat P X T) (said : Slot P X T) (q : P) (xs : List (ℕ × X)) (f old new : ℕ) (may : MayPost facts me.0 xs q f new) → posted_as (may.0 ∷ []) (some said) me ≡ (with_post may.0 q xs me.0, me.1)
      → me.0.pivot.inside ≡ true → map number_of me.0.lock.owes ≡ map number_of xs → f < posts → old ≡ facts.posted may.0 f
      → Allows Rule slots id me (slots + 1 + f) (λ n. either (eqb n old) new n) (posts_word (step slots (slots + 1 + f) old new (some said)) me)
  posts_one slots id me said q xs f old new may tells within keys low was s r deep at _ = let p = may.0 in let seen = may.1 in let up = may.3 in let now = may.6 in let tall = r.deep in let pivots = r.pivots in let looks = r.looks in let at' = at_map pivot_of s.views id me.0 at in
      let known = (pivots.each id me.0.pivot at').inside within in let shows : r.shown ≡ p = ap (first_or r.shown) (sym known.1 ∙ seen) in
      let place : slots + 1 + f ≡ r.n + 2 + f = omega arith in let n : ℕ = get_or s.words (slots + 1 + f) 0 in
      let hit : n ≡ old = ap (λ (k : ℕ). get_or s.words k 0) place ∙ (looks.at f low ∙ (ap (λ (z : P). facts.posted z f) shows ∙ sym was)) in
      let w : View P X T = with_post p q xs me.0 in let words' : List ℕ = set s.words (r.n + 2 + f) (facts.posted q f) in
      let rule : Rule record { words = words'; homes = s.homes; views = set s.views id w } = record {
        n = r.n;
        shown = q;
        wide = length-set s.words (r.n + 2 + f) (facts.posted q f) ∙ r.wide;
        deep = r.deep;
        locks = subst (Locks (Fit q) r.n words' s.homes) (sym (map-set lock_of s.views id w))
            (lk.locks_stay (Fit q) r.n s.words words' s.homes s.homes (set (map lock_of s.views) id w.lock)
            (lk.leaves (Fit p) r.n s.words s.homes (map lock_of s.views) (subst (λ (z : P). Locks (Fit z) r.n s.words s.homes (map lock_of s.views)) shows r.locks) id me.0.lock (at_map lock_of s.views id me.0 at) (wider s r) r.deep
            (Fit q) xs (key_in xs me.0.lock.owes (sym keys)) (key_in me.0.lock.owes xs keys) may.4 may.5)
            (get_or-set_other s.words (r.n + 2 + f) 0 (facts.posted q f) 0 (λ e. omega arith)) (λ b l. get_or-set_other s.words (r.n + 2 + f) (b + 2) (facts.posted q f) 0 (λ e. omega arith)) (λ b. refl));
        pivots = subst (λ (z : ℕ × List (PivotView P)). Pivots facts q z.0 s.homes z.1) (λ i. (sym (get_or-set_other s.words (r.n + 2 + f) 1 (facts.posted q f) 0 (λ e. omega arith)) i, sym (map-set pivot_of s.views id w) i))
            (pk.posts facts lawful p s.homes (map pivot_of s.views) id me.0.pivot at' (get_or s.words 1 0) q (subst (λ (z : P). Pivots facts z (get_or s.words 1 0) s.homes (map pivot_of s.views)) shows pivots) within may.2 up);
        looks = subst (Looks (facts.posted q) r.n posts words') (sym (looked_again s id me.0 w at refl))
            (fk.looks_post r.n posts (map looked_of s.views) (facts.posted p) (facts.posted q) s.words f low (let y = r.wide in omega arith) may.7 (lawful.onward p q up) (subst (λ (z : P). Looks (facts.posted z) r.n posts s.words (map looked_of s.views)) shows looks));
        tasks = subst (Tasks (facts.busy q)) (sym (map-set task_of s.views id w)) (tk.tasks_turn facts.busy p q (map task_of s.views) id me.0.task Same (at_map task_of s.views id me.0 at) may.8 (subst (λ (z : P). Tasks (facts.busy z) (map task_of s.views)) shows r.tasks));
        parts = parts_same s r id me.0 w at refl (by_inside me.0 within);
        latest = (id, w, set_at s.views id me.0 w at, inl refl);
      } in (
        w,
        keeps,
        tt,
        subst (λ k. Rule record { words = set s.words (slots + 1 + f) (either k new n); homes = s.homes; views = set s.views id w }) (sym (eq-eqb n old hit))
            (subst (λ (z : ℕ × ℕ). Rule record { words = set s.words z.0 z.1; homes = s.homes; views = set s.views id w }) (λ i. (sym place i, sym now i)) rule),
        sym (subst (λ (z : List P). posted_as z (some said) me ≡ (w, me.1)) (sym seen) tells),
      )
