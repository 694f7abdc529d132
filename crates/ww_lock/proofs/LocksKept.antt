-- A step of one seat keeps the values' part of the rule.
use Rattle.std.proofs.Common.{◌≡◌, ◌≢◌, ℕ, ◌+◌, ◌^◌, ◌<◌, ◌≤◌, List, [], ◌∷◌, ◌++◌, length, get_or, set, sym, refl, ap, ◌∙◌, subst, ⊎_elim, inl, inr, ◌⊎◌, Bool, true, false, arith, get_or-set_other, get_or-set_same}
use Rattle.std.specs.Prelude.{◌||◌}
use Rattle.std.proofs.lemmas.Bool.{false≢true}
use mathlib.Core.Logic.{dite}
use mathlib.Core.Option.{Option, none, some}
use native.Mathlib.Decide.{ℕ_discrete}
use lib.ListN.{get_elem?}
use Rattle.atomic_table.proofs.Lists.{set_here, set_else, at_snoc, at_longer}
use Rattle.ww_lock.specs.declared.board.LockView.{LockView}
use Rattle.ww_lock.specs.declared.board.Slot.{Slot}
use Rattle.ww_lock.specs.declared.board.Slot.TheVariants.{Value}
use Rattle.ww_lock.specs.Rule.{In, At, Held, Met, Drew, KnowsBelow, Owed, Locks, idle}
use Rattle.ww_lock.specs.Steps.{without}
use Rattle.ww_lock.proofs.Lists.{set_at, in_left, in_right, in_both, in_last, now_last, seats, same_view, in_without, without_in}

one_of : (a b : Bool) → (a || b) ≡ true → (a ≡ true) ⊎ (b ≡ true)
one_of true b e = inl refl
one_of false b e = inr e

module _ {X : Type 0} where
  knows_up : (v : LockView X) (n k : ℕ) → n ≤ k → KnowsBelow v n → KnowsBelow v k
  knows_up v n k up p = ((λ t h. let l = p.0 t h in omega arith), (λ b t h. let l = p.1 b t h in omega arith), (λ b t h. let l = p.2 b t h in omega arith))

  knows_both : (v u w : LockView X) (n : ℕ) → w.drew ≡ v.drew ++ u.drew → w.had ≡ v.had ++ u.had → w.met ≡ v.met ++ u.met → KnowsBelow v n → KnowsBelow u n → KnowsBelow w n
  knows_both v u w n d h m p q = (
    (λ t i. ⊎_elim (p.0 t) (q.0 t) (in_both t v.drew u.drew (subst (In t) d i))),
    (λ b t i. ⊎_elim (p.1 b t) (q.1 b t) (in_both (b, t) v.had u.had (subst (In (b, t)) h i))),
    (λ b t i. ⊎_elim (p.2 b t) (q.2 b t) (in_both (b, t) v.met u.met (subst (In (b, t)) m i))),
  )

  pub drew_stays : (vs : List (LockView X)) (id : ℕ) (v w : LockView X) → At vs id v → ((t : ℕ) → In t v.drew → Drew (set vs id w) t) → (t : ℕ) → Drew vs t → Drew (set vs id w) t
  drew_stays vs id v w at more t (k, u, there, has) = dite (ℕ_discrete k id)
      (λ e. more t (subst (λ (z : LockView X). In t z.drew) (same_view vs id k v u at there e) has))
      (λ ne. (k, u, set_else vs id k w ne ∙ there, has))

  pub met_stays : (vs : List (LockView X)) (id : ℕ) (v w : LockView X) → At vs id v → ((b h : ℕ) → In (b, h) v.had → Met (set vs id w) b h)
      → (b h : ℕ) → Met vs b h → Met (set vs id w) b h
  met_stays vs id v w at more b h (k, u, there, has) = dite (ℕ_discrete k id)
      (λ e. more b h (subst (λ (z : LockView X). In (b, h) z.had) (same_view vs id k v u at there e) has))
      (λ ne. (k, u, set_else vs id k w ne ∙ there, has))

  pub held_stays : (vs : List (LockView X)) (id : ℕ) (v w : LockView X) → At vs id v → (b t : ℕ) → ((x : X) → v.ticket ≡ t → In (b, x) v.owes → (w.ticket ≡ t) × ((y : X) × In (b, y) w.owes))
      → Held vs b t → Held (set vs id w) b t
  held_stays vs id v w at b t more (k, u, x, there, is, has) = dite (ℕ_discrete k id)
      (λ e. let same = same_view vs id k v u at there e in let m = more x (ap (λ z. z.ticket) (sym same) ∙ is) (subst (λ (z : LockView X). In (b, x) z.owes) same has) in
      (id, w, m.1.0, set_at vs id v w at, m.0, m.1.1))
      (λ ne. (k, u, x, set_else vs id k w ne ∙ there, is, has))

module _ {P X T : Type 0} where
  -- to keep the rule of the values, a step of the seat id owes these facts
  pub record Moves (fit fit' : ℕ → X → Type 0) (n : ℕ) (words words' : List ℕ) (homes homes' : List (Option (Slot P X T))) (views : List (LockView X)) (id : ℕ) (v w : LockView X) : Type 0 where
    pub counter : (0 < get_or words' 0 0) × (get_or words' 0 0 ≤ 2 ^ 63)
    pub up : get_or words 0 0 ≤ get_or words' 0 0
    pub ticket : w.ticket < get_or words' 0 0
    pub apart : (k : ℕ) (u : LockView X) → k ≢ id → At views k u → 0 < u.ticket → w.ticket ≢ u.ticket
    pub home : (b : ℕ) → b < n → get_or words' (b + 2) 0 ≡ 0 → (x : X) × (get_elem? homes' (b + 1) ≡ some (some (Value x))) × fit' b x
    pub out : (b : ℕ) → b < n → get_or words' (b + 2) 0 ≢ 0 → (get_elem? homes' (b + 1) ≡ some none) × Held (set views id w) b (get_or words' (b + 2) 0)
    pub owed : (b : ℕ) (x : X) → In (b, x) w.owes → Owed fit' words' n w b x
    pub others : (j : ℕ) (u : LockView X) (b : ℕ) (x : X) → j ≢ id → At views j u → In (b, x) u.owes → (get_or words' (b + 2) 0 ≡ get_or words (b + 2) 0) × (fit b x → fit' b x)
    pub met : (b h : ℕ) → In (b, h) w.met → Met views b h
    pub had : (b h : ℕ) → In (b, h) v.had → Met (set views id w) b h
    pub known : KnowsBelow w (get_or words' 0 0)
    pub drew : (t : ℕ) → In t v.drew → Drew (set views id w) t
    pub drawn : (t : ℕ) → t < get_or words' 0 0 → (t < get_or words 0 0) ⊎ Drew (set views id w) t
    pub ended : w.ended ≡ true → get_or words' 0 0 ≡ 2 ^ 63

  -- a step that meets what it owes keeps the rule of the values
  pub moved : (fit fit' : ℕ → X → Type 0) (n : ℕ) (words words' : List ℕ) (homes homes' : List (Option (Slot P X T))) (views : List (LockView X)) (id : ℕ) (v w : LockView X) → Locks fit n words homes views
      → At views id v → Moves fit fit' n words words' homes homes' views id v w → Locks fit' n words' homes' (set views id w)
  moved fit fit' n words words' homes homes' views id v w r at m = let up = m.up in let stay = met_stays views id v w at m.had in record {
    counter = m.counter;
    tickets = seats (λ _ d. d.ticket < get_or words' 0 0) views id w m.ticket (λ j d _ a. let t = r.tickets j d a in omega arith);
    apart = λ j k a b p q. seats (λ j a. (k : ℕ) (b : LockView X) → At (set views id w) k b → 0 < a.ticket → a.ticket ≡ b.ticket → j ≡ k) views id w
        (λ k b q. seats (λ k b. 0 < w.ticket → w.ticket ≡ b.ticket → id ≡ k) views id w (λ _ _. refl) (λ k b ne q real same. absurd (m.apart k b ne q (omega arith) same)) k b q)
        (λ j a ne p k b q. seats (λ k b. 0 < a.ticket → a.ticket ≡ b.ticket → j ≡ k) views id w (λ real same. absurd (m.apart j a ne p real (sym same))) (λ k b _ q. r.apart j k a b p q) k b q) j a p k b q;
    drawn = λ t pos low. ⊎_elim (λ old. drew_stays views id v w at m.drew t (r.drawn t pos old)) (λ new. new) (m.drawn t low);
    known = seats (λ _ d. KnowsBelow d (get_or words' 0 0)) views id w m.known (λ j d _ a. knows_up d (get_or words 0 0) (get_or words' 0 0) up (r.known j d a));
    ended = seats (λ _ d. d.ended ≡ true → get_or words' 0 0 ≡ 2 ^ 63) views id w m.ended (λ j d _ a e. let o = r.ended j d a e in let c = m.counter.1 in omega arith);
    home = m.home;
    out = m.out;
    owed = λ j d b x p. seats (λ _ d. In (b, x) d.owes → Owed fit' words' n d b x) views id w (m.owed b x)
        (λ j d ne a has. let o = r.owed j d b x a has in let t = m.others j d b x ne a has in (o.0, t.0 ∙ o.1, o.2, t.1 o.3, o.4)) j d p;
    met = λ j d b h p. seats (λ _ d. In (b, h) d.met → Met (set views id w) b h) views id w (λ has. stay b h (m.met b h has)) (λ j d _ a has. stay b h (r.met j d b h a has)) j d p;
  }

  -- the rule of the values reads word 0, the words from 2 on and the slots from 1 on alone
  pub locks_stay : (fit : ℕ → X → Type 0) (n : ℕ) (words words' : List ℕ) (homes homes' : List (Option (Slot P X T))) (views : List (LockView X)) → Locks fit n words homes views
      → get_or words' 0 0 ≡ get_or words 0 0 → ((b : ℕ) → b < n → get_or words' (b + 2) 0 ≡ get_or words (b + 2) 0) → ((b : ℕ) → get_elem? homes' (b + 1) ≡ get_elem? homes (b + 1))
      → Locks fit n words' homes' views
  locks_stay fit n words words' homes homes' views r zero else slots = record {
    counter = let c = r.counter in let c₀ = c.0 in let c₁ = c.1 in (omega arith, omega arith);
    tickets = λ j v a. let t = r.tickets j v a in omega arith;
    apart = r.apart;
    drawn = λ t pos low. r.drawn t pos (omega arith);
    known = λ j v a. knows_up v (get_or words 0 0) (get_or words' 0 0) (omega arith) (r.known j v a);
    ended = λ j v a e. zero ∙ r.ended j v a e;
    home = λ b l z. let h = r.home b l (sym (else b l) ∙ z) in (h.0, slots b ∙ h.1, h.2);
    out = λ b l nz. let o = r.out b l (λ z. nz (else b l ∙ z)) in (slots b ∙ o.0, subst (Held views b) (sym (else b l)) o.1);
    owed = λ j v b x a has. let o = r.owed j v b x a has in (o.0, else b o.0 ∙ o.1, o.2, o.3, o.4);
    met = r.met;
  }

  -- a new seat that holds nothing
  pub seated : (fit : ℕ → X → Type 0) (n : ℕ) (words : List ℕ) (homes : List (Option (Slot P X T))) (views : List (LockView X)) → Locks fit n words homes views → Locks fit n words homes (views ++ idle ∷ [])
  seated fit n words homes views r = let wide : (b h : ℕ) → Met views b h → Met (views ++ idle ∷ []) b h = λ b h m. (m.0, m.1, at_longer views (idle ∷ []) m.0 m.1 m.2, m.3) in
      let low = r.counter in let low₀ = low.0 in
      let fresh : (v : LockView X) → 0 < v.ticket → idle ≡ v → ⊥ = λ v real e. let z : 0 ≡ v.ticket = ap (λ u. u.ticket) e in omega arith in record {
        counter = r.counter;
        tickets = λ j v a. ⊎_elim (r.tickets j v) (λ t. subst (λ (z : LockView X). z.ticket < get_or words 0 0) t (omega arith)) (at_snoc views idle v j a);
        apart = λ j k v w a c real same. ⊎_elim (λ a'. ⊎_elim (λ c'. r.apart j k v w a' c' real same) (λ t. absurd (fresh w (omega arith) t)) (at_snoc views idle w k c)) (λ t. absurd (fresh v real t)) (at_snoc views idle v j a);
        drawn = λ t pos l. let d = r.drawn t pos l in (d.0, d.1, at_longer views (idle ∷ []) d.0 d.1 d.2, d.3);
        known = λ j v a. ⊎_elim (r.known j v) (λ t. subst (λ (z : LockView X). KnowsBelow z (get_or words 0 0)) t ((λ _ h. absurd h), (λ _ _ h. absurd h), (λ _ _ h. absurd h))) (at_snoc views idle v j a);
        ended = λ j v a e. ⊎_elim (λ a'. r.ended j v a' e) (λ t. absurd (false≢true (subst (λ (z : LockView X). z.ended ≡ true) (sym t) e))) (at_snoc views idle v j a);
        home = r.home;
        out = λ b l nz. let o = r.out b l nz in let h = o.1 in (o.0, (h.0, h.1, h.2, at_longer views (idle ∷ []) h.0 h.1 h.3, h.4, h.5));
        owed = λ j v b x a has. ⊎_elim (λ a'. r.owed j v b x a' has) (λ t. absurd (subst (λ (z : LockView X). In (b, x) z.owes) (sym t) has)) (at_snoc views idle v j a);
        met = λ j v b h a has. ⊎_elim (λ a'. wide b h (r.met j v b h a' has)) (λ t. absurd (subst (λ (z : LockView X). In (b, h) z.met) (sym t) has)) (at_snoc views idle v j a);
      }

  module _ (fit : ℕ → X → Type 0) (n : ℕ) (words : List ℕ) (homes : List (Option (Slot P X T))) (views : List (LockView X)) (r : Locks fit n words homes views) (id : ℕ) (v : LockView X) (at : At views id v) (wide : n + 2 ≤ length words) (deep : length homes ≡ n + 1) where
    -- the seat draws the next ticket
    pub draws : (old : ℕ) → old < 2 ^ 63 → get_or words 0 0 ≡ old → v.owes ≡ [] → Locks fit n (set words 0 (old + 1)) homes (set views id (record v { ticket = old; drew = v.drew ++ old ∷ [] }))
    draws old small hit bare = let w : LockView X = record v { ticket = old; drew = v.drew ++ old ∷ [] } in let words' : List ℕ = set words 0 (old + 1) in
        let now : get_or words' 0 0 ≡ old + 1 = get_or-set_same words 0 (old + 1) 0 (omega arith) in let low = r.counter in let low₀ = low.0 in
        let same : (b : ℕ) → get_or words' (b + 2) 0 ≡ get_or words (b + 2) 0 = λ b. get_or-set_other words 0 (b + 2) (old + 1) 0 (λ e. omega arith) in
        let bare' : (b : ℕ) (x : X) → In (b, x) v.owes → ⊥ = λ b x has. subst (In (b, x)) bare has in
        moved fit fit n words words' homes homes views id v w r at record {
          counter = (omega arith, omega arith);
          up = omega arith;
          ticket = omega arith;
          apart = λ k u ne a real e. let t = r.tickets k u a in omega arith;
          home = λ b h z. r.home b h (sym (same b) ∙ z);
          out = λ b h nz. let o = r.out b h (λ z. nz (same b ∙ z)) in (o.0, subst (Held (set views id w) b) (sym (same b)) (held_stays views id v w at b _ (λ x _ has. absurd (bare' b x has)) o.1));
          owed = λ b x has. absurd (bare' b x has);
          others = λ _ _ b _ _ _ _. (same b, λ f. f);
          met = λ b h has. r.met id v b h at has;
          had = λ b h has. (id, w, set_at views id v w at, has);
          known = let k = r.known id v at in (
            (λ t h. ⊎_elim (λ past. let l = k.0 t past in omega arith) (λ new. omega arith) (in_last t old v.drew h)),
            (λ b t h. let l = k.1 b t h in omega arith),
            (λ b t h. let l = k.2 b t h in omega arith),
          );
          drew = λ t h. (id, w, set_at views id v w at, in_left t v.drew (old ∷ []) h);
          drawn = λ t l. dite (ℕ_discrete t old) (λ e. inr (subst (Drew (set views id w)) (sym e) (id, w, set_at views id v w at, now_last old v.drew))) (λ ne. inl (omega arith));
          ended = λ e. let o = r.ended id v at e in absurd (omega arith);
        }

    -- the seat takes a value that is at home
    pub claims : (b t : ℕ) (x : X) → b < n → v.ticket ≡ t → 0 < t → get_or words (b + 2) 0 ≡ 0 → fit b x
        → Locks fit n (set words (b + 2) t) (set homes (b + 1) none) (set views id (record v { owes = v.owes ++ (b, x) ∷ []; had = v.had ++ (b, v.ticket) ∷ [] }))
    claims b t x inside mine pos hit good = let w : LockView X = record v { owes = v.owes ++ (b, x) ∷ []; had = v.had ++ (b, v.ticket) ∷ [] } in
        let words' : List ℕ = set words (b + 2) t in let homes' = set homes (b + 1) none in let low = r.counter in let low₀ = low.0 in let own = r.tickets id v at in
        let now : get_or words' (b + 2) 0 ≡ t = get_or-set_same words (b + 2) t 0 (omega arith) in
        let else : (c : ℕ) → c ≢ b → get_or words' (c + 2) 0 ≡ get_or words (c + 2) 0 = λ c ne. get_or-set_other words (b + 2) (c + 2) t 0 (λ e. ne (omega arith)) in
        let zero : get_or words' 0 0 ≡ get_or words 0 0 = get_or-set_other words (b + 2) 0 t 0 (λ e. omega arith) in
        let apart : (j : ℕ) (u : LockView X) (c : ℕ) (y : X) → At views j u → In (c, y) u.owes → c ≢ b = λ j u c y a has e. let o = r.owed j u c y a has in let o₁ = o.1 in let o₂ = o.2 in
        let z : get_or words (c + 2) 0 ≡ 0 = ap (λ (k : ℕ). get_or words (k + 2) 0) e ∙ hit in omega arith in
        moved fit fit n words words' homes homes' views id v w r at record {
          counter = (omega arith, let l = low.1 in omega arith);
          up = omega arith;
          ticket = omega arith;
          apart = λ k u ne a q e. ne (r.apart k id u v a at q (sym e));
          home = λ c l z. dite (ℕ_discrete c b) (λ e. let is : get_or words' (c + 2) 0 ≡ t = ap (λ (k : ℕ). get_or words' (k + 2) 0) e ∙ now in absurd (omega arith))
              (λ ne. let g = r.home c l (sym (else c ne) ∙ z) in (g.0, set_else homes (b + 1) (c + 1) none (λ e. ne (omega arith)) ∙ g.1, g.2));
          out = λ c l nz. dite (ℕ_discrete c b)
              (λ e. subst (λ (k : ℕ). (get_elem? homes' (k + 1) ≡ some none) × Held (set views id w) k (get_or words' (k + 2) 0)) (sym e)
              (set_here homes (b + 1) none (omega arith), (id, w, x, set_at views id v w at, mine ∙ sym now, now_last (b, x) v.owes)))
              (λ ne. let o = r.out c l (λ z. nz (else c ne ∙ z)) in (
                set_else homes (b + 1) (c + 1) none (λ e. ne (omega arith)) ∙ o.0,
                subst (Held (set views id w) c) (sym (else c ne)) (held_stays views id v w at c _ (λ y q has. (q, (y, in_left (c, y) v.owes ((b, x) ∷ []) has))) o.1),
              ));
          owed = λ c y has. ⊎_elim
              (λ old. let o = r.owed id v c y at old in (o.0, else c (apart id v c y at old) ∙ o.1, o.2, o.3, in_left (c, v.ticket) v.had ((b, v.ticket) ∷ []) o.4))
              (λ new. subst (λ (z : ℕ × X). Owed fit words' n w z.0 z.1) (sym new) (inside, now ∙ sym mine, omega arith, good, now_last (b, v.ticket) v.had))
              (in_last (c, y) (b, x) v.owes has);
          others = λ j u c y _ a has. (else c (apart j u c y a has), λ f. f);
          met = λ c k has. r.met id v c k at has;
          had = λ c k has. (id, w, set_at views id v w at, in_left (c, k) v.had ((b, v.ticket) ∷ []) has);
          known = let k = r.known id v at in (
            (λ c h. let l = k.0 c h in omega arith),
            (λ c h g. ⊎_elim (λ past. let l = k.1 c h past in omega arith) (λ new. let e : h ≡ v.ticket = ap (λ (z : ℕ × ℕ). z.1) new in omega arith) (in_last (c, h) (b, v.ticket) v.had g)),
            (λ c h g. let l = k.2 c h g in omega arith),
          );
          drew = λ c h. (id, w, set_at views id v w at, h);
          drawn = λ c l. inl (omega arith);
          ended = λ e. zero ∙ r.ended id v at e;
        }

    -- a try that fails finds the ticket of another seat
    pub fails : (b : ℕ) → b < n → get_or words (b + 2) 0 ≢ 0 → ((x : X) → In (b, x) v.owes → ⊥)
        → (get_or words (b + 2) 0 ≢ v.ticket) × Locks fit n words homes (set views id (record v { met = v.met ++ (b, get_or words (b + 2) 0) ∷ [] }))
    fails b inside miss free = let x₀ : ℕ = get_or words (b + 2) 0 in let w : LockView X = record v { met = v.met ++ (b, x₀) ∷ [] } in let o = r.out b inside miss in
        let k = o.1.0 in let u = o.1.1 in let y = o.1.2 in let there = o.1.3 in let is = o.1.4 in let has = o.1.5 in let due = r.owed k u b y there has in (
          (λ e. let same = r.apart k id u v there at (omega arith) (is ∙ e) in free y (subst (λ (z : LockView X). In (b, y) z.owes) (same_view views id k v u at there same) has)),
          moved fit fit n words words homes homes views id v w r at record {
            counter = r.counter;
            up = omega arith;
            ticket = r.tickets id v at;
            apart = λ k u ne a q e. ne (r.apart k id u v a at q (sym e));
            home = r.home;
            out = λ c l nz. let g = r.out c l nz in (g.0, held_stays views id v w at c _ (λ y q z. (q, (y, z))) g.1);
            owed = λ c y z. r.owed id v c y at z;
            others = λ _ _ _ _ _ _ _. (refl, λ f. f);
            met = λ c h z. ⊎_elim (λ old. r.met id v c h at old) (λ new. (k, u, there, subst (λ (z : ℕ × ℕ). In z u.had) (sym (new ∙ ap (λ (z : ℕ). (b, z)) (sym is))) due.4)) (in_last (c, h) (b, x₀) v.met z);
            had = λ c h z. (id, w, set_at views id v w at, z);
            known = let known = r.known id v at in let low = r.tickets k u there in (
              known.0,
              known.1,
              (λ c h z. ⊎_elim (λ past. known.2 c h past) (λ new. let e : h ≡ x₀ = ap (λ (z : ℕ × ℕ). z.1) new in omega arith) (in_last (c, h) (b, x₀) v.met z)),
            );
            drew = λ t h. (id, w, set_at views id v w at, h);
            drawn = λ t l. inl l;
            ended = λ e. r.ended id v at e;
          },
        )

    -- the seat gives a value back
    pub releases : (b : ℕ) (x y : X) → In (b, x) v.owes → fit b y → Locks fit n (set words (b + 2) 0) (set homes (b + 1) (some (Value y))) (set views id (record v { owes = without b v.owes }))
    releases b x y has good = let w : LockView X = record v { owes = without b v.owes } in let words' : List ℕ = set words (b + 2) 0 in let homes' = set homes (b + 1) (some (Value y)) in
        let due = r.owed id v b x at has in let inside = due.0 in let due₁ = due.1 in let due₂ = due.2 in let low = r.counter in let low₀ = low.0 in let low₁ = low.1 in let own = r.tickets id v at in
        let now : get_or words' (b + 2) 0 ≡ 0 = get_or-set_same words (b + 2) 0 0 (omega arith) in
        let else : (c : ℕ) → c ≢ b → get_or words' (c + 2) 0 ≡ get_or words (c + 2) 0 = λ c ne. get_or-set_other words (b + 2) (c + 2) 0 0 (λ e. ne (omega arith)) in
        let zero : get_or words' 0 0 ≡ get_or words 0 0 = get_or-set_other words (b + 2) 0 0 0 (λ e. omega arith) in
        moved fit fit n words words' homes homes' views id v w r at record {
          counter = (omega arith, omega arith);
          up = omega arith;
          ticket = omega arith;
          apart = λ k u ne a q e. ne (r.apart k id u v a at q (sym e));
          home = λ c l z. dite (ℕ_discrete c b) (λ e. subst (λ (k : ℕ). (z : X) × (get_elem? homes' (k + 1) ≡ some (some (Value z))) × fit k z) (sym e) (y, set_here homes (b + 1) (some (Value y)) (omega arith), good))
              (λ ne. let g = r.home c l (sym (else c ne) ∙ z) in (g.0, set_else homes (b + 1) (c + 1) (some (Value y)) (λ e. ne (omega arith)) ∙ g.1, g.2));
          out = λ c l nz. dite (ℕ_discrete c b) (λ e. absurd (nz (ap (λ (k : ℕ). get_or words' (k + 2) 0) e ∙ now)))
              (λ ne. let o = r.out c l (λ z. nz (else c ne ∙ z)) in (
                set_else homes (b + 1) (c + 1) (some (Value y)) (λ e. ne (omega arith)) ∙ o.0,
                subst (Held (set views id w) c) (sym (else c ne)) (held_stays views id v w at c _ (λ z q h. (q, (z, without_in b (c, z) v.owes h ne))) o.1),
              ));
          owed = λ c z h. let t = in_without b (c, z) v.owes h in let o = r.owed id v c z at t.0 in (o.0, else c t.1 ∙ o.1, o.2, o.3, o.4);
          others = λ j u c z ne a h. (
            else c (λ e. let o = r.owed j u c z a h in let o₁ = o.1 in let o₂ = o.2 in let same : get_or words (c + 2) 0 ≡ get_or words (b + 2) 0 = ap (λ (k : ℕ). get_or words (k + 2) 0) e in
                ne (r.apart j id u v a at o.2 (omega arith))),
            λ f. f,
          );
          met = λ c k h. r.met id v c k at h;
          had = λ c k h. (id, w, set_at views id v w at, h);
          known = knows_up v (get_or words 0 0) (get_or words' 0 0) (omega arith) (r.known id v at);
          drew = λ t h. (id, w, set_at views id v w at, h);
          drawn = λ t l. inl (omega arith);
          ended = λ e. zero ∙ r.ended id v at e;
        }

    -- the seat takes in what another had and met, which holds nothing
    pub joins : (other : ℕ) (u : LockView X) → At views other u → other ≢ id → u.owes ≡ []
        → Locks fit n words homes (set (set views id (record v { had = v.had ++ u.had; met = v.met ++ u.met; drew = v.drew ++ u.drew; ended = v.ended || u.ended })) other idle)
    joins other u there ne bare = let w : LockView X = record v { had = v.had ++ u.had; met = v.met ++ u.met; drew = v.drew ++ u.drew; ended = v.ended || u.ended } in let low = r.counter in let low₀ = low.0 in let views' : List (LockView X) = set views id w in
        let bare' : (b : ℕ) (x : X) → In (b, x) u.owes → ⊥ = λ b x has. subst (In (b, x)) bare has in let here = set_at views id v w at in
        let first : Locks fit n words homes views' = moved fit fit n words words homes homes views id v w r at record {
          counter = low;
          up = omega arith;
          ticket = r.tickets id v at;
          apart = λ k u ne a q e. ne (r.apart k id u v a at q (sym e));
          home = r.home;
          out = λ c l nz. let g = r.out c l nz in (g.0, held_stays views id v w at c _ (λ y q z. (q, (y, z))) g.1);
          owed = λ c y z. let o = r.owed id v c y at z in (o.0, o.1, o.2, o.3, in_left (c, v.ticket) v.had u.had o.4);
          others = λ _ _ _ _ _ _ _. (refl, λ f. f);
          met = λ c h z. ⊎_elim (λ t. r.met id v c h at t) (λ t. r.met other u c h there t) (in_both (c, h) v.met u.met z);
          had = λ c h z. (id, w, here, in_left (c, h) v.had u.had z);
          known = knows_both v u w (get_or words 0 0) refl refl refl (r.known id v at) (r.known other u there);
          drew = λ t h. (id, w, here, in_left t v.drew u.drew h);
          drawn = λ t l. inl l;
          ended = λ e. ⊎_elim (r.ended id v at) (r.ended other u there) (one_of v.ended u.ended e);
        } in let there' = set_else views id other w ne ∙ there in
        moved fit fit n words words homes homes views' other u idle first there' record {
          counter = low;
          up = omega arith;
          ticket = omega arith;
          apart = λ k u ne a q e. omega arith;
          home = first.home;
          out = λ c l nz. let g = first.out c l nz in (g.0, held_stays views' other u idle there' c _ (λ y q z. absurd (bare' c y z)) g.1);
          owed = λ c y z. absurd z;
          others = λ _ _ _ _ _ _ _. (refl, λ f. f);
          met = λ c h z. absurd z;
          had = λ c h z. (id, w, set_else views' other id idle (λ e. ne (sym e)) ∙ here, in_right (c, h) v.had u.had z);
          known = ((λ _ h. absurd h), (λ _ _ h. absurd h), (λ _ _ h. absurd h));
          drew = λ t h. (id, w, set_else views' other id idle (λ e. ne (sym e)) ∙ here, in_right t v.drew u.drew h);
          drawn = λ t l. inl l;
          ended = λ e. absurd (false≢true e);
        }

    -- the seat finds the counter at its end
    pub ends : get_or words 0 0 ≡ 2 ^ 63 → Locks fit n words homes (set views id (record v { ended = true }))
    ends full = let w : LockView X = record v { ended = true } in moved fit fit n words words homes homes views id v w r at record {
      counter = r.counter;
      up = omega arith;
      ticket = r.tickets id v at;
      apart = λ k u ne a q e. ne (r.apart k id u v a at q (sym e));
      home = r.home;
      out = λ c l nz. let g = r.out c l nz in (g.0, held_stays views id v w at c _ (λ y q z. (q, (y, z))) g.1);
      owed = λ c y z. r.owed id v c y at z;
      others = λ _ _ _ _ _ _ _. (refl, λ f. f);
      met = λ c h z. r.met id v c h at z;
      had = λ c h z. (id, w, set_at views id v w at, z);
      known = r.known id v at;
      drew = λ t h. (id, w, set_at views id v w at, h);
      drawn = λ t l. inl l;
      ended = λ _. full;
    }

    -- the pivot changes, and with it what fits
    pub leaves : (fit' : ℕ → X → Type 0) (xs : List (ℕ × X)) → ((b : ℕ) (x : X) → In (b, x) xs → (y : X) × In (b, y) v.owes) → ((b : ℕ) (x : X) → In (b, x) v.owes → (y : X) × In (b, y) xs)
        → ((b : ℕ) (x : X) → In (b, x) xs → fit' b x) → ((b : ℕ) (x : X) → ((y : X) → In (b, y) v.owes → ⊥) → fit b x → fit' b x) → Locks fit' n words homes (set views id (record v { owes = xs }))
    leaves fit' xs back forth own rest_ = let w : LockView X = record v { owes = xs } in moved fit fit' n words words homes homes views id v w r at record {
      counter = r.counter;
      up = omega arith;
      ticket = r.tickets id v at;
      apart = λ k u ne a q e. ne (r.apart k id u v a at q (sym e));
      home = λ b l z. let h = r.home b l z in (h.0, h.1, rest_ b h.0 (λ y has. let o = r.owed id v b y at has in let o₁ = o.1 in let o₂ = o.2 in omega arith) h.2);
      out = λ b l nz. let o = r.out b l nz in (o.0, held_stays views id v w at b _ (λ x q has. (q, forth b x has)) o.1);
      owed = λ b x has. let t = back b x has in let o = r.owed id v b t.0 at t.1 in (o.0, o.1, o.2, own b x has, o.4);
      others = λ j u b x ne a has. (refl, rest_ b x (λ y mine. let o = r.owed j u b x a has in let m = r.owed id v b y at mine in let o₁ = o.1 in let o₂ = o.2 in let m₁ = m.1 in ne (r.apart j id u v a at o₂ (omega arith))));
      met = λ b h has. r.met id v b h at has;
      had = λ b h has. (id, w, set_at views id v w at, has);
      known = r.known id v at;
      drew = λ t h. (id, w, set_at views id v w at, h);
      drawn = λ t l. inl l;
      ended = λ e. r.ended id v at e;
    }
