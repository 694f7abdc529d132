-- A step of one seat keeps the pivot's part of the rule.
use Rattle.std.proofs.Common.{◌≡◌, ◌≢◌, ℕ, ◌<◌, List, [], ◌∷◌, ◌++◌, length, set, sym, refl, ◌∙◌, subst, ⊎_elim, inl, inr, ◌⊎◌, arith, Bool, true, false}
use Rattle.std.specs.Prelude.{IsPermutation}
use Rattle.std.proofs.lemmas.List.{set_comm}
use Rattle.std.proofs.lemmas.List.Sorted.{IsPermutation-refl, IsPermutation-sym, IsPermutation-trans, IsPermutation-cons, IsPermutation-middle}
use Rattle.std.proofs.lemmas.Bool.{false≢true, false_from_ne_true}
use mathlib.Core.Option.{Option, none, some}
use mathlib.Core.Logic.{dite}
use native.Mathlib.Decide.{ℕ_discrete}
use lib.ListN.{get_elem?}
use Rattle.atomic_table.proofs.Lists.{set_here, set_else, at_snoc, at_longer}
use Rattle.ww_lock.specs.declared.board.PivotView.{PivotView}
use Rattle.ww_lock.specs.declared.board.Slot.{Slot}
use Rattle.ww_lock.specs.declared.board.Slot.TheVariants.{Pivot}
use Rattle.ww_lock.specs.Facts.{Facts, AreLawful}
use Rattle.ww_lock.specs.Rule.{In, At, Comes, Ordered, Sees, Beside, Pivots, saw}
use Rattle.ww_lock.specs.Steps.{IsChain, calls_with}
use Rattle.ww_lock.proofs.Lists.{set_at, in_left, in_right, in_both, in_last, in_permutation, seats, same_view}

swap : {A B : Type 0} → A ⊎ B → B ⊎ A
swap x = ⊎_elim (λ a. inr a) (λ b. inl b) x

never : {A : Type 0} (b : Bool) → b ≡ false → b ≡ true → A
never b f t = absurd (false≢true (sym f ∙ t))

module _ {P : Type 0} (grows : P → P → Type 0) where
  -- the calls of two seats are ordered together where each of one is ordered with each of the other
  pub ordered_both : (cs ds : List (P × P)) → Ordered grows cs → Ordered grows ds → ((c d : P × P) → In c cs → In d ds → Comes grows c d) → Ordered grows (cs ++ ds)
  ordered_both [] ds o q h = q
  ordered_both (c ∷ cs) ds o q h = ((λ d t. ⊎_elim (λ u. o.0 d u) (λ u. h c d (inl refl) u) (in_both d cs ds t)), ordered_both cs ds o.1 q (λ a d u w. h a d (inr u) w))

  -- each two seats go together after a step of the seat id
  pub pairs : (vs : List (PivotView P)) (id : ℕ) (w : PivotView P) → ((j : ℕ) (u : PivotView P) → j ≢ id → At vs j u → Beside grows w u × Beside grows u w)
      → ((j k : ℕ) (a b : PivotView P) → At vs j a → At vs k b → j ≢ k → Beside grows a b)
      → (j k : ℕ) (a b : PivotView P) → At (set vs id w) j a → At (set vs id w) k b → j ≢ k → Beside grows a b
  pairs vs id w mine others j k a b p q = seats (λ j a. (k : ℕ) (b : PivotView P) → At (set vs id w) k b → j ≢ k → Beside grows a b) vs id w
      (λ k b q. seats (λ k b. id ≢ k → Beside grows w b) vs id w (λ ne. absurd (ne refl)) (λ k b ne q _. (mine k b ne q).0) k b q)
      (λ j a ne p k b q. seats (λ k b. j ≢ k → Beside grows a b) vs id w (λ _. (mine j a ne p).1) (λ k b _ q apart. others j k a b p q apart) k b q) j a p k b q

  -- of each two calls in a chain, one was left before the other was found
  chain_ordered : (cs : List (P × P)) → IsChain grows cs → Ordered grows cs
  chain_ordered [] h = tt
  chain_ordered (c ∷ cs) h = ((λ d t. inl (h.0 d t)), chain_ordered cs h.1)

module _ {P X T : Type 0} (facts : Facts P X T) (lawful : AreLawful facts) where
  abbrev grows : P → P → Type 0
  grows = facts.grows

  -- the rule of the pivot reads its word and its slot alone
  pub slots_stay : (p : P) (x x' : ℕ) (homes homes' : List (Option (Slot P X T))) (views : List (PivotView P)) → x' ≡ x → get_elem? homes' 0 ≡ get_elem? homes 0 → Pivots facts p x homes views → Pivots facts p x' homes' views
  slots_stay p x x' homes homes' views e there r = record {
    at_home = λ z. there ∙ r.at_home (sym e ∙ z);
    away = λ nz. let a = r.away (λ z. nz (e ∙ z)) in (e ∙ a.0, there ∙ a.1, a.2);
    is_good = r.is_good;
    each = λ j v a. subst (λ (y : ℕ). Sees grows p y v) (sym e) (r.each j v a);
    two = r.two;
  }

  module _ (p : P) (homes : List (Option (Slot P X T))) (views : List (PivotView P)) (id : ℕ) (v : PivotView P) (at : At views id v) where
    -- the seat finds the pivot at home
    pub enters : Pivots facts p 0 homes views → 0 < length homes → Pivots facts p 1 (set homes 0 none) (set views id (record v { seen = p ∷ []; inside = true; posted = false }))
    enters r tall = let w : PivotView P = record v { seen = p ∷ []; inside = true; posted = false } in let own = r.each id v at in
        let out : (j : ℕ) (u : PivotView P) → At views j u → u.inside ≡ false = λ j u a. false_from_ne_true u.inside (λ t. let e = (r.each j u a).inside t in let e₀ = e.0 in omega arith) in record {
          at_home = λ z. absurd (omega arith);
          away = λ _. (refl, set_here homes 0 none tall, (id, w, set_at views id v w at, refl));
          is_good = r.is_good;
          each = seats (λ _ u. Sees grows p 1 u) views id w record {
            inside = λ _. (refl, refl);
            grown = λ q h. ⊎_elim (λ e. subst (λ z. grows z p) (sym e) (lawful.reflexive p)) (λ t. absurd t) h;
            order = λ q s h k. ⊎_elim (λ e. ⊎_elim (λ f. subst (λ (z : P × P). grows z.0 z.1 ⊎ grows z.1 z.0) (λ i. (sym e i, sym f i)) (inl (lawful.reflexive p))) (λ t. absurd t) k) (λ t. absurd t) h;
            lefts = λ c h. (p, inl refl, own.stays c h);
            stays = own.stays;
            calls = own.calls;
            ordered = own.ordered;
          } (λ j u _ a. let s = r.each j u a in record {
            inside = λ t. never u.inside (out j u a) t;
            grown = s.grown;
            order = s.order;
            lefts = s.lefts;
            stays = s.stays;
            calls = s.calls;
            ordered = s.ordered;
          });
          two = pairs grows views id w (λ j u ne a. let s = r.each j u a in let b = r.two j id u v a at ne in (
            record {
              seens = λ q t h k. ⊎_elim (λ e. subst (λ z. grows z t ⊎ grows t z) (sym e) (inr (s.grown t k))) (λ t. absurd t) h;
              both = λ c d h k. swap (b.both d c k h);
              alone = λ _. out j u a;
            },
            record {
              seens = λ q t h k. ⊎_elim (λ e. subst (λ z. grows q z ⊎ grows z q) (sym e) (inl (s.grown q h))) (λ t. absurd t) k;
              both = b.both;
              alone = λ t. never u.inside (out j u a) t;
            },
          )) r.two;
        }

    -- the seat that is inside turns p into q, and its calls gain this one or nothing
    pub turns : (x x' : ℕ) (homes' : List (Option (Slot P X T))) (q : P) (w : PivotView P) → Pivots facts p x homes views → v.inside ≡ true → facts.good q → grows p q → w.seen ≡ q ∷ []
        → ((c : P × P) → In c w.mine → In c v.mine ⊎ (c ≡ (p, q))) → Ordered grows w.mine → (w.inside ≡ true → x' ≡ 1)
        → (x' ≡ 0 → get_elem? homes' 0 ≡ some (some (Pivot q))) → (x' ≢ 0 → (x' ≡ 1) × (get_elem? homes' 0 ≡ some none) × (w.inside ≡ true)) → Pivots facts q x' homes' (set views id w)
    turns x x' homes' q w r within fine up sees mine chain in_now home_now out_now = let own = r.each id v at in
        let out : (j : ℕ) (u : PivotView P) → j ≢ id → At views j u → u.inside ≡ false = λ j u ne a. (r.two id j v u at a (λ e. ne (sym e))).alone within in
        let only : (t : P) → In t w.seen → t ≡ q = λ t h. ⊎_elim (λ e. e) (λ t. absurd t) (subst (In t) sees h) in
        let here : In q w.seen = subst (In q) (sym sees) (inl refl) in
        let later : (c : P × P) → In c w.mine → grows c.1 q = λ c h. ⊎_elim (λ old. lawful.transitive _ _ _ (own.stays c old) up) (λ new. subst (λ (z : P × P). grows z.1 q) (sym new) (lawful.reflexive q)) (mine c h) in
        let cross : (j : ℕ) (u : PivotView P) → j ≢ id → At views j u → (c d : P × P) → In c w.mine → In d u.mine → Comes grows c d = λ j u ne a c d h k.
        ⊎_elim (λ old. swap ((r.two j id u v a at ne).both d c k old)) (λ new. subst (λ z. Comes grows z d) (sym new) (inr ((r.each j u a).stays d k))) (mine c h) in record {
          at_home = home_now;
          away = λ nz. let o = out_now nz in (o.0, o.1, (id, w, set_at views id v w at, o.2));
          is_good = fine;
          each = seats (λ _ u. Sees grows q x' u) views id w record {
            inside = λ t. (in_now t, sees);
            grown = λ s h. subst (λ z. grows z q) (sym (only s h)) (lawful.reflexive q);
            order = λ a s h k. subst (λ (z : P × P). grows z.0 z.1 ⊎ grows z.1 z.0) (λ i. (sym (only a h) i, sym (only s k) i)) (inl (lawful.reflexive q));
            lefts = λ c h. (q, here, later c h);
            stays = later;
            calls = λ c h. ⊎_elim (λ old. own.calls c old) (λ new. subst (λ (z : P × P). grows z.0 z.1) (sym new) up) (mine c h);
            ordered = chain;
          } (λ j u ne a. let s = r.each j u a in record {
            inside = λ t. never u.inside (out j u ne a) t;
            grown = λ z h. lawful.transitive _ _ _ (s.grown z h) up;
            order = s.order;
            lefts = s.lefts;
            stays = λ c h. lawful.transitive _ _ _ (s.stays c h) up;
            calls = s.calls;
            ordered = s.ordered;
          });
          two = pairs grows views id w (λ j u ne a. let s = r.each j u a in (
            record {
              seens = λ z t h k. subst (λ y. grows y t ⊎ grows t y) (sym (only z h)) (inr (lawful.transitive _ _ _ (s.grown t k) up));
              both = cross j u ne a;
              alone = λ _. out j u ne a;
            },
            record {
              seens = λ z t h k. subst (λ y. grows z y ⊎ grows y z) (sym (only t k)) (inl (lawful.transitive _ _ _ (s.grown z h) up));
              both = λ c d h k. swap (cross j u ne a d c k h);
              alone = λ t. never u.inside (out j u ne a) t;
            },
          )) r.two;
        }

    -- the calls of a seat stay ordered where they gain the one from p to q
    gained : (x : ℕ) (q : P) → Pivots facts p x homes views → Ordered grows (v.mine ++ (p, q) ∷ [])
    gained x q r = let own = r.each id v at in ordered_both grows v.mine ((p, q) ∷ []) own.ordered ((λ d t. absurd t), tt) (λ c d h k. ⊎_elim (λ e. subst (Comes grows c) (sym e) (inl (own.stays c h))) (λ t. absurd t) k)

    -- the seat leaves q, which comes of p
    pub leaves : (gains : Bool) (x : ℕ) (q : P) → Pivots facts p x homes views → v.inside ≡ true → facts.good q → grows p q → 0 < length homes
        → Pivots facts q 0 (set homes 0 (some (Pivot q))) (set views id (record { seen = q ∷ []; mine = calls_with gains v.mine p q; inside = false; posted = false }))
    leaves true x q r within fine up tall = turns x 0 _ q _ r within fine up refl (λ c h. in_last c (p, q) v.mine h) (gained x q r) (λ t. absurd (false≢true t)) (λ _. set_here homes 0 (some (Pivot q)) tall) (λ nz. absurd (nz refl))
    leaves false x q r within fine up tall = let own = r.each id v at in turns x 0 _ q _ r within fine up refl (λ c h. inl h) own.ordered (λ t. absurd (false≢true t)) (λ _. set_here homes 0 (some (Pivot q)) tall) (λ nz. absurd (nz refl))

    -- the seat shows q, which comes of p, and is still inside
    pub posts : (x : ℕ) (q : P) → Pivots facts p x homes views → v.inside ≡ true → facts.good q → grows p q
        → Pivots facts q x homes (set views id (record { seen = q ∷ []; mine = v.mine ++ (p, q) ∷ []; inside = true; posted = true }))
    posts x q r within fine up = let own = r.each id v at in let i = own.inside within in let one = i.0 in
        turns x x _ q _ r within fine up refl (λ c h. in_last c (p, q) v.mine h) (gained x q r) (λ _. one) (λ z. absurd (omega arith)) (λ nz. let a = r.away nz in (a.0, a.1, refl))

    -- the seat is split, and the new one has seen as much
    pub splits : (x : ℕ) → Pivots facts p x homes views → Pivots facts p x homes (views ++ saw v.seen ∷ [])
    splits x r = let w : PivotView P = saw v.seen in let own = r.each id v at in
        let near : (j : ℕ) (u : PivotView P) → At views j u → (q t : P) → In q u.seen → In t v.seen → grows q t ⊎ grows t q = λ j u a q t h k. dite (ℕ_discrete j id)
        (λ e. own.order q t (subst (λ (z : PivotView P). In q z.seen) (same_view views id j v u at a e) h) k) (λ ne. (r.two j id u v a at ne).seens q t h k) in record {
          at_home = r.at_home;
          away = λ nz. let a = r.away nz in let h = a.2 in (a.0, a.1, (h.0, h.1, at_longer views (w ∷ []) h.0 h.1 h.2, h.3));
          is_good = r.is_good;
          each = λ j u a. ⊎_elim (r.each j u) (λ e. subst (Sees grows p x) e record {
            inside = λ t. absurd (false≢true t);
            grown = own.grown;
            order = own.order;
            lefts = λ c h. absurd h;
            stays = λ c h. absurd h;
            calls = λ c h. absurd h;
            ordered = tt;
          }) (at_snoc views w u j a);
          two = λ j k a b f g ne. ⊎_elim
              (λ f'. ⊎_elim (λ g'. r.two j k a b f' g' ne) (λ e. subst (Beside grows a) e record { seens = near j a f'; both = λ c d h z. absurd z; alone = λ _. refl }) (at_snoc views w b k g))
              (λ e. subst (λ z. Beside grows z b) e (⊎_elim
              (λ g'. record { seens = λ q t h z. swap (near k b g' t q z h); both = λ c d h z. absurd h; alone = λ t. absurd (false≢true t) })
              (λ e'. subst (Beside grows w) e' record { seens = own.order; both = λ c d h z. absurd h; alone = λ _. refl })
              (at_snoc views w b k g)))
              (at_snoc views w a j f);
        }

    -- the seat is spent
    pub empties : (x : ℕ) → Pivots facts p x homes views → v.inside ≡ false → Pivots facts p x homes (set views id (saw []))
    empties x r off = record {
      at_home = r.at_home;
      away = λ nz. let a = r.away nz in let h = a.2 in (a.0, a.1, (h.0, h.1, set_else views id h.0 (saw []) (λ e. never v.inside off (subst (λ (z : PivotView P). z.inside ≡ true) (same_view views id h.0 v h.1 at h.2 e) h.3)) ∙ h.2, h.3));
      is_good = r.is_good;
      each = seats (λ _ u. Sees grows p x u) views id (saw []) record {
        inside = λ t. absurd (false≢true t);
        grown = λ q h. absurd h;
        order = λ q s h k. absurd h;
        lefts = λ c h. absurd h;
        stays = λ c h. absurd h;
        calls = λ c h. absurd h;
        ordered = tt;
      } (λ j u _ a. r.each j u a);
      two = pairs grows views id (saw []) (λ j u ne a. (record { seens = λ q t h k. absurd h; both = λ c d h k. absurd h; alone = λ t. absurd (false≢true t) }, record { seens = λ q t h k. absurd k; both = λ c d h k. absurd k; alone = λ _. refl })) r.two;
    }

    -- the seat takes in what u knows, which is no seat's any more
    pub gains : (x : ℕ) (u : PivotView P) → Pivots facts p x homes views → v.inside ≡ false → Sees grows p x u → Beside grows v u → ((j : ℕ) (d : PivotView P) → j ≢ id → At views j d → Beside grows d u × (u.inside ≡ false))
        → Pivots facts p x homes (set views id (record v { seen = v.seen ++ u.seen; mine = v.mine ++ u.mine }))
    gains x u r off s b others = let w : PivotView P = record v { seen = v.seen ++ u.seen; mine = v.mine ++ u.mine } in let own = r.each id v at in
        let each_seen : (K : P → Type 0) → ((q : P) → In q v.seen → K q) → ((q : P) → In q u.seen → K q) → (q : P) → In q w.seen → K q = λ K f g q h. ⊎_elim (f q) (g q) (in_both q v.seen u.seen h) in
        let each_call : (K : P × P → Type 0) → ((c : P × P) → In c v.mine → K c) → ((c : P × P) → In c u.mine → K c) → (c : P × P) → In c w.mine → K c = λ K f g c h. ⊎_elim (f c) (g c) (in_both c v.mine u.mine h) in record {
          at_home = r.at_home;
          away = λ nz. let a = r.away nz in let h = a.2 in (a.0, a.1, (h.0, h.1, set_else views id h.0 w (λ e. never v.inside off (subst (λ (z : PivotView P). z.inside ≡ true) (same_view views id h.0 v h.1 at h.2 e) h.3)) ∙ h.2, h.3));
          is_good = r.is_good;
          each = seats (λ _ u. Sees grows p x u) views id w record {
            inside = λ t. never v.inside off t;
            grown = each_seen (λ q. grows q p) own.grown s.grown;
            order = λ q t h k. each_seen (λ q. grows q t ⊎ grows t q)
                (λ q h. each_seen (λ t. grows q t ⊎ grows t q) (λ t k. own.order q t h k) (λ t k. b.seens q t h k) t k)
                (λ q h. each_seen (λ t. grows q t ⊎ grows t q) (λ t k. swap (b.seens t q k h)) (λ t k. s.order q t h k) t k) q h;
            lefts = each_call (λ c. (q : P) × In q w.seen × grows c.1 q) (λ c h. let l = own.lefts c h in (l.0, in_left l.0 v.seen u.seen l.1, l.2)) (λ c h. let l = s.lefts c h in (l.0, in_right l.0 v.seen u.seen l.1, l.2));
            stays = each_call (λ c. grows c.1 p) own.stays s.stays;
            calls = each_call (λ c. grows c.0 c.1) own.calls s.calls;
            ordered = ordered_both grows v.mine u.mine own.ordered s.ordered b.both;
          } (λ j u _ a. r.each j u a);
          two = pairs grows views id w (λ j d ne a. let t = r.two j id d v a at ne in let o = others j d ne a in let o₀ = o.0 in (
            record {
              seens = λ q e h k. each_seen (λ q. grows q e ⊎ grows e q) (λ q h. swap (t.seens e q k h)) (λ q h. swap (o₀.seens e q k h)) q h;
              both = λ c e h k. each_call (λ c. Comes grows c e) (λ c h. swap (t.both e c k h)) (λ c h. swap (o₀.both e c k h)) c h;
              alone = λ y. never v.inside off y;
            },
            record {
              seens = λ q e h k. each_seen (λ e. grows q e ⊎ grows e q) (λ e k. t.seens q e h k) (λ e k. o₀.seens q e h k) e k;
              both = λ c e h k. each_call (λ e. Comes grows c e) (λ e k. t.both c e h k) (λ e k. o₀.both c e h k) e k;
              alone = λ _. off;
            },
          )) r.two;
        }

  -- the seat takes in what another one knows, which is spent
  pub joins : (p : P) (x : ℕ) (homes : List (Option (Slot P X T))) (views : List (PivotView P)) (id : ℕ) (v : PivotView P) (other : ℕ) (u : PivotView P) → At views id v → At views other u → other ≢ id → v.inside ≡ false → u.inside ≡ false
      → Pivots facts p x homes views → Pivots facts p x homes (set (set views id (record v { seen = v.seen ++ u.seen; mine = v.mine ++ u.mine })) other (saw []))
  joins p x homes views id v other u at there ne off away r = let w : PivotView P = record v { seen = v.seen ++ u.seen; mine = v.mine ++ u.mine } in let views' : List (PivotView P) = set views other (saw []) in
      subst (Pivots facts p x homes) (sym (set_comm views id other w (saw []) (λ e. ne (sym e))))
      (gains p homes views' id v (set_else views other id (saw []) (λ e. ne (sym e)) ∙ at) x u (empties p homes views other u there x r away) off (r.each other u there) (r.two id other v u at there (λ e. ne (sym e)))
      (λ j d _ a. seats (λ _ d. Beside grows d u × (u.inside ≡ false)) views other (saw []) (record { seens = λ q t h k. absurd h; both = λ c d h k. absurd h; alone = λ t. absurd (false≢true t) }, away)
      (λ k e apart b. (r.two k other e u b there apart, away)) j d a))

  -- a call finds its place in a chain
  put_in : (c : P × P) (cs : List (P × P)) → grows c.0 c.1 → ((d : P × P) → In d cs → grows d.0 d.1) → ((d : P × P) → In d cs → Comes grows c d) → IsChain grows cs
      → (ds : List (P × P)) × IsChain grows ds × IsPermutation (c ∷ cs) ds
  put_in c [] goes all near chain = (c ∷ [], ((λ d t. absurd t), tt), IsPermutation-refl (c ∷ []))
  put_in c (e ∷ es) goes all near chain = ⊎_elim
      (λ first. (c ∷ e ∷ es, ((λ d t. ⊎_elim (λ u. subst (λ z. grows c.1 z.0) (sym u) first) (λ u. lawful.transitive _ _ _ first (lawful.transitive _ _ _ (all e (inl refl)) (chain.0 d u))) t), chain), IsPermutation-refl (c ∷ e ∷ es)))
      (λ later. let r = put_in c es goes (λ d t. all d (inr t)) (λ d t. near d (inr t)) chain.1 in (
        e ∷ r.0,
        ((λ d t. ⊎_elim (λ u. subst (λ z. grows e.1 z.0) (sym u) later) (λ u. chain.0 d u) (in_permutation d r.0 (c ∷ es) (IsPermutation-sym (c ∷ es) r.0 r.2) t)), r.1),
        IsPermutation-trans (c ∷ e ∷ es) (e ∷ c ∷ es) (e ∷ r.0) (IsPermutation-sym (e ∷ c ∷ es) (c ∷ e ∷ es) (IsPermutation-middle (e ∷ []) c es)) (IsPermutation-cons e (c ∷ es) r.0 r.2),
      ))
      (near e (inl refl))

  -- calls of which each two are ordered are put into a chain
  pub chained : (cs : List (P × P)) → ((d : P × P) → In d cs → grows d.0 d.1) → Ordered grows cs → (ds : List (P × P)) × IsChain grows ds × IsPermutation cs ds
  chained [] all o = ([], tt, IsPermutation-refl [])
  chained (c ∷ cs) all o = let r = chained cs (λ d t. all d (inr t)) o.1 in let back : (d : P × P) → In d r.0 → In d cs = λ d t. in_permutation d r.0 cs (IsPermutation-sym cs r.0 r.2) t in
      let q = put_in c r.0 (all c (inl refl)) (λ d t. all d (inr (back d t))) (λ d t. o.0 d (back d t)) r.1 in
      (q.0, q.1, IsPermutation-trans (c ∷ cs) (c ∷ r.0) q.0 (IsPermutation-cons c cs r.0 r.2) q.2)

  -- of pivots of which each two are ordered, one came of all
  pub last_seen : (q : P) (qs : List P) → ((a b : P) → In a (q ∷ qs) → In b (q ∷ qs) → grows a b ⊎ grows b a) → (p : P) × In p (q ∷ qs) × ((a : P) → In a (q ∷ qs) → grows a p)
  last_seen q [] near = (q, inl refl, λ a t. ⊎_elim (λ u. subst (λ z. grows z q) (sym u) (lawful.reflexive q)) (λ u. absurd u) t)
  last_seen q (s ∷ qs) near = let r = last_seen s qs (λ a b t u. near a b (inr t) (inr u)) in ⊎_elim
      (λ up. (r.0, inr r.1, λ a t. ⊎_elim (λ u. subst (λ z. grows z r.0) (sym u) up) (λ u. r.2 a u) t))
      (λ down. (q, inl refl, λ a t. ⊎_elim (λ u. subst (λ z. grows z q) (sym u) (lawful.reflexive q)) (λ u. lawful.transitive _ _ _ (r.2 a u) down) t))
      (near q r.0 (inl refl) (inr r.1))

  -- a seat that is outside puts its calls in order, and keeps the last of what it saw
  pub settles : (p : P) (x : ℕ) (homes : List (Option (Slot P X T))) (views : List (PivotView P)) (id : ℕ) (v : PivotView P) → At views id v → v.inside ≡ false → Pivots facts p x homes views
      → (q : P) (cs : List (P × P)) → In q v.seen → ((a : P) → In a v.seen → grows a q) → IsChain grows cs → IsPermutation v.mine cs
      → Pivots facts p x homes (set views id (record v { seen = q ∷ []; mine = cs }))
  settles p x homes views id v at off r q cs mine shared chain moved = let w : PivotView P = record v { seen = q ∷ []; mine = cs } in let own = r.each id v at in
      let back : (c : P × P) → In c cs → In c v.mine = λ c h. in_permutation c cs v.mine (IsPermutation-sym v.mine cs moved) h in
      let old : (a : P) → In a w.seen → In a v.seen = λ a h. ⊎_elim (λ e. subst (λ z. In z v.seen) (sym e) mine) (λ t. absurd t) h in record {
        at_home = r.at_home;
        away = λ nz. let a = r.away nz in let h = a.2 in (a.0, a.1, (h.0, h.1, set_else views id h.0 w (λ e. never v.inside off (subst (λ (z : PivotView P). z.inside ≡ true) (same_view views id h.0 v h.1 at h.2 e) h.3)) ∙ h.2, h.3));
        is_good = r.is_good;
        each = seats (λ _ u. Sees grows p x u) views id w record {
          inside = λ t. never v.inside off t;
          grown = λ a h. own.grown a (old a h);
          order = λ a b h k. own.order a b (old a h) (old b k);
          lefts = λ c h. let l = own.lefts c (back c h) in (q, inl refl, lawful.transitive _ _ _ l.2 (shared l.0 l.1));
          stays = λ c h. own.stays c (back c h);
          calls = λ c h. own.calls c (back c h);
          ordered = chain_ordered grows cs chain;
        } (λ j u _ a. r.each j u a);
        two = pairs grows views id w (λ j u ne a. let t = r.two j id u v a at ne in let s = r.two id j v u at a (λ e. ne (sym e)) in (
          record {
            seens = λ a b h k. s.seens a b (old a h) k;
            both = λ c d h k. s.both c d (back c h) k;
            alone = λ y. never v.inside off y;
          },
          record {
            seens = λ a b h k. t.seens a b h (old b k);
            both = λ c d h k. t.both c d h (back d k);
            alone = λ _. off;
          },
        )) r.two;
      }
