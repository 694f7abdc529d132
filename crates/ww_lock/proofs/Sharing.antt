-- The parts of the seats go on to make up the whole over a step of one seat.
use Rattle.std.proofs.Common.{◌≡◌, ◌≢◌, ℕ, zero, suc, ◌+◌, ◌-◌, ◌^◌, ◌≤◌, List, [], ◌∷◌, ◌++◌, map, set, sym, refl, ap, ◌∙◌, subst, ⊎_elim, arith}
use Rattle.std.proofs.Math.Nat.{pow-suc}
use Rattle.std.proofs.lemmas.Nat.{pow_pos}
use mathlib.Core.Logic.{dite}
use mathlib.Core.Option.{some-injective, some-ne-none}
use mathlib.Core.List.{map-append}
use native.Mathlib.Decide.{ℕ_discrete}
use lib.Seq.{map-set}
use Rattle.atomic_table.proofs.Lists.{at_map, at_snoc, set_else}
use Rattle.ww_lock.specs.declared.board.View.{View}
use Rattle.ww_lock.specs.Parts.{weight, AreWithin, IsWhole, halved}
use Rattle.ww_lock.specs.Rule.{At, In, Parts, part_of, total, looked_only}
use Rattle.ww_lock.proofs.Lists.{same_view, seats}

twice : (n : ℕ) → 2 ^ suc n ≡ 2 ^ n + 2 ^ n
twice n = let e = pow-suc 2 n in omega arith

-- told in pieces half as large, the same pieces weigh twice as much
pub finer : (n : ℕ) (ds : List ℕ) → AreWithin n ds → weight (suc n) ds ≡ weight n ds + weight n ds
finer n [] h = refl
finer n (d ∷ ds) h = let r = finer n ds h.1 in let low = h.0 in let e : suc n - d ≡ suc (n - d) = omega arith in
    let p : 2 ^ (suc n - d) ≡ 2 ^ (n - d) + 2 ^ (n - d) = ap (λ (k : ℕ). 2 ^ k) e ∙ twice (n - d) in omega arith

pub finer_within : (n : ℕ) (ds : List ℕ) → AreWithin n ds → AreWithin (suc n) ds
finer_within n [] h = tt
finer_within n (d ∷ ds) h = (let low = h.0 in omega arith, finer_within n ds h.1)

-- told in pieces half as large, halved pieces weigh as much as the whole ones did
pub half : (n : ℕ) (ds : List ℕ) → weight (suc n) (halved ds) ≡ weight n ds
half n [] = refl
half n (d ∷ ds) = let r = half n ds in let e : suc n - (d + 1) ≡ n - d = omega arith in let p : 2 ^ (suc n - (d + 1)) ≡ 2 ^ (n - d) = ap (λ (k : ℕ). 2 ^ k) e in omega arith

pub half_within : (n : ℕ) (ds : List ℕ) → AreWithin n ds → AreWithin (suc n) (halved ds)
half_within n [] h = tt
half_within n (d ∷ ds) h = (let low = h.0 in omega arith, half_within n ds h.1)

pub both_weights : (n : ℕ) (ds es : List ℕ) → weight n (ds ++ es) ≡ weight n ds + weight n es
both_weights n [] es = omega arith
both_weights n (d ∷ ds) es = let r = both_weights n ds es in omega arith

pub both_within : (n : ℕ) (ds es : List ℕ) → AreWithin n ds → AreWithin n es → AreWithin n (ds ++ es)
both_within n [] es h k = k
both_within n (d ∷ ds) es h k = (h.0, both_within n ds es h.1 k)

-- a part that is nothing in 2^n-ths has no pieces
no_pieces : (n : ℕ) (ds : List ℕ) → weight n ds ≡ 0 → ds ≡ []
no_pieces n [] e = refl
no_pieces n (d ∷ ds) e = absurd (let p = pow_pos (n - d) in omega arith)

pub none_halved : (ds : List ℕ) → halved ds ≡ [] → ds ≡ []
none_halved [] e = refl
none_halved (d ∷ ds) e = absurd (let n : suc (Rattle.std.proofs.Common.length (halved ds)) ≡ 0 = ap Rattle.std.proofs.Common.length e in omega arith)

none_left : (ds es : List ℕ) → ds ++ es ≡ [] → ds ≡ []
none_left [] es e = refl
none_left (d ∷ ds) es e = absurd (let n : suc (Rattle.std.proofs.Common.length (ds ++ es)) ≡ 0 = ap Rattle.std.proofs.Common.length e in omega arith)

none_right : (ds es : List ℕ) → ds ++ es ≡ [] → es ≡ []
none_right [] es e = e
none_right (d ∷ ds) es e = absurd (let n : suc (Rattle.std.proofs.Common.length (ds ++ es)) ≡ 0 = ap Rattle.std.proofs.Common.length e in omega arith)

-- the total changes by what one part changes
total_set : (n : ℕ) (parts : List (List ℕ)) (id : ℕ) (ds es : List ℕ) → At parts id ds → total n (set parts id es) + weight n ds ≡ total n parts + weight n es
total_set n [] id ds es at = absurd (some-ne-none ds (sym at))
total_set n (p ∷ parts) zero ds es at = let e : weight n p ≡ weight n ds = ap (weight n) (some-injective p ds at) in omega arith
total_set n (p ∷ parts) (suc id) ds es at = let r = total_set n parts id ds es at in omega arith

-- the total gains what a new part weighs
total_more : (n : ℕ) (parts : List (List ℕ)) (ds : List ℕ) → total n (parts ++ ds ∷ []) ≡ total n parts + weight n ds
total_more n [] ds = omega arith
total_more n (p ∷ parts) ds = let r = total_more n parts ds in omega arith

-- told in pieces half as large, the total is twice as much
total_finer : (n : ℕ) (parts : List (List ℕ)) → ((j : ℕ) (ds : List ℕ) → At parts j ds → AreWithin n ds) → total (suc n) parts ≡ total n parts + total n parts
total_finer n [] h = refl
total_finer n (p ∷ parts) h = let r = total_finer n parts (λ j ds at. h (suc j) ds at) in let f = finer n p (h 0 p refl) in omega arith

-- one part is no more than the total
one_most : (n : ℕ) (parts : List (List ℕ)) (k : ℕ) (es : List ℕ) → At parts k es → weight n es ≤ total n parts
one_most n [] k es at = absurd (some-ne-none es (sym at))
one_most n (p ∷ parts) zero es at = let e : weight n p ≡ weight n es = ap (weight n) (some-injective p es at) in omega arith
one_most n (p ∷ parts) (suc k) es at = let r = one_most n parts k es at in omega arith

-- two parts are no more than the total
two_most : (n : ℕ) (parts : List (List ℕ)) (j k : ℕ) (ds es : List ℕ) → At parts j ds → At parts k es → j ≢ k → weight n ds + weight n es ≤ total n parts
two_most n [] j k ds es a b ne = absurd (some-ne-none ds (sym a))
two_most n (p ∷ parts) zero zero ds es a b ne = absurd (ne refl)
two_most n (p ∷ parts) zero (suc k) ds es a b ne = let e : weight n p ≡ weight n ds = ap (weight n) (some-injective p ds a) in let r = one_most n parts k es b in omega arith
two_most n (p ∷ parts) (suc j) zero ds es a b ne = let e : weight n p ≡ weight n es = ap (weight n) (some-injective p es b) in let r = one_most n parts j ds a in omega arith
two_most n (p ∷ parts) (suc j) (suc k) ds es a b ne = let r = two_most n parts j k ds es a b (λ e. ne (ap suc e)) in omega arith

-- the whole stays the whole in finer pieces
whole_finer : (k n : ℕ) (ds : List ℕ) → AreWithin n ds → weight n ds ≡ 2 ^ n → AreWithin (k + n) ds × (weight (k + n) ds ≡ 2 ^ (k + n))
whole_finer zero n ds h e = subst (λ m. AreWithin m ds × (weight m ds ≡ 2 ^ m)) (let z : n ≡ 0 + n = omega arith in z) (h, e)
whole_finer (suc k) n ds h e = let r = whole_finer k n ds h e in let f = finer (k + n) ds r.0 in let t = twice (k + n) in let w = r.1 in
    subst (λ m. AreWithin m ds × (weight m ds ≡ 2 ^ m)) (let z : suc (k + n) ≡ suc k + n = omega arith in z) (finer_within (k + n) ds r.0, omega arith)

total_whole : (k n : ℕ) (parts : List (List ℕ)) → ((j : ℕ) (ds : List ℕ) → At parts j ds → AreWithin n ds) → total n parts ≡ 2 ^ n → ((j : ℕ) (ds : List ℕ) → At parts j ds → AreWithin (k + n) ds) × (total (k + n) parts ≡ 2 ^ (k + n))
total_whole zero n parts h e = subst (λ m. ((j : ℕ) (ds : List ℕ) → At parts j ds → AreWithin m ds) × (total m parts ≡ 2 ^ m)) (let z : n ≡ 0 + n = omega arith in z) (h, e)
total_whole (suc k) n parts h e = let r = total_whole k n parts h e in let f = total_finer (k + n) parts r.0 in let t = twice (k + n) in let w = r.1 in
    subst (λ m. ((j : ℕ) (ds : List ℕ) → At parts j ds → AreWithin m ds) × (total m parts ≡ 2 ^ m)) (let z : suc (k + n) ≡ suc k + n = omega arith in z) ((λ j ds at. finer_within (k + n) ds (r.0 j ds at)), omega arith)

-- beside a seat that has the whole, no other has a part
pub none_beside : (n : ℕ) (parts : List (List ℕ)) → ((j : ℕ) (ds : List ℕ) → At parts j ds → AreWithin n ds) → total n parts ≡ 2 ^ n → (id : ℕ) (ds : List ℕ) → At parts id ds → IsWhole ds → (k : ℕ) (es : List ℕ) → At parts k es → k ≢ id → es ≡ []
none_beside n parts within whole id ds at all k es there ne =
    let a = whole_finer n all.0 ds all.1 all.2 in let b = total_whole all.0 n parts within whole in let same : n + all.0 ≡ all.0 + n = omega arith in let m : ℕ = all.0 + n in
    let mine : weight m ds ≡ 2 ^ m = subst (λ (q : ℕ). weight q ds ≡ 2 ^ q) same a.1 in let most = two_most m parts id k ds es at there (λ e. ne (sym e)) in let sum = b.1 in
    no_pieces m es (omega arith)

module _ {P X T : Type 0} where
  -- beside a seat that has the whole, each knows no more than what it looked at
  pub others_spent : (views : List (View P X T)) (id : ℕ) (v : View P X T) → At views id v → Parts views → IsWhole v.part → (k : ℕ) (w : View P X T) → At views k w → k ≢ id → w ≡ looked_only w.looked
  others_spent views id v here r all k w at ne = r.blank k w at (none_beside r.n (map part_of views) r.within r.whole id v.part (at_map part_of views id v here) all k w.part (at_map part_of views k w at) ne)

  -- what some seat has seen last, the seat that has the whole has seen
  pub seen_by_all : (views : List (View P X T)) (id : ℕ) (v : View P X T) (shown : P) → At views id v → Parts views → IsWhole v.part
      → (j : ℕ) × (u : View P X T) × At views j u × In shown u.pivot.seen → In shown v.pivot.seen
  seen_by_all views id v shown here r all last = dite (ℕ_discrete last.0 id)
      (λ one. subst (λ (u : View P X T). In shown u.pivot.seen) (same_view views id last.0 v last.1 here last.2 one) last.3)
      (λ apart. absurd (subst (λ (u : View P X T). In shown u.pivot.seen) (others_spent views id v here r all last.0 last.1 last.2 apart) last.3))

  -- the parts stay where a seat keeps its part
  pub parts_stay : (views : List (View P X T)) (id : ℕ) (v w : View P X T) → At views id v → w.part ≡ v.part → (w.part ≡ [] → w ≡ looked_only w.looked) → Parts views → Parts (set views id w)
  parts_stay views id v w at same none r = let at' = at_map part_of views id v at in record {
    n = r.n;
    within = λ j ds a. seats (λ _ es. AreWithin r.n es) (map part_of views) id w.part (subst (AreWithin r.n) (sym same) (r.within id v.part at')) (λ k es _ b. r.within k es b) j ds (subst (λ (l : List (List ℕ)). At l j ds) (map-set part_of views id w) a);
    whole = let e = total_set r.n (map part_of views) id v.part w.part at' in let s : weight r.n w.part ≡ weight r.n v.part = ap (weight r.n) same in let t : total r.n (map part_of (set views id w)) ≡ total r.n (set (map part_of views) id w.part) = ap (total r.n) (map-set part_of views id w) in let u = r.whole in omega arith;
    blank = seats (λ _ u. u.part ≡ [] → u ≡ looked_only u.looked) views id w none (λ j u _ a. r.blank j u a);
  }

  -- the seat gives half of its part to a new one
  pub parts_split : (views : List (View P X T)) (id : ℕ) (v w u : View P X T) → At views id v → w.part ≡ halved v.part → u.part ≡ halved v.part → (w.part ≡ [] → w ≡ looked_only w.looked) → (u.part ≡ [] → u ≡ looked_only u.looked)
      → Parts views → Parts (set views id w ++ u ∷ [])
  parts_split views id v w u at e f none none' r = let at' = at_map part_of views id v at in let parts : List (List ℕ) = map part_of views in let m : ℕ = suc r.n in
      let own = r.within id v.part at' in let now : map part_of (set views id w ++ u ∷ []) ≡ set parts id w.part ++ u.part ∷ [] = map-append part_of (set views id w) (u ∷ []) ∙ ap (λ (l : List (List ℕ)). l ++ u.part ∷ []) (map-set part_of views id w) in record {
        n = m;
        within = λ j ds a. ⊎_elim
            (λ b. seats (λ _ es. AreWithin m es) parts id w.part (subst (AreWithin m) (sym e) (half_within r.n v.part own)) (λ k es _ c. finer_within r.n es (r.within k es c)) j ds b)
            (λ s. subst (AreWithin m) s (subst (AreWithin m) (sym f) (half_within r.n v.part own)))
            (at_snoc (set parts id w.part) u.part ds j (subst (λ (l : List (List ℕ)). At l j ds) now a));
        whole = let s = total_set m parts id v.part w.part at' in let more = total_more m (set parts id w.part) u.part in let fine = total_finer r.n parts r.within in let t = twice r.n in let all = r.whole in
            let q : weight m w.part ≡ weight r.n v.part = ap (weight m) e ∙ half r.n v.part in let q' : weight m u.part ≡ weight r.n v.part = ap (weight m) f ∙ half r.n v.part in let d = finer r.n v.part own in
            ap (total m) now ∙ (let z : total m (set parts id w.part ++ u.part ∷ []) ≡ 2 ^ m = omega arith in z);
        blank = λ j d a. ⊎_elim (λ b. seats (λ _ x. x.part ≡ [] → x ≡ looked_only x.looked) views id w none (λ k x _ c. r.blank k x c) j d b) (λ s. subst (λ (x : View P X T). x.part ≡ [] → x ≡ looked_only x.looked) s none') (at_snoc (set views id w) u d j a);
      }

  -- the seat takes in the part of another, which has nothing left
  pub parts_join : (views : List (View P X T)) (id : ℕ) (v : View P X T) (other : ℕ) (u : View P X T) (w d : View P X T) → At views id v → At views other u → other ≢ id → w.part ≡ v.part ++ u.part → d.part ≡ [] → d ≡ looked_only d.looked
      → (v.part ≡ [] → u.part ≡ [] → v ≡ looked_only v.looked → u ≡ looked_only u.looked → w ≡ looked_only w.looked) → Parts views → Parts (set (set views id w) other d)
  parts_join views id v other u w d at there ne e none empty both r = let n = r.n in let parts : List (List ℕ) = map part_of views in let at' = at_map part_of views id v at in let there' = at_map part_of views other u there in
      let now : map part_of (set (set views id w) other d) ≡ set (set parts id w.part) other d.part = map-set part_of (set views id w) other d ∙ ap (λ (l : List (List ℕ)). set l other d.part) (map-set part_of views id w) in record {
        n = n;
        within = λ j ds a. seats (λ _ es. AreWithin n es) (set parts id w.part) other d.part (subst (AreWithin n) (sym none) tt)
            (λ k es _ b. seats (λ _ fs. AreWithin n fs) parts id w.part (subst (AreWithin n) (sym e) (both_within n v.part u.part (r.within id v.part at') (r.within other u.part there'))) (λ i fs _ c. r.within i fs c) k es b)
            j ds (subst (λ (l : List (List ℕ)). At l j ds) now a);
        whole = let s = total_set n parts id v.part w.part at' in let s' = total_set n (set parts id w.part) other u.part d.part (set_else parts id other w.part ne ∙ there') in let b : weight n w.part ≡ weight n v.part + weight n u.part = ap (weight n) e ∙ both_weights n v.part u.part in
            let z : weight n d.part ≡ 0 = ap (weight n) none in let all = r.whole in ap (total n) now ∙ (let y : total n (set (set parts id w.part) other d.part) ≡ 2 ^ n = omega arith in y);
        blank = seats (λ _ x. x.part ≡ [] → x ≡ looked_only x.looked) (set views id w) other d (λ _. empty)
            (λ k x _ a. seats (λ _ y. y.part ≡ [] → y ≡ looked_only y.looked) views id w
            (λ h. let p = none_left v.part u.part (sym e ∙ h) in let q = none_right v.part u.part (sym e ∙ h) in both p q (r.blank id v at p) (r.blank other u there q)) (λ i y _ c. r.blank i y c) k x a);
      }
