-- A value is taken out of what is held.
use Rattle.std.proofs.Common.{◌≡◌, ◌≢◌, ℕ, ◌+◌, ◌-◌, zero, suc, List, [], ◌∷◌, ◌++◌, take, drop, map, length, sym, refl, ap, ◌∙◌, subst, inl, inr, arith, eq-eqb, ne_eqb, Bool}
use Rattle.std.specs.Prelude.{if◌then◌else◌}
use mathlib.Core.Logic.{dite}
use mathlib.Core.Option.{some, some-injective, some-ne-none}
use native.Mathlib.Decide.{ℕ_discrete}
use lib.ListN.{get_elem?}
use Rattle.ww_lock.specs.declared.board.Slot.TheVariants.{Gone}
use Rattle.ww_lock.specs.Rule.{In}
use Rattle.ww_lock.specs.Steps.{without, number_of}
use Rattle.ww_lock.specs.Held.{IsSameKeys, IsApart, Lacks, emptied, turned_by}
use Rattle.ww_lock.proofs.Lists.{at_in}
use Rattle.ww_lock.proofs.Turning.{turned_whole}

module _ {A : Type 0} where
  without_none : (b : ℕ) (xs : List (ℕ × A)) → Lacks b xs → without b xs ≡ xs
  without_none b [] h = refl
  without_none b (x ∷ xs) h = let ne : x.0 ≢ b = λ e. h x.1 (inl (λ i. (sym e i, x.1))) in
      subst (λ (k : Bool). (if k then without b xs else x ∷ without b xs) ≡ x ∷ xs) (sym (ne_eqb x.0 b ne)) (ap (λ l. x ∷ l) (without_none b xs (λ y t. h y (inr t))))

  -- where each number stands once, the pair that is taken out is the only one of its number
  pub removed : (b : ℕ) (x : A) (xs : List (ℕ × A)) (i : ℕ) → IsApart xs → get_elem? xs i ≡ some (b, x) → take i xs ++ drop (i + 1) xs ≡ without b xs
  removed b x [] i h e = absurd (some-ne-none (b, x) (sym e))
  removed b x (p ∷ xs) zero h e = let same : p.0 ≡ b = ap (λ z. z.0) (some-injective p (b, x) e) in
      subst (λ (k : Bool). xs ≡ (if k then without b xs else p ∷ without b xs)) (sym (eq-eqb p.0 b same)) (sym (without_none b xs (subst (λ n. Lacks n xs) same h.0)))
  removed b x (p ∷ xs) (suc i) h e = let ne : p.0 ≢ b = λ same. h.0 x (subst (λ n. In (n, x) xs) (sym same) (at_in xs i (b, x) e)) in
      subst (λ (k : Bool). take (suc i) (p ∷ xs) ++ drop (suc i + 1) (p ∷ xs) ≡ (if k then without b xs else p ∷ without b xs)) (sym (ne_eqb p.0 b ne))
      (subst (λ n. take (suc i) (p ∷ xs) ++ drop n (p ∷ xs) ≡ p ∷ without b xs) (let q : suc (i + 1) ≡ suc i + 1 = omega arith in q) (ap (λ l. p ∷ l) (removed b x xs i h.1 e)))

  pub without_keys : {B : Type 0} (b : ℕ) (xs : List (ℕ × A)) (ys : List (ℕ × B)) → IsSameKeys xs ys → IsSameKeys (without b xs) (without b ys)
  without_keys b [] [] e = refl
  without_keys b [] (q ∷ ys) e = absurd (let n : 0 ≡ suc (length (map number_of ys)) = ap length e in omega arith)
  without_keys b (p ∷ xs) [] e = absurd (let n : suc (length (map number_of xs)) ≡ 0 = ap length e in omega arith)
  without_keys b (p ∷ xs) (q ∷ ys) e = let head : p.0 ≡ q.0 = ap (λ l. Rattle.std.proofs.Common.get_or l 0 0) e in let tail = without_keys b xs ys (ap (drop 1) e) in dite (ℕ_discrete q.0 b)
      (λ s. subst (λ (k : Bool × Bool). IsSameKeys (if k.0 then without b xs else p ∷ without b xs) (if k.1 then without b ys else q ∷ without b ys)) (λ i. (sym (eq-eqb p.0 b (head ∙ s)) i, sym (eq-eqb q.0 b s) i)) tail)
      (λ ne. subst (λ (k : Bool × Bool). IsSameKeys (if k.0 then without b xs else p ∷ without b xs) (if k.1 then without b ys else q ∷ without b ys)) (λ i. (sym (ne_eqb p.0 b (λ s. ne (sym head ∙ s))) i, sym (ne_eqb q.0 b ne) i)) (λ i. head i ∷ tail i))

  -- the slots turn until that of the value is first
  pub brought : {P T : Type 0} (b : ℕ) (x : A) (xs : List (ℕ × A)) (i : ℕ) → get_elem? xs i ≡ some (b, x)
      → turned_by i (emptied {P = P} {X = A} {T = T} xs) ≡ (b + 1, Gone) ∷ emptied (drop (i + 1) xs) ++ emptied (take i xs)
  brought {P} {T} b x xs i e = ap (turned_by i) (parted xs i e) ∙ (ap (λ n. turned_by n (emptied {P = P} {X = A} {T = T} (take i xs) ++ (b + 1, Gone) ∷ emptied (drop (i + 1) xs))) (sym (count xs i e)) ∙ turned_whole (emptied (take i xs)) ((b + 1, Gone) ∷ emptied (drop (i + 1) xs))) where
    parted : (xs : List (ℕ × A)) (i : ℕ) → get_elem? xs i ≡ some (b, x) → emptied {P = P} {X = A} {T = T} xs ≡ emptied (take i xs) ++ (b + 1, Gone) ∷ emptied (drop (i + 1) xs)
    parted [] i e = absurd (some-ne-none (b, x) (sym e))
    parted (p ∷ xs) zero e = ap (λ (z : ℕ × A). (z.0 + 1, Gone) ∷ emptied {P = P} {X = A} {T = T} xs) (some-injective p (b, x) e)
    parted (p ∷ xs) (suc i) e = ap (λ l. (p.0 + 1, Gone) ∷ l) (parted xs i e) ∙ ap (λ n. (p.0 + 1, Gone) ∷ emptied {P = P} {X = A} {T = T} (take i xs) ++ (b + 1, Gone) ∷ emptied (drop n (p ∷ xs))) (let q : suc (i + 1) ≡ suc i + 1 = omega arith in q)

    count : (xs : List (ℕ × A)) (i : ℕ) → get_elem? xs i ≡ some (b, x) → length (emptied {P = P} {X = A} {T = T} (take i xs)) ≡ i
    count [] i e = absurd (some-ne-none (b, x) (sym e))
    count (p ∷ xs) zero e = refl
    count (p ∷ xs) (suc i) e = ap suc (count xs i e)

  emptied_more : {P T : Type 0} (xs ys : List (ℕ × A)) → emptied {P = P} {X = A} {T = T} (xs ++ ys) ≡ emptied xs ++ emptied ys
  emptied_more [] ys = refl
  emptied_more (p ∷ xs) ys = ap (λ l. (p.0 + 1, Gone) ∷ l) (emptied_more xs ys)

  emptied_length : (P T : Type 0) (xs : List (ℕ × A)) → length (emptied {P = P} {X = A} {T = T} xs) ≡ length xs
  emptied_length P T [] = refl
  emptied_length P T (p ∷ xs) = ap suc (emptied_length P T xs)

  -- after it is given back they turn until they stand as before
  pub turned_back : {P T : Type 0} (early late : List (ℕ × A)) (n : ℕ) → n ≡ length late → turned_by n (emptied {P = P} {X = A} {T = T} late ++ emptied early) ≡ emptied (early ++ late)
  turned_back {P} {T} early late n e = ap (λ k. turned_by k (emptied {P = P} {X = A} {T = T} late ++ emptied early)) (e ∙ sym (emptied_length P T late)) ∙ (turned_whole (emptied late) (emptied early) ∙ sym (emptied_more early late))
