-- Lines of a log with their numbers, and where they stand.
use Rattle.std.proofs.Common.{◌≡◌, ℕ, zero, suc, ◌+◌, ◌<◌, Bool, true, false, cond, List, [], ◌∷◌, ◌++◌, length, take, Option, Some, None, refl, sym, ap, ◌∙◌, inl, inr, ◌⊎◌, arith, slice_get}
use Rattle.std.specs.Prelude.{find}
use Rattle.std.specs.Option.{option_or}
use Rattle.std.proofs.lemmas.Bool.{true≢false}
use Rattle.drm_lists.proofs.Searches.{find_first}
use Rattle.drm_trace.specs.declared.event.Event.{Event as Line}
use Rattle.drm_trace.specs.declared.event.What.{What}
use Rattle.drm_rules.specs.Lines.{first_in, last_in}
use Rattle.drm_rules.specs.Rows.{is_in, item_in}
use Rattle.drm_conform_laws.specs.RunLogs.{numbered_from}

-- ---- numbers

-- the line of this number
abbrev pub line_at : ℕ → ℕ × What → Line
line_at n t = record { line = n; time = 0; job = t.0; what = t.1 }

pub numbered_at : (n i : ℕ) (ts : List (ℕ × What)) (t : ℕ × What) → slice_get ts i ≡ Some t → slice_get (numbered_from n ts) i ≡ Some (line_at (n + i) t)
numbered_at n i [] t at = absurd (cc (at))
numbered_at n zero (x ∷ ts) t at =
    let same : x ≡ t = cc (at) in
    let number : n ≡ n + 0 = omega arith in ap (λ (y : ℕ × What). Some (line_at n y)) same ∙ ap (λ (m : ℕ). Some (line_at m t)) number
numbered_at n (suc i) (x ∷ ts) t at =
    let number : (n + 1) + i ≡ n + suc i = omega arith in numbered_at (n + 1) i ts t at ∙ ap (λ (m : ℕ). Some (line_at m t)) number

pub numbered_from_at : (n i : ℕ) (ts : List (ℕ × What)) (e : Line) → slice_get (numbered_from n ts) i ≡ Some e
    → (t : ℕ × What) × (slice_get ts i ≡ Some t) × (e ≡ line_at (n + i) t)
numbered_from_at n i [] e at = absurd (cc (at))
numbered_from_at n zero (x ∷ ts) e at =
    let same : line_at n x ≡ e = cc (at) in
    let number : n ≡ n + 0 = omega arith in
    (x, refl, sym same ∙ ap (λ (m : ℕ). line_at m x) number)
numbered_from_at n (suc i) (x ∷ ts) e at =
    let number : (n + 1) + i ≡ n + suc i = omega arith in
    let found = numbered_from_at (n + 1) i ts e at in
    (found.0, found.1, found.2 ∙ ap (λ (m : ℕ). line_at m found.0) number)

-- ---- places in lists that are put together

pub left_at : {X : Type 0} (xs ys : List X) (i : ℕ) (x : X) → slice_get xs i ≡ Some x → slice_get (xs ++ ys) i ≡ Some x
left_at [] ys i x at = absurd (cc (at))
left_at (z ∷ xs) ys zero x at = at
left_at (z ∷ xs) ys (suc i) x at = left_at xs ys i x at

pub either_at : {X : Type 0} (xs ys : List X) (i : ℕ) (x : X) → slice_get (xs ++ ys) i ≡ Some x
    → (slice_get xs i ≡ Some x) ⊎ ((k : ℕ) × (i ≡ length xs + k) × (slice_get ys k ≡ Some x))
either_at [] ys i x at = inr (i, omega arith, at)
either_at (z ∷ xs) ys zero x at = inl at
either_at (z ∷ xs) ys (suc i) x at = elim (either_at xs ys i x at) [
  | inl here ↦ inl here
  | inr there ↦ inr (there.0, omega (arith, there.1), there.2)
]

pub take_right : {X : Type 0} (xs ys : List X) (k : ℕ) → take (length xs + k) (xs ++ ys) ≡ xs ++ take k ys
take_right [] ys k = let number : 0 + k ≡ k = omega arith in ap (λ (n : ℕ). take n ys) number
take_right (x ∷ xs) ys k =
    let number : length (x ∷ xs) + k ≡ suc (length xs + k) = omega arith in
    ap (λ (n : ℕ). take n (x ∷ (xs ++ ys))) number ∙ ap (λ zs. x ∷ zs) (take_right xs ys k)

pub taken_at : {X : Type 0} (xs : List X) (n i : ℕ) (x : X) → slice_get (take n xs) i ≡ Some x → (i < n) × (slice_get xs i ≡ Some x)
taken_at [] zero i x at = absurd (cc (at))
taken_at [] (suc n) i x at = absurd (cc (at))
taken_at (z ∷ xs) zero i x at = absurd (cc (at))
taken_at (z ∷ xs) (suc n) zero x at = (omega arith, at)
taken_at (z ∷ xs) (suc n) (suc i) x at = let found = taken_at xs n i x at in (omega (arith, found.0), found.1)

-- ---- the first and the last of a lane

fails_test : {X : Type 0} (p : X → Bool) (z x : X) (xs : List X) (here : Bool) → p z ≡ here → cond here (Some z) (find p xs) ≡ None → (i : ℕ) → slice_get (z ∷ xs) i ≡ Some x
    → (find p xs ≡ None → (k : ℕ) → slice_get xs k ≡ Some x → p x ≡ false) → p x ≡ false
fails_test p z x xs true is none i at later = absurd (cc (none))
fails_test p z x xs false is none zero at later = let same : z ≡ x = cc (at) in ap p (sym same) ∙ is
fails_test p z x xs false is none (suc i) at later = later none i at

pub find_fails : {X : Type 0} (p : X → Bool) (xs : List X) (i : ℕ) (x : X) → find p xs ≡ None → slice_get xs i ≡ Some x → p x ≡ false
find_fails p [] i x none at = absurd (cc (at))
find_fails p (z ∷ xs) i x none at = fails_test p z x xs (p z) refl none i at (λ nothing k at_k. find_fails p xs k x nothing at_k)

pub compared : (b i : ℕ) → (b < i) ⊎ ((b ≡ i) ⊎ (i < b))
compared zero zero = inr (inl refl)
compared zero (suc i) = inl (omega arith)
compared (suc b) zero = inr (inr (omega arith))
compared (suc b) (suc i) = elim (compared b i) [
  | inl less ↦ inl (omega (arith, less))
  | inr rest ↦ elim rest [
    | inl same ↦ inr (inl (ap suc same))
    | inr more ↦ inr (inr (omega (arith, more)))
  ]
]

-- a line is the first of its lane where none before it is of the lane
first_place : (lane : Line → Option ℕ) (log : List Line) (k i b : ℕ) (e x : Line) → slice_get log i ≡ Some e → is_in (lane e) k ≡ true
    → ((a : ℕ) (y : Line) → a < i → slice_get log a ≡ Some y → is_in (lane y) k ≡ true → ⊥)
    → slice_get log b ≡ Some x → is_in (lane x) k ≡ true → ((a : ℕ) (y : Line) → a < b → slice_get log a ≡ Some y → is_in (lane y) k ≡ false) → Some x ≡ Some e
first_place lane log k i b e x at of_lane none_before at_b passes before = elim (compared b i) [
  | inl less ↦ absurd (none_before b x less at_b passes)
  | inr rest ↦ elim rest [
    | inl same ↦ sym at_b ∙ ap (slice_get log) same ∙ at
    | inr more ↦ absurd (true≢false (sym of_lane ∙ before i e more at))
  ]
]

pub is_first : (lane : Line → Option ℕ) (log : List Line) (k i : ℕ) (e : Line) → slice_get log i ≡ Some e → is_in (lane e) k ≡ true
    → ((b : ℕ) (x : Line) → b < i → slice_get log b ≡ Some x → is_in (lane x) k ≡ true → ⊥) → first_in lane log k ≡ Some e
is_first lane log k i e at of_lane none_before = by_find (first_in lane log k) refl
  where
    by_find : (o : Option Line) → first_in lane log k ≡ o → o ≡ Some e
    by_find None none = absurd (true≢false (sym of_lane ∙ find_fails (λ (x : Line). is_in (lane x) k) log i e none at))
    by_find (Some x) some =
        let found = find_first (λ (y : Line). is_in (lane y) k) log x some in
        first_place lane log k i found.0 e x at of_lane none_before found.1 found.2 found.3

-- the last of a lane stands somewhere and is of the lane
abbrev StandsIn : (Line → Option ℕ) → List Line → ℕ → Line → Type 0
StandsIn lane log k e = (i : ℕ) × (slice_get log i ≡ Some e) × (is_in (lane e) k ≡ true)

last_test : (lane : Line → Option ℕ) (x e : Line) (log : List Line) (k : ℕ) (here : Bool) → is_in (lane x) k ≡ here → cond here (Some x) None ≡ Some e → StandsIn lane (x ∷ log) k e
last_test lane x e log k true of_lane found = let same : x ≡ e = cc (found) in (zero, found, ap (λ (y : Line). is_in (lane y) k) (sym same) ∙ of_lane)
last_test lane x e log k false of_lane found = absurd (cc (found))

last_or : (lane : Line → Option ℕ) (x e : Line) (log : List Line) (k : ℕ) (o : Option Line) → option_or o (item_in (lane x) x k) ≡ Some e
    → (o ≡ Some e → StandsIn lane log k e) → StandsIn lane (x ∷ log) k e
last_or lane x e log k None found later = last_test lane x e log k (is_in (lane x) k) refl found
last_or lane x e log k (Some y) found later = let there = later found in (suc there.0, there.1, there.2)

pub last_at : (lane : Line → Option ℕ) (log : List Line) (k : ℕ) (e : Line) → last_in lane log k ≡ Some e → (i : ℕ) × (slice_get log i ≡ Some e) × (is_in (lane e) k ≡ true)
last_at lane [] k e is = absurd (cc (is))
last_at lane (x ∷ log) k e is = last_or lane x e log k (last_in lane log k) is (λ so. last_at lane log k e so)
