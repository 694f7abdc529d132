-- Numbers that are written two digits at a time.
use Rattle.std.proofs.Common.{◌≡◌, ◌∙◌, ℕ, zero, suc, ◌+◌, ◌-◌, ◌*◌, ◌/◌, ◌%◌, ◌<◌, ◌≤◌, Bool, true, ◌&&◌, T, eqb, List, [], ◌∷◌, ◌++◌, get_or, inl, inr, arith, ap, append_assoc, sym, eq-zero-or-pos, eqb→eq}
use Rattle.std.specs.Fmt.{decimal}
use lib.Ieee.Fits.{and_l, and_r}
use Rattle.drm_svg.specs.declared.words.TheConstants.{PAIRS}
use Rattle.drm_svg.proofs.Digits.{four_digits, one_digit, three_digits, two_digits}

-- the two digits of each number below this one stand in their place
abbrev are_pairs : ℕ → Bool
are_pairs zero = true
are_pairs (suc p) = (eqb (get_or PAIRS (p * 2) 0) (48 + p / 10) && eqb (get_or PAIRS (p * 2 + 1) 0) (48 + p % 10)) && are_pairs p

below : (n p : ℕ) → T (are_pairs n) → p < n → (get_or PAIRS (p * 2) 0 ≡ 48 + p / 10) × (get_or PAIRS (p * 2 + 1) 0 ≡ 48 + p % 10)
below zero p are lt = absurd (omega (arith, lt))
below (suc n) p are lt =
    elim (eq-zero-or-pos (n - p)) [
      | inl last ↦
          let here : p ≡ n = omega (arith, last, lt) in
          let first = and_l _ (are_pairs n) are in
          rw here (eqb→eq _ _ (and_l _ _ first), eqb→eq _ _ (and_r _ _ first))
      | inr more ↦ below n p (and_r _ (are_pairs n) are) (omega (arith, more))
    ]

pub pair_at : (p : ℕ) → p < 100 → (get_or PAIRS (p * 2) 0 ≡ 48 + p / 10) × (get_or PAIRS (p * 2 + 1) 0 ≡ 48 + p % 10)
pair_at p small = below 100 p tt small

-- a number of two digits
pub pair_alone : (n : ℕ) → 10 ≤ n → n < 100 → (48 + n / 10) ∷ (48 + n % 10) ∷ [] ≡ decimal n
pair_alone n least most = sym (two_digits n least most)

-- one of three or four, whose last two stand behind its hundreds
pub behind_one : (n : ℕ) (before between behind : List ℕ) → 100 ≤ n → n < 1000 → between ≡ before ++ decimal (n / 100)
    → behind ≡ between ++ (48 + n % 100 / 10) ∷ (48 + n % 100 % 10) ∷ [] → behind ≡ before ++ decimal n
behind_one n before between behind least most first last =
    let rest = (48 + n % 100 / 10) ∷ (48 + n % 100 % 10) ∷ [] in
    last
    ∙ ap (λ (t : List ℕ). t ++ rest) (first ∙ ap (λ (t : List ℕ). before ++ t) (one_digit (n / 100) (omega (arith, most))))
    ∙ append_assoc before ((48 + n / 100) ∷ []) rest
    ∙ ap (λ (t : List ℕ). before ++ t) (sym (three_digits n least most))

pub behind_pair : (n : ℕ) (before between behind : List ℕ) → 1000 ≤ n → n < 10000 → between ≡ before ++ (48 + n / 100 / 10) ∷ (48 + n / 100 % 10) ∷ []
    → behind ≡ between ++ (48 + n % 100 / 10) ∷ (48 + n % 100 % 10) ∷ [] → behind ≡ before ++ decimal n
behind_pair n before between behind least most first last =
    let tens = (48 + n / 100 / 10) ∷ (48 + n / 100 % 10) ∷ [] in
    let rest = (48 + n % 100 / 10) ∷ (48 + n % 100 % 10) ∷ [] in
    last
    ∙ ap (λ (t : List ℕ). t ++ rest) first
    ∙ append_assoc before tens rest
    ∙ ap (λ (t : List ℕ). before ++ t) (sym (four_digits n least most))
