-- What is written for a number is read as it.
use Rattle.std.proofs.Common.{◌≡◌, ℕ, ◌+◌, ◌-◌, ◌*◌, ◌/◌, ◌%◌, ◌^◌, ◌<◌, ◌≤◌, true, List, [], ◌∷◌, ◌++◌, length, get_or, Some, None, Option, refl, ap, ◌∙◌, arith, inl, inr, le-leb}
use Rattle.std.specs.Fmt.{decimal}
use Rattle.std.proofs.lemmas.Bool.{ne_eqb, cases_lt}
use Rattle.std.proofs.lemmas.Fmt.{decimal_by_steps, decimal_digit, decimal_nonempty, first_decimal}
use Rattle.drm_text.specs.Number.{with_digit, with_digits, digits_up_to, number_up_to, has_one_form}

with_digits-append : (most : ℕ) (read : Option ℕ) (front back : List ℕ) → with_digits most read (front ++ back) ≡ with_digits most (with_digits most read front) back
with_digits-append most None front back = refl
with_digits-append most (Some value) [] back = refl
with_digits-append most (Some value) (byte ∷ front) back = with_digits-append most (with_digit most value byte) front back

-- one more digit, where the number is not too great
one_digit : (most value digit : ℕ) → digit < 10 → value * 10 + digit ≤ most → with_digit most value (48 + digit) ≡ Some (value * 10 + digit)
one_digit most value digit small fits =
    let low : 48 ≤ 48 + digit = omega arith in
    let high : 48 + digit ≤ 57 = omega arith in
    let same : 48 + digit - 48 ≡ digit = omega arith in
    rw (le-leb 48 (48 + digit) low, le-leb (48 + digit) 57 high, same, le-leb (value * 10 + digit) most fits) refl

abbrev IsRead : ℕ → ℕ → List ℕ → Type 0
IsRead most n word = n ≤ most → digits_up_to most word ≡ Some n

last_digit : (most n : ℕ) (word : List ℕ) → 10 ≤ n → IsRead most (n / 10) word → IsRead most n (word ++ (48 + n % 10) ∷ [])
last_digit most n word ten read fits =
    let front : digits_up_to most word ≡ Some (n / 10) = read (omega arith) in
    let step : with_digit most (n / 10) (48 + n % 10) ≡ Some (n / 10 * 10 + n % 10) = one_digit most (n / 10) (n % 10) (omega arith) (omega arith) in
    let whole : n / 10 * 10 + n % 10 ≡ n = omega arith in
    with_digits-append most (Some 0) word ((48 + n % 10) ∷ [])
    ∙ ap (λ (o : Option ℕ). with_digits most o ((48 + n % 10) ∷ [])) front
    ∙ ap (λ (o : Option ℕ). with_digits most o []) step
    ∙ ap (λ (m : ℕ). Some m) whole

first_digit : (most n : ℕ) → n < 10 → IsRead most n ((48 + n) ∷ [])
first_digit most n small fits = ap (λ (o : Option ℕ). with_digits most o []) (one_digit most 0 n small (omega arith)) ∙ ap (λ (m : ℕ). Some m) (omega arith)

digits_written : (most n : ℕ) → n < 2 ^ 64 → n ≤ most → digits_up_to most (decimal n) ≡ Some n
digits_written most n small fits = decimal_by_steps (IsRead most) (first_digit most) (last_digit most) n small fits

no_zero_first : (word : List ℕ) → 0 < length word → 48 < get_or word 0 0 → has_one_form word ≡ true
no_zero_first [] some above = absurd (omega arith)
no_zero_first (digit ∷ []) some above = refl
no_zero_first (first ∷ second ∷ rest) some above = let other : first ≡ 48 → ⊥ = λ same. omega arith in rw (ne_eqb first 48 other) refl

one_form_written : (n : ℕ) → n < 2 ^ 64 → has_one_form (decimal n) ≡ true
one_form_written n small =
    elim (cases_lt 0 n) [
      | inl some ↦ no_zero_first (decimal n) (decimal_nonempty n small) (first_decimal n some small)
      | inr none ↦ let is : n ≡ 0 = omega arith in rw (is, decimal_digit 0 (omega arith)) refl
    ]

pub number_written : (most n : ℕ) → n < 2 ^ 64 → n ≤ most → number_up_to most (decimal n) ≡ Some n
number_written most n small fits = rw (one_form_written n small) (digits_written most n small fits)
