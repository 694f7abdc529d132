-- How numbers of three and of four digits are written.
use Rattle.std.proofs.Common.{◌≡◌, ◌∙◌, ℕ, ◌+◌, ◌<◌, ◌≤◌, ◌/◌, ◌%◌, List, [], ◌∷◌, ◌++◌, ap, arith}
use Rattle.std.specs.Fmt.{decimal}
use Rattle.std.proofs.lemmas.Fmt.{decimal_step}
use Rattle.drm_answer.proofs.ShortNumbers.{two_digits}

last_digit : (n : ℕ) (tens : List ℕ) → 10 ≤ n → n < 10000 → decimal (n / 10) ≡ tens → decimal n ≡ tens ++ (48 + n % 10) ∷ []
last_digit n tens ten few is = decimal_step n ten (omega (arith, few)) ∙ ap (λ (t : List ℕ). t ++ (48 + n % 10) ∷ []) is

pub three_digits : (n : ℕ) → 100 ≤ n → n < 1000 → decimal n ≡ (48 + n / 10 / 10) ∷ (48 + n / 10 % 10) ∷ (48 + n % 10) ∷ []
three_digits n least most =
    last_digit n ((48 + n / 10 / 10) ∷ (48 + n / 10 % 10) ∷ []) (omega (arith, least)) (omega (arith, most)) (two_digits (n / 10) (omega (arith, least)) (omega (arith, most)))

pub four_digits : (n : ℕ) → 1000 ≤ n → n < 10000 → decimal n ≡ (48 + n / 10 / 10 / 10) ∷ (48 + n / 10 / 10 % 10) ∷ (48 + n / 10 % 10) ∷ (48 + n % 10) ∷ []
four_digits n least most =
    last_digit n ((48 + n / 10 / 10 / 10) ∷ (48 + n / 10 / 10 % 10) ∷ (48 + n / 10 % 10) ∷ []) (omega (arith, least)) most (three_digits (n / 10) (omega (arith, least)) (omega (arith, most)))
