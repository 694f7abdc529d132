-- How numbers of few digits are written.
use Rattle.std.proofs.Common.{◌≡◌, ◌∙◌, ℕ, ◌+◌, ◌<◌, ◌≤◌, ◌/◌, ◌%◌, List, [], ◌∷◌, ◌++◌, ap, arith, length}
use Rattle.std.specs.Fmt.{decimal}
use Rattle.std.proofs.lemmas.Fmt.{decimal_digit, decimal_step}

pub one_digit : (n : ℕ) → n < 10 → decimal n ≡ (48 + n) ∷ []
one_digit n small = decimal_digit n small

last_digit : (n : ℕ) (tens : List ℕ) → 10 ≤ n → n < 10000 → decimal (n / 10) ≡ tens → decimal n ≡ tens ++ (48 + n % 10) ∷ []
last_digit n tens ten few is = decimal_step n ten (omega (arith, few)) ∙ ap (λ (t : List ℕ). t ++ (48 + n % 10) ∷ []) is

pub two_digits : (n : ℕ) → 10 ≤ n → n < 100 → decimal n ≡ (48 + n / 10) ∷ (48 + n % 10) ∷ []
two_digits n least most = last_digit n ((48 + n / 10) ∷ []) least (omega (arith, most)) (one_digit (n / 10) (omega (arith, most)))

-- the hundreds, and the digits behind them
hundreds : (n : ℕ) → n / 10 / 10 ≡ n / 100
hundreds n = omega arith

behind_hundreds : (n : ℕ) → (48 + n / 10 % 10) ∷ (48 + n % 10) ∷ [] ≡ (48 + n % 100 / 10) ∷ (48 + n % 100 % 10) ∷ []
behind_hundreds n =
    let tens : n / 10 % 10 ≡ n % 100 / 10 = omega arith in
    let ones : n % 10 ≡ n % 100 % 10 = omega arith in
    ap (λ (t : ℕ). (48 + t) ∷ (48 + n % 10) ∷ []) tens ∙ ap (λ (o : ℕ). (48 + n % 100 / 10) ∷ (48 + o) ∷ []) ones

three_by_tens : (n : ℕ) → 100 ≤ n → n < 1000 → decimal n ≡ (48 + n / 10 / 10) ∷ (48 + n / 10 % 10) ∷ (48 + n % 10) ∷ []
three_by_tens n least most =
    last_digit n ((48 + n / 10 / 10) ∷ (48 + n / 10 % 10) ∷ []) (omega (arith, least)) (omega (arith, most)) (two_digits (n / 10) (omega (arith, least)) (omega (arith, most)))

four_by_tens : (n : ℕ) → 1000 ≤ n → n < 10000 → decimal n ≡ (48 + n / 10 / 10 / 10) ∷ (48 + n / 10 / 10 % 10) ∷ (48 + n / 10 % 10) ∷ (48 + n % 10) ∷ []
four_by_tens n least most =
    last_digit n ((48 + n / 10 / 10 / 10) ∷ (48 + n / 10 / 10 % 10) ∷ (48 + n / 10 % 10) ∷ []) (omega (arith, least)) most (three_by_tens (n / 10) (omega (arith, least)) (omega (arith, most)))

pub three_digits : (n : ℕ) → 100 ≤ n → n < 1000 → decimal n ≡ (48 + n / 100) ∷ (48 + n % 100 / 10) ∷ (48 + n % 100 % 10) ∷ []
three_digits n least most =
    three_by_tens n least most
    ∙ ap (λ (h : ℕ). (48 + h) ∷ (48 + n / 10 % 10) ∷ (48 + n % 10) ∷ []) (hundreds n)
    ∙ ap (λ (l : List ℕ). (48 + n / 100) ∷ l) (behind_hundreds n)

pub four_digits : (n : ℕ) → 1000 ≤ n → n < 10000 → decimal n ≡ (48 + n / 100 / 10) ∷ (48 + n / 100 % 10) ∷ (48 + n % 100 / 10) ∷ (48 + n % 100 % 10) ∷ []
four_digits n least most =
    four_by_tens n least most
    ∙ ap (λ (h : ℕ). (48 + h / 10) ∷ (48 + h % 10) ∷ (48 + n / 10 % 10) ∷ (48 + n % 10) ∷ []) (hundreds n)
    ∙ ap (λ (l : List ℕ). (48 + n / 100 / 10) ∷ (48 + n / 100 % 10) ∷ l) (behind_hundreds n)

-- ---- how many they are

pub one_long : (n : ℕ) → n < 10 → length (decimal n) ≡ 1
one_long n small = ap length (one_digit n small)

pub two_long : (n : ℕ) → 10 ≤ n → n < 100 → length (decimal n) ≡ 2
two_long n least most = ap length (two_digits n least most)

pub three_long : (n : ℕ) → 100 ≤ n → n < 1000 → length (decimal n) ≡ 3
three_long n least most = ap length (three_digits n least most)

pub four_long : (n : ℕ) → 1000 ≤ n → n < 10000 → length (decimal n) ≡ 4
four_long n least most = ap length (four_digits n least most)
