-- How short numbers are written, and how long they are.
use Rattle.std.proofs.Common.{◌≡◌, ℕ, ◌+◌, ◌<◌, ◌≤◌, ◌/◌, ◌%◌, List, [], ◌∷◌, ◌++◌, length, refl, arith, ap, ◌∙◌, length-append}
use Rattle.std.specs.Fmt.{decimal}
use Rattle.std.proofs.lemmas.Fmt.{decimal_by_steps, decimal_step}

pub one_digit : (n : ℕ) → n < 10 → decimal n ≡ (48 + n) ∷ []
one_digit n small =
    decimal_by_steps (λ n word. n < 10 → word ≡ (48 + n) ∷ []) (λ n _ _. refl) (λ n word ten _ lt. absurd (omega (arith, ten, lt))) n (omega (arith, small)) small

abbrev IsShort : ℕ → List ℕ → Type 0
IsShort n word = (n < 10 → word ≡ (48 + n) ∷ []) × (10 ≤ n → n < 100 → word ≡ (48 + n / 10) ∷ (48 + n % 10) ∷ [])

last_digit : (n : ℕ) (word : List ℕ) → 10 ≤ n → IsShort (n / 10) word → IsShort n (word ++ (48 + n % 10) ∷ [])
last_digit n word ten front =
    (λ lt. absurd (omega (arith, ten, lt)), λ _ lt. let tens : word ≡ (48 + n / 10) ∷ [] = front.0 (omega (arith, lt)) in rw tens refl)

written_short : (n : ℕ) → n < 100 → IsShort n (decimal n)
written_short n small =
    decimal_by_steps IsShort (λ n lt. (λ _. refl, λ ten _. absurd (omega (arith, lt, ten)))) last_digit n (omega (arith, small))

pub two_digits : (n : ℕ) → 10 ≤ n → n < 100 → decimal n ≡ (48 + n / 10) ∷ (48 + n % 10) ∷ []
two_digits n ten small = (written_short n small).1 ten small

-- a number has one digit more than its tens
length_more : (n k : ℕ) → 10 ≤ n → n < 100000 → length (decimal (n / 10)) ≡ k → length (decimal n) ≡ k + 1
length_more n k ten few tens =
    ap length (decimal_step n ten (omega (arith, few))) ∙ length-append (decimal (n / 10)) ((48 + n % 10) ∷ []) ∙ ap (λ m. m + 1) tens

pub three_long : (n : ℕ) → 100 ≤ n → n < 1000 → length (decimal n) ≡ 3
three_long n least most =
    let tens = ap length (two_digits (n / 10) (omega (arith, least)) (omega (arith, most))) in
    length_more n 2 (omega (arith, least)) (omega (arith, most)) tens

pub four_long : (n : ℕ) → 1000 ≤ n → n < 10000 → length (decimal n) ≡ 4
four_long n least most =
    let tens = three_long (n / 10) (omega (arith, least)) (omega (arith, most)) in
    length_more n 3 (omega (arith, least)) (omega (arith, most)) tens

pub five_long : (n : ℕ) → 10000 ≤ n → n < 100000 → length (decimal n) ≡ 5
five_long n least most =
    let tens = four_long (n / 10) (omega (arith, least)) (omega (arith, most)) in
    length_more n 4 (omega (arith, least)) most tens
