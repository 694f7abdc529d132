-- A word spells a number exactly where it is what is written for it.
use Rattle.std.proofs.Common.{◌≡◌, ℕ, ◌+◌, ◌-◌, ◌*◌, ◌^◌, ◌<◌, ◌≤◌, Bool, true, false, cond, List, [], ◌∷◌, length, get_or, Some, None, Option, refl, arith, eq-eqb}
use Rattle.std.specs.Prelude.{◌&&◌, nat_le}
use Rattle.std.specs.Char.{is_ascii_digit, digit_value}
use Rattle.std.specs.Fmt.{decimal}
use Rattle.std.specs.Str.Parse.{AllDigits, digits_value_after}
use Rattle.std.proofs.lemmas.Bool.{and_parts, leb-true}
use Rattle.std.proofs.lemmas.Fmt.{decimal-digits_value}
use Rattle.std.proofs.lemmas.Str.{digit_value_digit}
use Rattle.std.proofs.lemmas.Str.Parse.{numerals_by_value, tells_digits}
use Rattle.drm_text.specs.Number.{with_digits, digits_up_to, number_up_to, has_one_form}

some_is : (a b : ℕ) → Some a ≡ Some b → a ≡ b
some_is a b e = cc

digit_is : (b : ℕ) → is_ascii_digit b ≡ true → (digit_value b < 10) × (digit_value b ≡ b - 48)
digit_is b e =
    let p = and_parts _ _ e in
    let low : 48 ≤ b = leb-true _ _ p.0 in
    let high : b ≤ 57 = leb-true _ _ p.1 in
    let v : digit_value b + 48 ≡ b = digit_value_digit b (low, high) in
    (omega arith, omega arith)

abbrev Means : ℕ → ℕ → List ℕ → Type 0
Means v n word = AllDigits 10 word × (digits_value_after 10 v word ≡ n)

step_means : (most v n b : ℕ) (word : List ℕ) → (with_digits most (Some (v * 10 + (b - 48))) word ≡ Some n → Means (v * 10 + (b - 48)) n word)
    → (t : Bool) → (is_ascii_digit b && nat_le (v * 10 + (b - 48)) most) ≡ t → with_digits most (cond t (Some (v * 10 + (b - 48))) None) word ≡ Some n → Means v n (b ∷ word)
step_means most v n b word again true is e =
    let d = digit_is b (and_parts _ _ is).0 in
    let more = again e in
    ((d.0, more.0), rw d.1 more.1)
step_means most v n b word again false is e = absurd cc

pub digits_mean : (most v n : ℕ) (word : List ℕ) → with_digits most (Some v) word ≡ Some n → Means v n word
digits_mean most v n [] e = (tt, some_is v n e)
digits_mean most v n (b ∷ word) e = step_means most v n b word (digits_mean most (v * 10 + (b - 48)) n word) _ refl e

one_form : (word : List ℕ) → has_one_form word ≡ true → (0 < length word) × (get_or word 0 0 ≡ 48 → length word ≡ 1)
one_form [] e = absurd cc
one_form (b ∷ []) e = (omega arith, λ _. refl)
one_form (b ∷ c ∷ word) e = (omega arith, λ is. let never : false ≡ true = rw (eq-eqb b 48 is) at e in absurd (cc (never)))

form_of : (b : Bool) (o : Option ℕ) (n : ℕ) → cond b o None ≡ Some n → (b ≡ true) × (o ≡ Some n)
form_of true o n e = (refl, e)
form_of false o n e = absurd cc

-- a word that is read is what is written for the number
pub number_takes : (most n : ℕ) (word : List ℕ) → n < 2 ^ 64 → number_up_to most word ≡ Some n → decimal n ≡ word
number_takes most n word small e =
    let f = form_of (has_one_form word) (digits_up_to most word) n e in
    let d = digits_mean most 0 n word f.1 in
    let g = one_form word f.0 in
    rw (← d.1) (decimal-digits_value (numerals_by_value (AllDigits 10) tells_digits) word d.0 g.0 g.1 (rw d.1 small))
