-- Numbers that were read are in their range.
use Rattle.std.proofs.Common.{◌≡◌, ℕ, ◌≤◌, Bool, true, false, cond, List, [], ◌∷◌, Some, None, Option, refl, arith}
use Rattle.std.specs.Prelude.{IfSome, ◌&&◌}
use Rattle.std.specs.Char.{is_ascii_digit}
use Rattle.std.proofs.lemmas.Bool.{leb-true}
use Rattle.drm_text.specs.Number.{with_digit, with_digits, digits_up_to, number_up_to, has_one_form}

abbrev IsSmall : ℕ → Option ℕ → Type 0
IsSmall most o = IfSome o (λ n. n ≤ most)

small_if : (most n : ℕ) (a b : Bool) → (b ≡ true → n ≤ most) → IsSmall most (cond (a && b) (Some n) None)
small_if most n true true h = h refl
small_if most n true false h = tt
small_if most n false b h = tt

small_digits : (most : ℕ) (o : Option ℕ) (word : List ℕ) → IsSmall most o → IsSmall most (with_digits most o word)
small_digits most None word h = tt
small_digits most (Some value) [] h = h
small_digits most (Some value) (byte ∷ word) h =
    small_digits most (with_digit most value byte) word (small_if most _ (is_ascii_digit byte) _ (λ e. leb-true _ _ e))

pub digits_are_small : (most : ℕ) (word : List ℕ) → IfSome (digits_up_to most word) (λ n. n ≤ most)
digits_are_small most word = small_digits most (Some 0) word (omega arith)

some_small : (most n : ℕ) (o : Option ℕ) → IsSmall most o → o ≡ Some n → n ≤ most
some_small most n None h e = absurd (cc)
some_small most n (Some m) h e = let same : m ≡ n = cc in omega arith

form_small : (most : ℕ) (b : Bool) (o : Option ℕ) → IsSmall most o → IsSmall most (cond b o None)
form_small most true o h = h
form_small most false o h = tt

pub number_small : (most n : ℕ) (word : List ℕ) → number_up_to most word ≡ Some n → n ≤ most
number_small most n word e =
    some_small most n (number_up_to most word) (form_small most (has_one_form word) (digits_up_to most word) (digits_are_small most word)) e

no_digits : (b : Bool) (o : Option ℕ) → o ≡ None → cond b o None ≡ None
no_digits true o is = is
no_digits false o is = refl

-- a word that is not of digits, or whose digits are too many, is no number
pub no_number : (most : ℕ) (word : List ℕ) → digits_up_to most word ≡ None → number_up_to most word ≡ None
no_number most word is = no_digits (has_one_form word) (digits_up_to most word) is

pub numbers_are_small : (most : ℕ) (word : List ℕ) → IfSome (number_up_to most word) (λ n. n ≤ most)
numbers_are_small most word = form_small most (has_one_form word) (digits_up_to most word) (digits_are_small most word)
