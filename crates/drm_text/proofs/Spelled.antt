-- Which bytes spelled words have.
use Rattle.std.proofs.Common.{◌≡◌, ℕ, ◌+◌, ◌/◌, ◌%◌, ◌^◌, ◌<◌, ◌==◌, Bool, true, false, not, List, [], ◌∷◌, ◌++◌, refl, sym, ap, ◌∙◌, arith, le-leb}
use Rattle.std.specs.Prelude.{◌&&◌, nat_le}
use Rattle.std.specs.Fmt.{decimal}
use Rattle.std.specs.List.{AllByRecursion, join_with_byte, list_all}
use Rattle.std.proofs.lemmas.Bool.{and_parts}
use Rattle.std.proofs.lemmas.Bool.Decides.{nat_tests}
use Rattle.std.proofs.lemmas.Fmt.{decimal_by_steps}
use Rattle.drm_text.specs.Hexadecimal.{digit_of, text_of_byte, text_of_bytes}
use Rattle.drm_text.specs.Laws.{IsFree}

-- whether it is a byte that a word may have: printable, and no space
abbrev pub is_graphic : ℕ → Bool
is_graphic byte = nat_le 33 byte && nat_le byte 126

abbrev pub is_no_colon : ℕ → Bool
is_no_colon byte = not (byte == 58)

both : (a b : Bool) → a ≡ true → b ≡ true → (a && b) ≡ true
both a b is also = rw (is, also) refl

pub passes-append : (p : ℕ → Bool) (front back : List ℕ) → list_all p front ≡ true → list_all p back ≡ true → list_all p (front ++ back) ≡ true
passes-append p [] back is also = also
passes-append p (byte ∷ front) back is also =
    let parts = and_parts _ _ is in both (p byte) (list_all p (front ++ back)) parts.0 (passes-append p front back parts.1 also)

pub passes-decimal : (p : ℕ → Bool) → ((digit : ℕ) → digit < 10 → p (48 + digit) ≡ true) → (n : ℕ) → n < 2 ^ 64 → list_all p (decimal n) ≡ true
passes-decimal p digits n small =
    decimal_by_steps (λ n word. list_all p word ≡ true)
    (λ n lt. both (p (48 + n)) true (digits n lt) refl)
    (λ n word ten front. passes-append p word ((48 + n % 10) ∷ []) front (both (p (48 + n % 10)) true (digits (n % 10) (omega arith)) refl))
    n small

pub passes-byte : (p : ℕ → Bool) → ((digit : ℕ) → digit < 16 → p (digit_of digit) ≡ true) → (byte : ℕ) → byte < 256 → list_all p (text_of_byte byte) ≡ true
passes-byte p digits byte small =
    both (p (digit_of (byte / 16))) _ (digits (byte / 16) (omega arith)) (both (p (digit_of (byte % 16))) true (digits (byte % 16) (omega arith)) refl)

pub passes-bytes : (p : ℕ → Bool) → ((digit : ℕ) → digit < 16 → p (digit_of digit) ≡ true) → (bytes : List ℕ) → AllByRecursion (λ byte. byte < 256) bytes
    → list_all p (text_of_bytes bytes) ≡ true
passes-bytes p digits [] small = refl
passes-bytes p digits (byte ∷ bytes) small =
    passes-append p (text_of_byte byte) (text_of_bytes bytes) (passes-byte p digits byte small.0) (passes-bytes p digits bytes small.1)

-- digits are graphic, and no colon
graphic_digit : (digit : ℕ) → digit < 10 → is_graphic (48 + digit) ≡ true
graphic_digit digit small = rw (le-leb 33 (48 + digit) (omega arith), le-leb (48 + digit) 126 (omega arith)) refl

digit_no_colon : (digit : ℕ) → digit < 10 → is_no_colon (48 + digit) ≡ true
digit_no_colon digit small = grind (arith, nat_tests)

graphic_hexadecimal : (digit : ℕ) → digit < 16 → is_graphic (digit_of digit) ≡ true
graphic_hexadecimal digit small = grind (arith, nat_tests)

hexadecimal_no_colon : (digit : ℕ) → digit < 16 → is_no_colon (digit_of digit) ≡ true
hexadecimal_no_colon digit small = grind (arith, nat_tests)

pub decimal_graphic : (n : ℕ) → n < 2 ^ 64 → list_all is_graphic (decimal n) ≡ true
decimal_graphic = passes-decimal is_graphic graphic_digit

pub decimal_no_colon : (n : ℕ) → n < 2 ^ 64 → list_all is_no_colon (decimal n) ≡ true
decimal_no_colon = passes-decimal is_no_colon digit_no_colon

pub byte_graphic : (byte : ℕ) → byte < 256 → list_all is_graphic (text_of_byte byte) ≡ true
byte_graphic = passes-byte is_graphic graphic_hexadecimal

pub byte_no_colon : (byte : ℕ) → byte < 256 → list_all is_no_colon (text_of_byte byte) ≡ true
byte_no_colon = passes-byte is_no_colon hexadecimal_no_colon

pub bytes_graphic : (bytes : List ℕ) → AllByRecursion (λ byte. byte < 256) bytes → list_all is_graphic (text_of_bytes bytes) ≡ true
bytes_graphic = passes-bytes is_graphic graphic_hexadecimal

pub passes-joined : (p : ℕ → Bool) (separator : ℕ) → p separator ≡ true → (words : List (List ℕ)) → AllByRecursion (λ word. list_all p word ≡ true) words
    → list_all p (join_with_byte separator words) ≡ true
passes-joined p separator is [] all = refl
passes-joined p separator is (word ∷ []) all = all.0
passes-joined p separator is (word ∷ next ∷ rest) all =
    passes-append p word (separator ∷ join_with_byte separator (next ∷ rest)) all.0 (both (p separator) _ is (passes-joined p separator is (next ∷ rest) all.1))

-- a test that the separator fails keeps it out
pub free_from : (p : ℕ → Bool) (separator : ℕ) → p separator ≡ false → (word : List ℕ) → list_all p word ≡ true → IsFree separator word
free_from p separator fails [] is = tt
free_from p separator fails (byte ∷ word) is =
    let parts = and_parts _ _ is in
    (λ same. let never : false ≡ true = sym fails ∙ ap p (sym same) ∙ parts.0 in absurd (cc (never)), free_from p separator fails word parts.1)

pub all_free : (p : ℕ → Bool) (separator : ℕ) → p separator ≡ false → (words : List (List ℕ)) → AllByRecursion (λ word. list_all p word ≡ true) words
    → AllByRecursion (IsFree separator) words
all_free p separator fails [] all = tt
all_free p separator fails (word ∷ words) all = (free_from p separator fails word all.0, all_free p separator fails words all.1)
