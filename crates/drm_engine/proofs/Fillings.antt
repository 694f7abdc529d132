-- Words that are filled with numbers, from one number to the next.
use Rattle.memchr.specs.Find.{IsFirstByte, is_byte}
use Rattle.std.proofs.Common.{◌≡◌, Some, None, slice_index, ◌<◌, ◌≢◌, ℕ, zero, suc, ◌+◌, Bool, true, false, List, [], ◌∷◌, ◌++◌, length, drop, take, get_or, flat_map, refl, sym, ap, ◌∙◌, append_assoc, arith}
use Rattle.std.specs.Prelude.{◌==◌}
use Rattle.std.specs.Fmt.{decimal}
use Rattle.std.proofs.lemmas.Bool.{eq-eqb, eqb-true}
use Rattle.drm_engine.specs.Filling.{filled}

is_false : (b : Bool) → (b ≡ true → ⊥) → b ≡ false
is_false true never = absurd (never refl)
is_false false never = refl

-- a byte that stands for a number
marked : (byte : ℕ) (rest numbers : List ℕ) → byte ≡ 37 → filled (byte ∷ rest) numbers ≡ flat_map decimal (take 1 numbers) ++ filled rest (drop 1 numbers)
unfolding filled
marked byte rest numbers is = rw is refl

-- and one that stands for itself
plain : (byte : ℕ) (rest numbers : List ℕ) → byte ≢ 37 → filled (byte ∷ rest) numbers ≡ byte ∷ filled rest numbers
unfolding filled
plain byte rest numbers other =
    let is : (byte == 37) ≡ false = is_false (byte == 37) (λ same. other (eqb-true byte 37 same)) in
    rw is refl

nothing : (numbers : List ℕ) → filled [] numbers ≡ []
unfolding filled
nothing numbers = refl

-- words that hold no number
pub all_plain : (words numbers : List ℕ) → ((k : ℕ) → k < length words → get_or words k 0 ≢ 37) → filled words numbers ≡ words
all_plain [] numbers none = nothing numbers
all_plain (byte ∷ rest) numbers none =
    plain byte rest numbers (none 0 (omega arith)) ∙ ap (λ (t : List ℕ). byte ∷ t) (all_plain rest numbers (λ k less. none (suc k) (omega (arith, less))))

-- words up to the first number
pub up_to_number : (words numbers : List ℕ) (place : ℕ) → place < length words → get_or words place 0 ≡ 37 → ((k : ℕ) → k < place → get_or words k 0 ≢ 37)
    → filled words numbers ≡ take place words ++ (flat_map decimal (take 1 numbers) ++ filled (drop (suc place) words) (drop 1 numbers))
up_to_number [] numbers place within is none = absurd (omega (arith, within))
up_to_number (byte ∷ rest) numbers zero within is none = marked byte rest numbers is
up_to_number (byte ∷ rest) numbers (suc place) within is none =
    plain byte rest numbers (none 0 (omega arith))
    ∙ ap (λ (t : List ℕ). byte ∷ t) (up_to_number rest numbers place (omega (arith, within)) is (λ k less. none (suc k) (omega (arith, less))))

-- what is said, and the words and numbers that are left of all
abbrev pub IsFilled : List ℕ → List ℕ → List ℕ → List ℕ → List ℕ → Type 0
IsFilled words numbers left said rest = said ++ filled rest left ≡ filled words numbers

-- the words before a number, and what is behind them
pub words_next : (words numbers left said rest : List ℕ) (place : ℕ) → IsFilled words numbers left said rest → IsFirstByte (is_byte 37) rest (Some place)
    → (said ++ take place rest) ++ (flat_map decimal (take 1 left) ++ filled (drop (place + 1) rest) (drop 1 left)) ≡ filled words numbers
words_next words numbers left said rest place is found =
    let one : suc place ≡ place + 1 = omega arith in
    let next = up_to_number rest left place found.0.high (eqb-true (slice_index rest place) 37 found.1) (λ k less same. found.0.before k (omega arith) less (eq-eqb (slice_index rest k) 37 same)) in
    append_assoc said (take place rest) (flat_map decimal (take 1 left) ++ filled (drop (place + 1) rest) (drop 1 left))
    ∙ (ap (λ (n : ℕ). said ++ (take place rest ++ (flat_map decimal (take 1 left) ++ filled (drop n rest) (drop 1 left)))) (sym one)
    ∙ (ap (λ (t : List ℕ). said ++ t) (sym next) ∙ is))

-- and that number
pub number_next : (words numbers left said rest : List ℕ) (place : ℕ) → IsFilled words numbers left said rest → IsFirstByte (is_byte 37) rest (Some place)
    → IsFilled words numbers (drop 1 left) ((said ++ take place rest) ++ flat_map decimal (take 1 left)) (drop (place + 1) rest)
number_next words numbers left said rest place is found =
    append_assoc (said ++ take place rest) (flat_map decimal (take 1 left)) (filled (drop (place + 1) rest) (drop 1 left))
    ∙ words_next words numbers left said rest place is found

-- no number is left
pub all_filled : (words numbers left said rest : List ℕ) → IsFilled words numbers left said rest → IsFirstByte (is_byte 37) rest None → said ++ rest ≡ filled words numbers
all_filled words numbers left said rest is none =
    ap (λ (t : List ℕ). said ++ t) (sym (all_plain rest left (λ k less same. none k (omega arith) less (eq-eqb (slice_index rest k) 37 same)))) ∙ is
