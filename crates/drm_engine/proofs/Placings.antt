-- Words with numbers between them, placed one behind the other.
use Rattle.std.proofs.Common.{◌≡◌, ℕ, Bool, true, false, true≢false, List, [], ◌∷◌, ◌++◌, drop, take, flat_map, refl, sym, ap, ◌∙◌, append_assoc, append-nil, subst}
use Rattle.std.specs.Prelude.{◌==◌, if◌then◌else◌}
use Rattle.std.specs.Fmt.{decimal}
use Rattle.drm_stream.specs.Streams.{SinkState}
use Rattle.drm_engine.specs.Replaying.{ToldSoFar}
use Rattle.drm_engine.proofs.Pieces.{so_far_behind}
use Rattle.drm_engine.specs.Filling.{filled, is_plain}

-- no number stands in words that are plain, nor in what is behind their first byte
plain_first : (is rest : Bool) → (if is then false else rest) ≡ true → is ≡ false
plain_first true rest plain = absurd (true≢false (sym plain))
plain_first false rest plain = refl

plain_behind : (is rest : Bool) → (if is then false else rest) ≡ true → rest ≡ true
plain_behind true rest plain = absurd (true≢false (sym plain))
plain_behind false rest plain = plain

nothing : (numbers : List ℕ) → filled [] numbers ≡ []
unfolding filled
nothing numbers = refl

byte_more : (byte : ℕ) (rest numbers : List ℕ) → (byte == 37) ≡ false → filled (byte ∷ rest) numbers ≡ byte ∷ filled rest numbers
unfolding filled
byte_more byte rest numbers is = rw is refl

number_more : (rest numbers : List ℕ) → filled (37 ∷ rest) numbers ≡ flat_map decimal (take 1 numbers) ++ filled rest (drop 1 numbers)
unfolding filled
number_more rest numbers = refl

filled_plain : (words numbers : List ℕ) → is_plain words ≡ true → filled words numbers ≡ words
filled_plain [] numbers plain = nothing numbers
filled_plain (byte ∷ rest) numbers plain =
    byte_more byte rest numbers (plain_first (byte == 37) (is_plain rest) plain)
    ∙ ap (λ (t : List ℕ). byte ∷ t) (filled_plain rest numbers (plain_behind (byte == 37) (is_plain rest) plain))

up_to : (words rest numbers : List ℕ) → is_plain words ≡ true → filled (words ++ 37 ∷ rest) numbers ≡ words ++ (flat_map decimal (take 1 numbers) ++ filled rest (drop 1 numbers))
up_to [] rest numbers plain = number_more rest numbers
up_to (byte ∷ words) rest numbers plain =
    byte_more byte (words ++ 37 ∷ rest) numbers (plain_first (byte == 37) (is_plain words) plain)
    ∙ ap (λ (t : List ℕ). byte ∷ t) (up_to words rest numbers (plain_behind (byte == 37) (is_plain words) plain))

-- words, a number, and what is behind it
filled_next : (words rest left : List ℕ) (n : ℕ) → is_plain words ≡ true → filled (words ++ 37 ∷ rest) (n ∷ left) ≡ words ++ (decimal n ++ filled rest left)
filled_next words rest left n plain =
    up_to words rest (n ∷ left) plain ∙ ap (λ (t : List ℕ). words ++ (t ++ filled rest left)) (append-nil (decimal n))

-- words behind the last number
pub placed_last : (old new words left : List ℕ) → new ≡ old ++ words → is_plain words ≡ true → new ≡ old ++ filled words left
placed_last old new words left is plain = is ∙ ap (λ (t : List ℕ). old ++ t) (sym (filled_plain words left plain))

-- words and a number, and what is placed behind it
pub placed_next : (old a b new words rest left : List ℕ) (n : ℕ) → a ≡ old ++ words → b ≡ a ++ decimal n → is_plain words ≡ true → new ≡ b ++ filled rest left
    → new ≡ old ++ filled (words ++ 37 ∷ rest) (n ∷ left)
placed_next old a b new words rest left n first second plain all =
    let behind = filled rest left in
    all ∙ ap (λ (t : List ℕ). t ++ behind) (second ∙ ap (λ (t : List ℕ). t ++ decimal n) first)
    ∙ append_assoc (old ++ words) (decimal n) behind
    ∙ append_assoc old words (decimal n ++ behind)
    ∙ ap (λ (t : List ℕ). old ++ t) (sym (filled_next words rest left n plain))

-- what is placed behind a piece is told with it
pub told_placed : (a b : SinkState) (text piece more left : List ℕ) → ToldSoFar a b text piece → left ≡ piece ++ more → ToldSoFar a b (text ++ more) left
told_placed a b text piece more left told is = subst (λ (t : List ℕ). ToldSoFar a b (text ++ more) t) (sym is) (so_far_behind a b text piece more told)
