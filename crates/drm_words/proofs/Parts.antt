-- Parts of sentences, one behind the other.
use Rattle.std.proofs.Common.{◌≡◌, ◌+◌, ◌<◌, ◌≤◌, ℕ, zero, suc, List, [], ◌∷◌, ◌++◌, Some, drop, length, map, refl, sym, ap, subst, ◌∙◌, append_assoc, append-nil, arith, slice_get, slice_index_or}
use Rattle.std.proofs.lemmas.Option.{slice_get-get_or}
use Rattle.std.specs.Prelude.{flat_map}
use Rattle.std.specs.List.{enumerate_from}
use Rattle.drm_lists.proofs.Places.{get_numbered, stands_within}
use Rattle.drm_core.proofs.Telling.{dropped as dropped_one, nothing_left}
use Rattle.drm_reason.specs.Said.{Part as Saying, text_of_part, text_of_parts, told_part}
use Rattle.drm_reason.specs.declared.sentence.Part.{Part}
use Rattle.drm_stream.specs.Streams.{SinkState}
use Rattle.drm_engine.specs.Replaying.{ToldFront, ToldSoFar}
use Rattle.drm_engine.proofs.Putting.{said_front, said_so_far}

abbrev pub text_from : List Part → ℕ → List ℕ
text_from parts i = text_of_parts (map told_part (drop i parts))

dropped : (parts : List Part) (i : ℕ) (part : Part) → slice_get parts i ≡ Some part → text_from parts i ≡ text_of_part (told_part part) ++ text_from parts (i + 1)
dropped [] i part at = absurd (cc (at))
dropped (p ∷ parts) zero part at = let same : p ≡ part = cc (at) in ap (λ (q : Part). text_of_part (told_part q) ++ text_of_parts (map told_part parts)) same
dropped (p ∷ parts) (suc i) part at =
    let next : suc (i + 1) ≡ suc i + 1 = omega arith in
    dropped parts i part at ∙ ap (λ (n : ℕ). text_of_part (told_part part) ++ text_from (p ∷ parts) n) next

at_place : (parts : List Part) (i : ℕ) (d : Part) (said : List ℕ) → i < length parts
    → (said ++ text_of_part (told_part (slice_index_or parts i d))) ++ text_from parts (i + 1) ≡ said ++ text_from parts i
at_place parts i d said within =
    let part = slice_index_or parts i d in
    append_assoc said (text_of_part (told_part part)) (text_from parts (i + 1))
    ∙ ap (λ (t : List ℕ). said ++ t) (sym (dropped parts i part (slice_get-get_or parts i d within)))

-- of some parts so much was told, and the rest was not
abbrev pub ToldParts : SinkState → SinkState → List ℕ → List ℕ → List Part → ℕ → Type 0
ToldParts a b start piece parts i =
    (said : List ℕ) × (said ++ text_from parts i ≡ text_of_parts (map told_part parts)) × ToldSoFar a b (start ++ said) piece

-- one part more
pub part_told : (a b c : SinkState) (start piece left : List ℕ) (parts : List Part) (i : ℕ) (d : Part) → ToldParts a b start piece parts i → i < length parts
    → ToldSoFar b c (piece ++ text_of_part (told_part (slice_index_or parts i d))) left → ToldParts a c start left parts (i + 1)
part_told a b c start piece left parts i d so within told = (
  so.0 ++ text_of_part (told_part (slice_index_or parts i d)),
  at_place parts i d so.0 within ∙ so.1,
  said_so_far a b c start so.0 (text_of_part (told_part (slice_index_or parts i d))) piece left so.2 told,
)

-- or a part that could not be told
pub part_front : (a b c : SinkState) (start piece : List ℕ) (parts : List Part) (i : ℕ) (d : Part) → ToldParts a b start piece parts i → i < length parts
    → ToldFront b c (piece ++ text_of_part (told_part (slice_index_or parts i d))) → ToldFront a c (start ++ text_of_parts (map told_part parts))
part_front a b c start piece parts i d so within told =
    said_front a b c start so.0 (text_of_part (told_part (slice_index_or parts i d))) (text_from parts (i + 1)) (text_of_parts (map told_part parts)) piece so.2 told
    (at_place parts i d so.0 within ∙ so.1)

-- behind the last
pub parts_told : (a b : SinkState) (start piece : List ℕ) (parts : List Part) (i : ℕ) → length parts ≤ i → ToldParts a b start piece parts i
    → ToldSoFar a b (start ++ text_of_parts (map told_part parts)) piece
parts_told a b start piece parts i past so =
    let all : so.0 ≡ text_of_parts (map told_part parts) =
    sym (append-nil so.0) ∙ ap (λ (ps : List Part). so.0 ++ text_of_parts (map told_part ps)) (sym (nothing_left parts i past)) ∙ so.1 in
    subst (λ (t : List ℕ). ToldSoFar a b (start ++ t) piece) all so.2

-- three parts that are told as others
pub three : (x y z a b c : Saying) → x ≡ a → y ≡ b → z ≡ c → text_of_parts (x ∷ y ∷ z ∷ []) ≡ text_of_parts (a ∷ b ∷ c ∷ [])
three x y z a b c p q r =
    ap (λ (t : Saying). text_of_parts (t ∷ y ∷ z ∷ [])) p ∙ ap (λ (t : Saying). text_of_parts (a ∷ t ∷ z ∷ [])) q ∙ ap (λ (t : Saying). text_of_parts (a ∷ b ∷ t ∷ [])) r

-- ---- so of texts of anything

abbrev pub ToldSome : {X : Type 0} → (X → List ℕ) → SinkState → SinkState → List ℕ → List ℕ → List X → ℕ → Type 0
ToldSome f a b start piece xs i = (said : List ℕ) × (said ++ flat_map f (drop i xs) ≡ flat_map f xs) × ToldSoFar a b (start ++ said) piece

here : {X : Type 0} (f : X → List ℕ) (xs : List X) (i : ℕ) (x : X) (said : List ℕ) → slice_get xs i ≡ Some x → (said ++ f x) ++ flat_map f (drop (i + 1) xs) ≡ said ++ flat_map f (drop i xs)
here f xs i x said at = append_assoc said (f x) (flat_map f (drop (i + 1) xs)) ∙ ap (λ (t : List ℕ). said ++ t) (sym (dropped_one f xs i x at))

pub one_told : {X : Type 0} (f : X → List ℕ) (a b c : SinkState) (start piece left put : List ℕ) (xs : List X) (i : ℕ) (x : X) → slice_get xs i ≡ Some x → put ≡ f x
    → ToldSome f a b start piece xs i → ToldSoFar b c (piece ++ put) left → ToldSome f a c start left xs (i + 1)
one_told f a b c start piece left put xs i x at is so told = (
  so.0 ++ f x,
  here f xs i x so.0 at ∙ so.1,
  said_so_far a b c start so.0 (f x) piece left so.2 (subst (λ (t : List ℕ). ToldSoFar b c (piece ++ t) left) is told),
)

pub one_front : {X : Type 0} (f : X → List ℕ) (a b c : SinkState) (start piece put : List ℕ) (xs : List X) (i : ℕ) (x : X) → slice_get xs i ≡ Some x → put ≡ f x
    → ToldSome f a b start piece xs i → ToldFront b c (piece ++ put) → ToldFront a c (start ++ flat_map f xs)
one_front f a b c start piece put xs i x at is so told =
    said_front a b c start so.0 (f x) (flat_map f (drop (i + 1) xs)) (flat_map f xs) piece so.2 (subst (λ (t : List ℕ). ToldFront b c (piece ++ t)) is told) (here f xs i x so.0 at ∙ so.1)

pub all_told : {X : Type 0} (f : X → List ℕ) (a b : SinkState) (start piece : List ℕ) (xs : List X) (i : ℕ) → length xs ≤ i → ToldSome f a b start piece xs i → ToldSoFar a b (start ++ flat_map f xs) piece
all_told f a b start piece xs i past so =
    let all : so.0 ≡ flat_map f xs = sym (append-nil so.0) ∙ ap (λ (ys : List _). so.0 ++ flat_map f ys) (sym (nothing_left xs i past)) ∙ so.1 in
    subst (λ (t : List ℕ). ToldSoFar a b (start ++ t) piece) all so.2

-- entities by their numbers
pub numbered_at : {X : Type 0} (xs : List X) (i : ℕ) → i < length xs → (x : X) × (slice_get (enumerate_from 0 xs) i ≡ Some (i, x))
numbered_at {X} xs i within =
    let row = stands_within xs i within in
    let same : 0 + i ≡ i = omega arith in
    (row.0, get_numbered xs 0 i row.0 row.1 ∙ ap (λ (n : ℕ). Some (n, row.0)) same)

pub length_numbered : {X : Type 0} (xs : List X) (n : ℕ) → length (enumerate_from n xs) ≡ length xs
length_numbered [] n = refl
length_numbered (x ∷ xs) n = ap suc (length_numbered xs (n + 1))
