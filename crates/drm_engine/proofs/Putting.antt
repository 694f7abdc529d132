-- Parts of a line that are told in pieces.
use Rattle.std.proofs.Common.{◌≡◌, ◌+◌, ◌<◌, ◌≤◌, ℕ, List, [], ◌∷◌, ◌++◌, length, drop, take, take-append-drop, get_or, append_assoc, append-nil, Result, refl, sym, subst, ap, ◌∙◌}
use Rattle.std.proofs.KnownBytes.{Appends-nil}
use Rattle.std.proofs.lemmas.List.{take_all, take_more}
use Rattle.drm_stream.specs.Streams.{SinkState}
use Rattle.drm_engine.specs.Replaying.{Told, ToldFront, ToldSoFar}
use Rattle.drm_engine.proofs.Pieces.{front_longer, front_next, so_far_next, told_next}

-- words that were put behind a piece, of which nothing was written
pub told_behind_words : (a : SinkState) (start words piece : List ℕ) → piece ≡ start ++ words → ToldSoFar a a (start ++ words) piece
told_behind_words a start words piece is = (([], Appends-nil a.contents, sym is), refl)

-- no word was put yet
pub told_nothing : (a : SinkState) (start : List ℕ) → ToldSoFar a a (start ++ []) start
told_nothing a start = told_behind_words a start [] start (sym (append-nil start))

-- more behind what was said
pub said_so_far : (a b c : SinkState) (start said more piece left : List ℕ) → ToldSoFar a b (start ++ said) piece → ToldSoFar b c (piece ++ more) left → ToldSoFar a c (start ++ (said ++ more)) left
said_so_far a b c start said more piece left p q =
    subst (λ (t : List ℕ). ToldSoFar a c t left) (append_assoc start said more) (so_far_next a b c (start ++ said) more piece left p q)

pub said_more : {E : Type 0} (a b c : SinkState) (next : Result (Unit {0}) E) (start said more piece left : List ℕ) → ToldSoFar a b (start ++ said) piece → Told b c next (piece ++ more) left
    → Told a c next (start ++ (said ++ more)) left
said_more a b c next start said more piece left p q =
    subst (λ (t : List ℕ). Told a c next t left) (append_assoc start said more) (told_next a b c next (start ++ said) more piece left p q)

-- where a write failed, what was told is a front of what was to be said
pub said_front : (a b c : SinkState) (start said more rest text piece : List ℕ) → ToldSoFar a b (start ++ said) piece → ToldFront b c (piece ++ more) → (said ++ more) ++ rest ≡ text
    → ToldFront a c (start ++ text)
said_front a b c start said more rest text piece p q whole =
    subst (λ (t : List ℕ). ToldFront a c t)
    (append_assoc (start ++ said) more rest ∙ append_assoc start said (more ++ rest) ∙ ap (λ (t : List ℕ). start ++ t) (sym (append_assoc said more rest) ∙ whole))
    (front_longer a c ((start ++ said) ++ more) rest (front_next a b c (start ++ said) more piece p q))

-- one byte more of some
pub byte_told : (a b c : SinkState) (start bytes : List ℕ) (place : ℕ) (piece left : List ℕ) → place < length bytes
    → ToldSoFar a b (start ++ take place bytes) piece → ToldSoFar b c (piece ++ get_or bytes place 0 ∷ []) left → ToldSoFar a c (start ++ take (place + 1) bytes) left
byte_told a b c start bytes place piece left within p q =
    subst (λ (t : List ℕ). ToldSoFar a c (start ++ t) left) (sym (take_more bytes place 0 within)) (said_so_far a b c start (take place bytes) (get_or bytes place 0 ∷ []) piece left p q)

pub byte_front : (a b c : SinkState) (start bytes text : List ℕ) (place : ℕ) (piece : List ℕ) → place < length bytes → bytes ≡ text
    → ToldSoFar a b (start ++ take place bytes) piece → ToldFront b c (piece ++ get_or bytes place 0 ∷ []) → ToldFront a c (start ++ text)
byte_front a b c start bytes text place piece within is p q =
    said_front a b c start (take place bytes) (get_or bytes place 0 ∷ []) (drop (place + 1) bytes) text piece p q
    (ap (λ (t : List ℕ). t ++ drop (place + 1) bytes) (sym (take_more bytes place 0 within)) ∙ take-append-drop (place + 1) bytes ∙ is)

-- all bytes
pub bytes_told : (a b : SinkState) (start bytes text : List ℕ) (place : ℕ) (piece : List ℕ) → length bytes ≤ place → bytes ≡ text → ToldSoFar a b (start ++ take place bytes) piece → ToldSoFar a b (start ++ text) piece
bytes_told a b start bytes text place piece all is p =
    subst (λ (t : List ℕ). ToldSoFar a b (start ++ t) piece) (take_all place bytes all ∙ is) p

-- where the first of two texts was told in part, so were both
pub front_then : (a b : SinkState) (start one two : List ℕ) → ToldFront a b (start ++ one) → ToldFront a b (start ++ (one ++ two))
front_then a b start one two p = subst (λ (t : List ℕ). ToldFront a b t) (append_assoc start one two) (front_longer a b (start ++ one) two p)

-- two texts behind words of which nothing was written yet
pub front_behind : (a b : SinkState) (start words one two piece : List ℕ) → piece ≡ start ++ words → ToldFront a b (piece ++ one) → ToldFront a b (start ++ (words ++ (one ++ two)))
front_behind a b start words one two piece is p =
    let first : ToldFront a b (start ++ (words ++ one)) = subst (λ (t : List ℕ). ToldFront a b t) (ap (λ (t : List ℕ). t ++ one) is ∙ append_assoc start words one) p in
    subst (λ (t : List ℕ). ToldFront a b (start ++ t)) (append_assoc words one two) (front_then a b start (words ++ one) two first)

pub told_behind : {E : Type 0} (a b c : SinkState) (next : Result (Unit {0}) E) (start words one two piece mid left : List ℕ) → piece ≡ start ++ words → ToldSoFar a b (piece ++ one) mid
    → Told b c next (mid ++ two) left → Told a c next (start ++ (words ++ (one ++ two))) left
told_behind a b c next start words one two piece mid left is p q =
    let first : ToldSoFar a b (start ++ (words ++ one)) mid =
    subst (λ (t : List ℕ). ToldSoFar a b t mid) (ap (λ (t : List ℕ). t ++ one) is ∙ append_assoc start words one) p in
    subst (λ (t : List ℕ). Told a c next (start ++ t) left) (append_assoc words one two) (said_more a b c next start (words ++ one) two mid left first q)
