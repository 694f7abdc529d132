-- Texts of parts that are told one behind the other.
use Rattle.std.proofs.Common.{◌≡◌, ℕ, List, [], ◌∷◌, ◌++◌, Result, sym, ap, subst, ◌∙◌, append_assoc, append-nil}
use Rattle.std.specs.Fmt.{decimal}
use Rattle.drm_stream.specs.Streams.{SinkState}
use Rattle.drm_engine.specs.Replaying.{Told, ToldFront, ToldSoFar}
use Rattle.drm_reason.specs.Said.{bare, counted, text_of_parts}
use Rattle.drm_engine.proofs.Putting.{front_then, said_front, said_more, said_so_far}

-- two parts with numbers and a bare one, and two with numbers
two_and_bare : (first second last : List ℕ) (n m : ℕ)
    → (first ++ (decimal n ++ second)) ++ (decimal m ++ last) ≡ text_of_parts (counted first n ∷ counted second m ∷ bare last ∷ [])
two_and_bare first second last n m =
    append_assoc first (decimal n ++ second) (decimal m ++ last)
    ∙ ap (λ (t : List ℕ). first ++ t) (append_assoc (decimal n) second (decimal m ++ last))
    ∙ sym (append_assoc first (decimal n) (second ++ (decimal m ++ last)))
    ∙ ap (λ (t : List ℕ). (first ++ decimal n) ++ t)
    (sym (append_assoc second (decimal m) last) ∙ ap (λ (t : List ℕ). (second ++ decimal m) ++ t) (sym (append-nil (last ++ []) ∙ append-nil last)))

two_parts : (first second : List ℕ) (n m : ℕ) → (first ++ (decimal n ++ second)) ++ decimal m ≡ text_of_parts (counted first n ∷ counted second m ∷ [])
two_parts first second n m =
    append_assoc first (decimal n ++ second) (decimal m)
    ∙ ap (λ (t : List ℕ). first ++ t) (append_assoc (decimal n) second (decimal m))
    ∙ sym (append_assoc first (decimal n) (second ++ decimal m))
    ∙ ap (λ (t : List ℕ). (first ++ decimal n) ++ t) (sym (append-nil (second ++ decimal m)))

pub told_two : {E : Type 0} (a b c : SinkState) (next : Result (Unit {0}) E) (start first second piece left : List ℕ) (n m : ℕ) → ToldSoFar a b (start ++ (first ++ (decimal n ++ second))) piece
    → Told b c next (piece ++ decimal m) left → Told a c next (start ++ text_of_parts (counted first n ∷ counted second m ∷ [])) left
told_two a b c next start first second piece left n m p q =
    subst (λ (t : List ℕ). Told a c next (start ++ t) left) (two_parts first second n m) (said_more a b c next start (first ++ (decimal n ++ second)) (decimal m) piece left p q)

pub told_two_and_bare : {E : Type 0} (a b c : SinkState) (next : Result (Unit {0}) E) (start first second last piece left : List ℕ) (n m : ℕ)
    → ToldSoFar a b (start ++ (first ++ (decimal n ++ second))) piece → Told b c next (piece ++ ([] ++ (decimal m ++ last))) left
    → Told a c next (start ++ text_of_parts (counted first n ∷ counted second m ∷ bare last ∷ [])) left
told_two_and_bare a b c next start first second last piece left n m p q =
    subst (λ (t : List ℕ). Told a c next (start ++ t) left) (two_and_bare first second last n m)
    (said_more a b c next start (first ++ (decimal n ++ second)) (decimal m ++ last) piece left p q)

-- and more behind these
pub told_with_more : {E : Type 0} (a b c d : SinkState) (next : Result (Unit {0}) E) (start first second last more one two left : List ℕ) (n m : ℕ)
    → ToldSoFar a b (start ++ (first ++ (decimal n ++ second))) one → ToldSoFar b c (one ++ ([] ++ (decimal m ++ last))) two → Told c d next (two ++ more) left
    → Told a d next (start ++ (text_of_parts (counted first n ∷ counted second m ∷ bare last ∷ []) ++ more)) left
told_with_more a b c d next start first second last more one two left n m p q r =
    let whole = text_of_parts (counted first n ∷ counted second m ∷ bare last ∷ []) in
    let both : ToldSoFar a c (start ++ whole) two =
    subst (λ (t : List ℕ). ToldSoFar a c (start ++ t) two) (two_and_bare first second last n m)
    (said_so_far a b c start (first ++ (decimal n ++ second)) (decimal m ++ last) one two p q) in
    said_more a c d next start whole more two left both r

-- where a write failed
pub front_two : (a b : SinkState) (start first second : List ℕ) (n m : ℕ) → ToldFront a b (start ++ (first ++ (decimal n ++ second)))
    → ToldFront a b (start ++ text_of_parts (counted first n ∷ counted second m ∷ []))
front_two a b start first second n m p =
    subst (λ (t : List ℕ). ToldFront a b (start ++ t)) (two_parts first second n m) (front_then a b start (first ++ (decimal n ++ second)) (decimal m) p)

pub front_two_and_bare : (a b : SinkState) (start first second last : List ℕ) (n m : ℕ) → ToldFront a b (start ++ (first ++ (decimal n ++ second)))
    → ToldFront a b (start ++ text_of_parts (counted first n ∷ counted second m ∷ bare last ∷ []))
front_two_and_bare a b start first second last n m p =
    subst (λ (t : List ℕ). ToldFront a b (start ++ t)) (two_and_bare first second last n m) (front_then a b start (first ++ (decimal n ++ second)) (decimal m ++ last) p)

pub front_with_more : (a b c : SinkState) (start first second last more one : List ℕ) (n m : ℕ) → ToldSoFar a b (start ++ (first ++ (decimal n ++ second))) one
    → ToldFront b c (one ++ ([] ++ (decimal m ++ last))) → ToldFront a c (start ++ (text_of_parts (counted first n ∷ counted second m ∷ bare last ∷ []) ++ more))
front_with_more a b c start first second last more one n m p q =
    said_front a b c start (first ++ (decimal n ++ second)) (decimal m ++ last) more (text_of_parts (counted first n ∷ counted second m ∷ bare last ∷ []) ++ more) one p q
    (ap (λ (t : List ℕ). t ++ more) (two_and_bare first second last n m))
