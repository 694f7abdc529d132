-- A text that is cut where its first line ends, whatever comes behind.
use Rattle.std.proofs.Common.{◌≡◌, ℕ, suc, ◌+◌, ◌<◌, ◌≤◌, ◌==◌, ◌||◌, Bool, true, false, cond, not, List, [], ◌∷◌, ◌++◌, append-nil, append_assoc, length, take, drop, Ok, Err, refl, sym, ap, subst, ◌∙◌, arith, length-append, lt-ltb}
use Rattle.std.specs.Prelude.{nat_lt}
use Rattle.std.specs.List.{onto_first, position_or_len, slice_split}
use Rattle.std.proofs.lemmas.Bool.{or_right}
use Rattle.std.proofs.lemmas.List.{drop-drop}
use Rattle.std.proofs.lemmas.List.Sums.{prefix_len-le-length}
use Rattle.drm_text.specs.declared.fault.Fault.{Fault}
use Rattle.drm_text.specs.declared.fault.ReadError.{ReadError}
use Rattle.drm_text.specs.declared.fault.ReadError.TheVariants as errors
use Rattle.drm_text.specs.Reading.{◌>>=◌, Fails}
use Rattle.drm_trace.specs.declared.log.Log.{Log}
use Rattle.drm_trace.specs.Formats.{too_long, with_line}
use Rattle.drm_trace.specs.Log.{is_full}
use Rattle.drm_trace.specs.Pieces.{GoesOn, IsBare, TakesText, with_last, with_lines, with_text}

-- whether a byte ends a line
abbrev ends_line : ℕ → Bool
ends_line b = b == 10

-- ---- parts

onto_some : (x : ℕ) (parts : List (List ℕ)) → (first : List ℕ) × (more : List (List ℕ)) × (onto_first x parts ≡ first ∷ more)
onto_some x [] = (x ∷ [], [], refl)
onto_some x (part ∷ parts) = (x ∷ part, parts, refl)

test_some : (test : Bool) (x : ℕ) (parts : List (List ℕ))
    → (first : List ℕ) × (more : List (List ℕ)) × (cond test ([] ∷ parts) (onto_first x parts) ≡ first ∷ more)
test_some true x parts = ([], parts, refl)
test_some false x parts = onto_some x parts

-- a text has a part at least
parts_some : (xs : List ℕ) → (first : List ℕ) × (more : List (List ℕ)) × (slice_split ends_line xs ≡ first ∷ more)
parts_some [] = ([], [], refl)
parts_some (x ∷ xs) = test_some (ends_line x) x (slice_split ends_line xs)

cut_test : (x : ℕ) (xs more : List ℕ) (test : Bool) → ends_line x ≡ test → position_or_len ends_line (x ∷ xs) < length (x ∷ xs)
    → (position_or_len ends_line xs < length xs
    → slice_split ends_line (xs ++ more) ≡ take (position_or_len ends_line xs) xs ∷ slice_split ends_line (drop (position_or_len ends_line xs + 1) xs ++ more))
    → slice_split ends_line (x ∷ (xs ++ more))
    ≡ take (position_or_len ends_line (x ∷ xs)) (x ∷ xs) ∷ slice_split ends_line (drop (position_or_len ends_line (x ∷ xs) + 1) (x ∷ xs) ++ more)
cut_test x xs more true is lt so = rw is refl
cut_test x xs more false is lt so =
    let n = position_or_len ends_line xs in
    let place : position_or_len ends_line (x ∷ xs) ≡ suc n = rw is (omega arith) in
    let next : suc n + 1 ≡ suc (n + 1) = omega arith in
    let few : n < length xs = omega (arith, place, lt) in
    rw (place, next, is) (ap (onto_first x) (so few))

-- the first line is cut off
cut_here : (xs more : List ℕ) → position_or_len ends_line xs < length xs
    → slice_split ends_line (xs ++ more) ≡ take (position_or_len ends_line xs) xs ∷ slice_split ends_line (drop (position_or_len ends_line xs + 1) xs ++ more)
cut_here [] more lt = absurd (omega (arith, lt))
cut_here (x ∷ xs) more lt = cut_test x xs more (ends_line x) refl lt (λ few. cut_here xs more few)

bare_test : (x : ℕ) (xs more first : List ℕ) (parts : List (List ℕ)) (test : Bool) → ends_line x ≡ test → IsBare (x ∷ xs)
    → (IsBare xs → slice_split ends_line (xs ++ more) ≡ (xs ++ first) ∷ parts) → slice_split ends_line (x ∷ (xs ++ more)) ≡ (x ∷ (xs ++ first)) ∷ parts
bare_test x xs more first parts true is bare so =
    let none : position_or_len ends_line (x ∷ xs) ≡ 0 = rw is refl in absurd (omega (arith, none, bare))
bare_test x xs more first parts false is bare so =
    let place : position_or_len ends_line (x ∷ xs) ≡ suc (position_or_len ends_line xs) = rw is (omega arith) in
    let inner : IsBare xs = omega (arith, place, bare) in
    rw is (ap (onto_first x) (so inner))

-- what has no line end belongs to the first line
bare_parts : (xs more first : List ℕ) (parts : List (List ℕ)) → IsBare xs → slice_split ends_line more ≡ first ∷ parts
    → slice_split ends_line (xs ++ more) ≡ (xs ++ first) ∷ parts
bare_parts [] more first parts bare is = is
bare_parts (x ∷ xs) more first parts bare is = bare_test x xs more first parts (ends_line x) refl bare (λ inner. bare_parts xs more first parts inner is)

-- ---- lines

-- a line with its end is taken before the rest
line_first : (log : Log) (line xs : List ℕ) → with_lines log (line ∷ slice_split ends_line xs) ≡ (with_line log line >>= λ next. with_text next xs)
unfolding with_lines
line_first log line xs = let some = parts_some xs in rw some.2 refl

-- the first line of a text, which is cut off and taken
taken : (log : Log) (xs more line : List ℕ) (end : ℕ) → end ≡ position_or_len ends_line xs → end < length xs → line ≡ take end xs
    → with_text log (xs ++ more) ≡ (with_line log line >>= λ next. with_text next (drop (end + 1) xs ++ more))
taken log xs more line end place lt is =
    let few : position_or_len ends_line xs < length xs = omega (arith, place, lt) in
    rw (is, place) (ap (with_lines log) (cut_here xs more few) ∙ line_first log (take (position_or_len ends_line xs) xs) (drop (position_or_len ends_line xs + 1) xs ++ more))

pub line_read : (log next : Log) (xs more line : List ℕ) (end : ℕ) → end ≡ position_or_len ends_line xs → end < length xs → line ≡ take end xs
    → with_line log line ≡ Ok next → with_text log (xs ++ more) ≡ with_text next (drop (end + 1) xs ++ more)
line_read log next xs more line end place lt is read = taken log xs more line end place lt is ∙ rw read refl

pub line_faulty : (log : Log) (fault : Fault) (xs more line : List ℕ) (end : ℕ) → end ≡ position_or_len ends_line xs → end < length xs → line ≡ take end xs
    → with_line log line ≡ Err fault → with_text log (xs ++ more) ≡ Err fault
line_faulty log fault xs more line end place lt is read = taken log xs more line end place lt is ∙ rw read refl

-- the next line of a text, of which the lines before were taken
pub line_goes : (old log next : Log) (text rest line : List ℕ) (at end : ℕ) → GoesOn old text log (drop at text) → rest ≡ drop at text → end ≡ position_or_len ends_line rest
    → end < length rest → line ≡ take end rest → with_line log line ≡ Ok next → GoesOn old text next (drop (at + (end + 1)) text)
line_goes old log next text rest line at end goes is place lt cut read more =
    let left : drop (end + 1) rest ≡ drop (at + (end + 1)) text = ap (drop (end + 1)) is ∙ drop-drop (end + 1) at text in
    goes more ∙ ap (λ (xs : List ℕ). with_text log (xs ++ more)) (sym is) ∙ line_read log next rest more line end place lt cut read
    ∙ ap (λ (xs : List ℕ). with_text next (xs ++ more)) left

pub line_fails : (old log new : Log) (text rest line : List ℕ) (at end : ℕ) (left : ℕ → List ℕ) (error : ReadError) → GoesOn old text log (drop at text)
    → rest ≡ drop at text → end ≡ position_or_len ends_line rest → end < length rest → line ≡ take end rest → Fails error (with_line log line)
    → TakesText old text new left (Err error)
line_fails old log new text rest line at end left errors.Memory goes is place lt cut fails = tt
line_fails old log new text rest line at end left (errors.Fault fault) goes is place lt cut fails = λ more.
    goes more ∙ ap (λ (xs : List ℕ). with_text log (xs ++ more)) (sym is) ∙ line_faulty log fault rest more line end place lt cut fails

-- what is left has no line end
pub bare_left : (bytes rest : List ℕ) (end : ℕ) → rest ≡ bytes → end ≡ position_or_len ends_line rest → length rest ≤ end → IsBare bytes
bare_left bytes rest end is place le =
    let most = prefix_len-le-length (λ b. not (ends_line b)) rest in
    let bare : IsBare rest = omega (arith, place, le, most) in
    subst IsBare is bare

-- a line that is too long
too_long_line : (log : Log) (line : List ℕ) → 1048576 < length line → with_line log line ≡ Err (too_long log)
unfolding with_line
too_long_line log line long = rw (or_right (is_full log) (nat_lt 1048576 (length line)) (lt-ltb 1048576 (length line) long)) refl

too_long_last : (log : Log) (line : List ℕ) → 1048576 < length line → with_last log line ≡ Err (too_long log)
unfolding with_last
too_long_last log [] long = absurd (omega (arith, long))
too_long_last log (byte ∷ bytes) long = too_long_line log (byte ∷ bytes) long

long_first : (log : Log) (line : List ℕ) (parts : List (List ℕ)) → 1048576 < length line → with_lines log (line ∷ parts) ≡ Err (too_long log)
unfolding with_lines
long_first log line [] long = too_long_last log line long
long_first log line (next ∷ rest) long = rw (too_long_line log line long) refl

-- bytes without a line end that are too many, whatever comes behind
pub long_faulty : (log : Log) (xs more : List ℕ) → IsBare xs → 1048576 < length xs → with_text log (xs ++ more) ≡ Err (too_long log)
long_faulty log xs more bare long =
    let some = parts_some more in
    ap (with_lines log) (bare_parts xs more some.0 some.1 bare some.2)
    ∙ long_first log (xs ++ some.0) some.1 (omega (arith, length-append xs some.0, long))

-- the last line, which has no end
pub last_read : (log : Log) (xs : List ℕ) → IsBare xs → with_text log xs ≡ with_last log xs
unfolding with_lines
last_read log xs bare =
    let parts : slice_split ends_line (xs ++ []) ≡ (xs ++ []) ∷ [] = bare_parts xs [] [] [] bare refl in
    rw (append-nil xs) at (ap (with_lines log) parts)
