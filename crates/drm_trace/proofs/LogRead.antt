-- A log that is read piece by piece.
use Rattle.std.proofs.Common.{◌≡◌, ℕ, ◌≤◌, ◌<◌, List, [], ◌++◌, append-nil, append_assoc, length, take, drop, Option, Some, None, Ok, Err, refl, sym, ap, subst, ◌∙◌, arith, take-append-drop}
use Rattle.std.specs.Prelude.{IfSome}
use Rattle.std.proofs.lemmas.List.{drop_all, length-take, take_all}
use Rattle.drm_text.specs.declared.fault.Fault.{Fault}
use Rattle.drm_text.specs.declared.fault.ReadError.{ReadError}
use Rattle.drm_text.specs.declared.fault.ReadError.TheVariants as errors
use Rattle.drm_text.specs.Reading.{Fails}
use Rattle.drm_stream.specs.Transfer.{IsReadOf, input_error_of}
use Rattle.drm_trace.specs.declared.log.Log.{Log}
use Rattle.drm_trace.specs.Log.{nothing_read}
use Rattle.drm_trace.specs.Pieces.{GoesOn, IsBare, ReadsOn, StopsAt, TakesText, log_of, with_last, with_text}
use Rattle.drm_trace.proofs.Cutting.{last_read}

-- before the first piece
pub reads_begin : (known : Option (List ℕ)) → ReadsOn known known nothing_read []
reads_begin None = tt
reads_begin (Some text) = (text, refl, refl)

-- what was read of a text, and a piece more of what is left
piece_taken : (text left before piece : List ℕ) (log : Log) → piece ≡ take 1048577 left → log_of text ≡ with_text log (before ++ left)
    → log_of text ≡ with_text log ((before ++ piece) ++ drop 1048577 left)
piece_taken text left before piece log is so =
    so ∙ ap (λ (bytes : List ℕ). with_text log (before ++ bytes)) (sym (take-append-drop 1048577 left) ∙ ap (λ (front : List ℕ). front ++ drop 1048577 left) (sym is))
    ∙ ap (with_text log) (sym (append_assoc before piece (drop 1048577 left)))

-- a piece was read
pub reads_piece : (old mid new : Option (List ℕ)) (log next : Log) (before piece rest : List ℕ) → ReadsOn old mid log before
    → IfSome mid (λ left. piece ≡ take 1048577 left) → IfSome mid (λ left. new ≡ Some (drop 1048577 left)) → GoesOn log (before ++ piece) next rest → ReadsOn old new next rest
reads_piece None mid new log next before piece rest reads front left goes = tt
reads_piece (Some text) None new log next before piece rest reads front left goes = absurd (cc (reads.1))
reads_piece (Some text) (Some all) new log next before piece rest reads front left goes =
    let same : all ≡ reads.0 = cc (reads.1) in
    let so : log_of text ≡ with_text log (before ++ all) = rw same reads.2 in
    (drop 1048577 all, left, piece_taken text all before piece log front so ∙ goes (drop 1048577 all))

-- a piece has a fault
pub piece_faulty : (old mid : Option (List ℕ)) (log : Log) (before piece : List ℕ) (fault : Fault) → ReadsOn old mid log before
    → IfSome mid (λ left. piece ≡ take 1048577 left) → StopsAt log (before ++ piece) fault → IfSome old (λ text. log_of text ≡ Err fault)
piece_faulty None mid log before piece fault reads front stops = tt
piece_faulty (Some text) None log before piece fault reads front stops = absurd (cc (reads.1))
piece_faulty (Some text) (Some all) log before piece fault reads front stops =
    let same : all ≡ reads.0 = cc (reads.1) in
    let so : log_of text ≡ with_text log (before ++ all) = rw same reads.2 in
    piece_taken text all before piece log front so ∙ stops (drop 1048577 all)

pub piece_fails : (old mid : Option (List ℕ)) (log new : Log) (before piece rest : List ℕ) (error : ReadError) → ReadsOn old mid log before
    → IfSome mid (λ left. piece ≡ take 1048577 left) → TakesText {X = Unit {0}} log (before ++ piece) new (λ _. rest) (Err error) → IsReadOf log_of old (Err (input_error_of error))
piece_fails old mid log new before piece rest errors.Memory reads front stops = tt
piece_fails old mid log new before piece rest (errors.Fault fault) reads front stops = piece_faulty old mid log before piece fault reads front stops

-- a piece that is not full is the last
none_left : (left piece : List ℕ) → piece ≡ take 1048577 left → length piece ≤ 1048576 → drop 1048577 left ≡ []
none_left left piece is few = drop_all 1048577 left (omega (arith, ap (λ (bytes : List ℕ). length bytes) is, length-take 1048577 left, few))

-- what stands behind the last line end is the rest of the text
pub reads_end : (old mid new : Option (List ℕ)) (log next : Log) (before piece rest : List ℕ) → ReadsOn old mid log before
    → IfSome mid (λ left. piece ≡ take 1048577 left) → length piece ≤ 1048576 → GoesOn log (before ++ piece) next rest → IsBare rest
    → IfSome old (λ text. log_of text ≡ with_last next rest)
reads_end None mid new log next before piece rest reads front few goes bare = tt
reads_end (Some text) None new log next before piece rest reads front few goes bare = absurd (cc (reads.1))
reads_end (Some text) (Some all) new log next before piece rest reads front few goes bare =
    let same : all ≡ reads.0 = cc (reads.1) in
    let so : log_of text ≡ with_text log (before ++ all) = rw same reads.2 in
    piece_taken text all before piece log front so ∙ ap (λ (more : List ℕ). with_text log ((before ++ piece) ++ more)) (none_left all piece front few) ∙ goes []
    ∙ ap (with_text next) (append-nil rest) ∙ last_read next rest bare

-- the text spells the log where its last line was read
pub spells : (old : Option (List ℕ)) (log final : Log) (rest : List ℕ) → IfSome old (λ text. log_of text ≡ with_last log rest) → with_last log rest ≡ Ok final
    → IfSome old (λ text. log_of text ≡ Ok final)
spells None log final rest so read = tt
spells (Some text) log final rest so read = so ∙ read

-- and else has its fault
pub spells_none : (old : Option (List ℕ)) (log : Log) (rest : List ℕ) (error : ReadError) → IfSome old (λ text. log_of text ≡ with_last log rest)
    → Fails error (with_last log rest) → IsReadOf log_of old (Err (input_error_of error))
spells_none None log rest errors.Memory so fails = tt
spells_none None log rest (errors.Fault fault) so fails = tt
spells_none (Some text) log rest errors.Memory so fails = tt
spells_none (Some text) log rest (errors.Fault fault) so fails = so ∙ fails
