-- Known bytes of readers and writers, and what became of reads and writes.
use Rattle.std.proofs.Common.{◌≡◌, ◌<◌, ◌≤◌, ℕ, ◌+◌, List, [], length, take, drop, append-nil, take-add, Option, Some, None, Result, Err, ap, refl, sym, ◌∙◌, arith, inl, inr}
use Rattle.std.specs.Prelude.{IfSome}
use Rattle.std.specs.declared.io.ErrorKind.{ErrorKind}
use Rattle.std.specs.declared.io.ErrorKind.TheVariants.{OutOfMemory}
use Rattle.std.specs.Io.KnownBytes.{Appends, Consumes, IsAtEnd, Keeps}
use Rattle.std.proofs.KnownBytes.{Appends-kept, Appends-trans, Consumes-trans}
use Rattle.std.proofs.Math.ListN.{drop_of_length-le}
use Rattle.std.proofs.Math.Seq.{drop-append_seam, take-append_seam}
use Rattle.std.proofs.lemmas.Bool.{cases_lt}
use Rattle.std.proofs.lemmas.List.{length-drop, length-take-le, take_all}
use Rattle.drm_text.specs.declared.fault.Fault.{Fault}
use Rattle.drm_text.specs.declared.fault.ReadError.{ReadError}
use Rattle.drm_text.specs.declared.fault.ReadError.TheVariants as errors
use Rattle.drm_text.specs.Reading.{Fails}
use Rattle.drm_stream.specs.declared.input.InputError.{InputError}
use Rattle.drm_stream.specs.declared.input.InputError.TheVariants as input
use Rattle.drm_stream.specs.Streams.{NoReadFailed, SourceState}
use Rattle.drm_stream.specs.Transfer.{AppendsFront, FailsAs, FailsBy, IsFailure, IsReadOf, LosesAtMost, TakesAtMost, input_error_of}

-- what was read, and then more behind it
pub reads_more : (old mid new : Option (List ℕ)) (xs ys : List ℕ) (len count : ℕ) → take len ys ≡ take len xs → Consumes old mid (take len xs)
    → Consumes mid new (take count (drop len ys)) → Consumes old new (take (len + count) ys)
reads_more old mid new xs ys len count front a b =
    rw (take-add len count ys, front) (Consumes-trans old mid new (take len xs) (take count (drop len ys)) a b)

-- a read that failed has taken what was read before it
pub reads_failed : (old mid new : Option (List ℕ)) (bytes : List ℕ) (most : ℕ) → length bytes ≤ most → Consumes old mid bytes → Keeps mid new → LosesAtMost most old new
reads_failed None mid new bytes most h a b = tt
reads_failed (Some xs) None new bytes most h a b = absurd a
reads_failed (Some xs) (Some ys) None bytes most h a b = absurd b
reads_failed (Some xs) (Some ys) (Some zs) bytes most h a b = (length bytes, h, ap Some (b ∙ sym (ap (drop (length bytes)) a ∙ drop-append_seam bytes ys)))

-- all that was read is the front of the input, which is as long as it may be, or is all
reads_all : (old new : Option (List ℕ)) (bytes : List ℕ) (most : ℕ) → length bytes ≤ most → (length bytes < most → IsAtEnd new) → Consumes old new bytes
    → IfSome old (λ input. bytes ≡ take most input) × IfSome old (λ input. new ≡ Some (drop most input))
reads_all None new bytes most h end a = (tt, tt)
reads_all (Some xs) None bytes most h end a = absurd a
reads_all (Some xs) (Some ys) bytes most h end a =
    elim (cases_lt (length bytes) most) [
      | inl lt ↦
          let none : ys ≡ [] = end lt in
          let all : xs ≡ bytes = rw (none, append-nil) at a in
          (sym (ap (take most) all ∙ take_all most bytes h), ap Some (none ∙ sym (ap (drop most) all ∙ drop_of_length-le bytes h)))
      | inr le ↦
          let same : most ≡ length bytes = omega arith in
          rw same (sym (ap (take (length bytes)) a ∙ take-append_seam bytes ys), ap Some (sym (ap (drop (length bytes)) a ∙ drop-append_seam bytes ys)))
    ]

pub reads_front : (old new : Option (List ℕ)) (room : List ℕ) (len most : ℕ) → len ≤ length room → len ≤ most → (len < most → IsAtEnd new) → Consumes old new (take len room)
    → IfSome old (λ input. take len room ≡ take most input) × IfSome old (λ input. new ≡ Some (drop most input))
reads_front old new room len most within few end a =
    let is : length (take len room) ≡ len = length-take-le len room within in
    reads_all old new (take len room) most (rw is few) (rw is end) a

-- where nothing was read, nothing is lost
pub takes_none : (source : SourceState) → TakesAtMost 1048577 source source
takes_none source = (loses_none source.remaining, omega arith)
  where
    loses_none : (known : Option (List ℕ)) → LosesAtMost 1048577 known known
    loses_none None = tt
    loses_none (Some xs) = (0, omega arith, refl)

-- what is left behind the first bytes was not lost
pub loses_first : (old new : Option (List ℕ)) (most : ℕ) → IfSome old (λ input. new ≡ Some (drop most input)) → LosesAtMost most old new
loses_first None new most left = tt
loses_first (Some xs) new most left = (most, omega arith, left)

-- an error behind reads of which none failed
pub fails_later : (old mid new : SourceState) (kind : ErrorKind) → NoReadFailed old mid → FailsBy mid new kind → FailsBy old new kind
fails_later old mid new kind none fails = (λ is. fails.0 is ∙ none.0, λ other. fails.1 other)

-- memory that was refused without a read
pub refused_memory : (source : SourceState) (kind : ErrorKind) → kind ≡ OutOfMemory → FailsBy source source kind
refused_memory source kind is = (λ same. refl, λ other. absurd (other is))

-- the same failure, as it is told
pub fails_as : (old new : SourceState) (kind : ErrorKind) (error : InputError) → IsFailure kind error → FailsBy old new kind → FailsAs old new error
fails_as old new kind input.Memory told fails = fails.0 told
fails_as old new kind input.Failed told fails = fails.1 told
fails_as old new kind (input.Fault fault) told fails = absurd told

-- what was read without a failure has a fault, or memory was refused to it
pub not_read_well : (old new : SourceState) (error : ReadError) → NoReadFailed old new → FailsAs old new (input_error_of error)
not_read_well old new errors.Memory none = none.0
not_read_well old new (errors.Fault fault) none = none

-- what was written before a write that failed is a front
pub front_left : (old mid new : Option (List ℕ)) (bytes rest : List ℕ) (k : ℕ) → rest ≡ drop k bytes → 0 < length rest → Appends old mid (take k bytes) → Keeps mid new
    → AppendsFront old new bytes
front_left old mid new bytes rest k is some a kept =
    let few : k < length bytes = omega (arith, length-drop k bytes, ap length is, some) in
    (k, few, Appends-kept old mid new (take k bytes) a kept)

-- what was written, and then more of the rest
pub appends_more : (old mid new : Option (List ℕ)) (bytes : List ℕ) (k n : ℕ) → Appends old mid (take k bytes) → Appends mid new (take n (drop k bytes)) → Appends old new (take (k + n) bytes)
appends_more old mid new bytes k n a b = rw (take-add k n bytes) (Appends-trans old mid new (take k bytes) (take n (drop k bytes)) a b)

-- what the text that was read says, all bytes of the reader say
pub spelled : {X : Type 0} (judge : List ℕ → Result X Fault) → ((text : List ℕ) → judge (take 1048577 text) ≡ judge text)
    → (known : Option (List ℕ)) (text : List ℕ) (r : Result X Fault) → IfSome known (λ xs. text ≡ take 1048577 xs) → judge text ≡ r → IfSome known (λ xs. judge xs ≡ r)
spelled judge same None text r h e = h
spelled judge same (Some xs) text r h e = sym (same xs) ∙ ap judge (sym h) ∙ e

-- a text that was not read
pub not_read : {X : Type 0} (judge : List ℕ → Result X Fault) → ((text : List ℕ) → judge (take 1048577 text) ≡ judge text)
    → (known : Option (List ℕ)) (text : List ℕ) (e : ReadError) → IfSome known (λ xs. text ≡ take 1048577 xs) → Fails e (judge text)
    → IsReadOf judge known (Err (input_error_of e))
not_read judge same known text errors.Memory h e = tt
not_read judge same known text (errors.Fault f) h e = spelled judge same known text (Err f) h e
