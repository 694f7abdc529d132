-- What is left of a line, read from left to right, each part judged wholly before the next.
use Rattle.std.specs.Prelude.{ℕ, ◌+◌, ◌*◌, ◌-◌, ◌^◌, ◌==◌, List, length, take, drop, Option, Some, None, Result, Ok, Err, codes, if◌then◌else◌}
use Rattle.drm_text.specs.declared.fault.Fault.{Fault}
use Rattle.drm_text.specs.declared.fault.Fault.TheVariants.{Text}
use Rattle.drm_text.specs.declared.fault.TextFault.{TextFault}
use Rattle.drm_text.specs.declared.fault.TextFault.TheVariants as what
use Rattle.drm_text.specs.Number.{digits_up_to, number_up_to}
use Rattle.drm_text.specs.Reading.{◌>>=◌, or_fault}
use Rattle.drm_trace.specs.Bytes.{begins_with, digits_in, hex_digits_in, hex_value, place_from, spaces_in}

-- the line, how many of its bytes lie before, and those from there on
pub record Rest : Type 0 where
  pub line : ℕ
  pub at : ℕ
  pub bytes : List ℕ

-- what is left behind some bytes more
abbrev pub behind : ℕ → Rest → Rest
behind count rest = record { line = rest.line; at = rest.at + count; bytes = drop count rest.bytes }

-- what is left behind the spaces that stand next
abbrev pub behind_spaces : Rest → Rest
behind_spaces rest = behind (spaces_in rest.bytes) rest

-- a fault of the next byte
abbrev pub fault_next : Rest → TextFault → Fault
fault_next rest what = Text rest.line (rest.at + 1) what

-- the mark stands next, and is passed
unfoldable pub mark_at : List ℕ → Rest → Result Rest Fault
mark_at mark rest = if begins_with mark rest.bytes then Ok (behind (length mark) rest) else Err (fault_next rest what.Word)

-- a number of at most `most`: all digits that stand next
unfoldable pub number_at : ℕ → Rest → Result (ℕ × Rest) Fault
number_at most rest = do
  n ← or_fault (number_up_to most (take (digits_in rest.bytes) rest.bytes)) (fault_next rest what.Number)
  Ok (n, behind (digits_in rest.bytes) rest)

-- the nanoseconds of as many microseconds
abbrev pub thousand_of : Option ℕ → Option ℕ
thousand_of None = None
thousand_of (Some n) = Some (n * 1000)

-- the nanoseconds that six or nine digits behind the point of a time tell
abbrev pub fraction_of : List ℕ → Option ℕ
fraction_of digits =
    if length digits == 6 then thousand_of (digits_up_to 999999 digits)
    else if length digits == 9 then digits_up_to 999999999 digits
    else None

unfoldable pub fraction_at : Rest → Result (ℕ × Rest) Fault
fraction_at rest = do
  n ← or_fault (fraction_of (take (digits_in rest.bytes) rest.bytes)) (fault_next rest what.Number)
  Ok (n, behind (digits_in rest.bytes) rest)

-- behind 0x, where that stands next
abbrev pub without_prefix : Rest → Rest
without_prefix rest = if begins_with (codes "0x") rest.bytes then behind 2 rest else rest

-- an address: all hexadecimal digits that stand next
unfoldable pub address_at : Rest → Result (ℕ × Rest) Fault
address_at rest = do
  n ← or_fault (hex_value (take (hex_digits_in rest.bytes) rest.bytes)) (fault_next rest what.Number)
  Ok (n, behind (hex_digits_in rest.bytes) rest)

-- the bytes before a mark, which is passed too
unfoldable pub text_before : List ℕ → Rest → Result (List ℕ × Rest) Fault
text_before mark rest = do
  at ← or_fault (place_from mark 0 rest.bytes) (fault_next rest what.Word)
  Ok (take at rest.bytes, behind (length mark) (behind at rest))

-- nothing is left
unfoldable pub end_at : Rest → Result (Unit {0}) Fault
end_at rest = if length rest.bytes == 0 then Ok tt else Err (fault_next rest what.Word)

-- a number of 64 bits behind a mark
unfoldable pub number_behind : List ℕ → Rest → Result (ℕ × Rest) Fault
number_behind mark rest = mark_at mark rest >>= λ start. number_at (2 ^ 64 - 1) start

-- an address behind a mark, which trace-cmd writes with 0x before it
unfoldable pub address_behind : List ℕ → Rest → Result (ℕ × Rest) Fault
address_behind mark rest = mark_at mark rest >>= λ start. address_at (without_prefix start)

-- the bytes between two marks
unfoldable pub text_between : List ℕ → List ℕ → Rest → Result (List ℕ × Rest) Fault
text_between first second rest = mark_at first rest >>= λ start. text_before second start

-- a context and a number behind a mark
unfoldable pub pair_behind : List ℕ → Rest → Result ((ℕ × ℕ) × Rest) Fault
pair_behind mark rest = do
  context ← number_behind mark rest
  number ← number_behind (codes ":") context.1
  Ok ((context.0, number.0), number.1)
