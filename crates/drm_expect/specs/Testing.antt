-- Tests of scripts: what is written is the first difference from what is expected.
use Rattle.std.specs.Prelude.{◌≡◌, ◌⊎◌, ℕ, zero, suc, ◌+◌, true, false, nat_lt, List, [], ◌++◌, Option, Some, None, Ok, Err, IfSome, codes, length, slice_get, take}
use Rattle.std.specs.Fmt.{decimal}
use Rattle.std.specs.Option.{option_map_or}
use Rattle.std.specs.Io.KnownBytes.{Appends, Keeps}
use Rattle.drm_state.specs.declared.answer.Answer.{Answer}
use Rattle.drm_text.specs.declared.fault.Fault.{Fault}
use Rattle.drm_text.specs.declared.fault.Fault.TheVariants.{Text, Device}
use Rattle.drm_text.specs.declared.fault.TextFault.TheVariants.{TooLong}
use Rattle.drm_text.specs.Cut.{parts_of}
use Rattle.drm_script.specs.declared.script.Script.{Script}
use Rattle.drm_script.specs.Script.{judge_script}
use Rattle.drm_stream.specs.Transfer.{AppendsFront}
use Rattle.drm_stream.specs.declared.input.InputError.{InputError}
use Rattle.drm_stream.specs.declared.input.InputError.TheVariants as input
use Rattle.drm_engine.specs.declared.ending.Ending.{Ending}
use Rattle.drm_engine.specs.declared.ending.Ending.TheVariants as ending
use Rattle.drm_engine.specs.Replaying.{AreAnswers}
use Rattle.drm_expect.specs.declared.lines.Line.{Line}
use Rattle.drm_expect.specs.Lines.{AreLines, last_number, script_text}
use Rattle.drm_expect.specs.Matching.{AreExpectedBefore, DiffersAt}

-- the lines of a text that is not too long
pub record AreLinesOf (text : List ℕ) (lines : List Line) : Type 0 where
  pub short : nat_lt 1048576 (length text) ≡ false
  pub cut : AreLines 1 (parts_of 10 text) lines

-- the number in the test of a line of its script, which are counted from 1. What comes behind the last line stands
-- behind that
abbrev pub number_in_test : List Line → ℕ → ℕ
number_in_test lines zero = zero
number_in_test lines (suc before) = option_map_or (λ line. line.number) (slice_get lines before) (last_number lines + 1)

-- a fault of the script, told of the test
abbrev pub fault_in_test : List Line → Fault → Fault
fault_in_test lines (Text line column what) = Text (number_in_test lines line) column what
fault_in_test lines (Device bad) = Device bad

-- the text is too long, which is its fault
abbrev pub IsTooLong : List ℕ → Option (List ℕ) → Option (List ℕ) → Ending → Type 0
IsTooLong text old new ended = (nat_lt 1048576 (length text) ≡ true) × (ended ≡ ending.Fault (Text 0 0 TooLong)) × Keeps old new

abbrev pub LacksMemory : Option (List ℕ) → Option (List ℕ) → Ending → Type 0
LacksMemory old new ended = (ended ≡ ending.NoMemory) × Keeps old new

-- what was expected and what was answered, in words
abbrev pub said_of_wanted : Option (List ℕ) → List ℕ
said_of_wanted None = []
said_of_wanted (Some wanted) = wanted

abbrev pub said_of_answer : Option (List ℕ) → List ℕ
said_of_answer None = codes "nothing\n"
said_of_answer (Some line) = line

-- the first difference, with both
unfoldable pub text_of_difference : Line → Option (List ℕ) → List ℕ
text_of_difference line given =
    codes "line " ++ decimal line.number ++ codes ": expected " ++ said_of_wanted line.wanted ++ codes "\nline " ++ decimal line.number
    ++ codes ": answered " ++ said_of_answer given

-- all answers are as expected
abbrev pub AreExpected : List Line → List Answer → Type 0
AreExpected lines answers = AreExpectedBefore lines answers (length lines)

-- the first that is not is that of the line at this place
abbrev pub IsFirstAt : List Line → List Answer → ℕ → Option (List ℕ) → Type 0
IsFirstAt lines answers place given = DiffersAt lines answers place given × AreExpectedBefore lines answers place

-- the first that is not, of whose text this holds
abbrev pub IsDifference : List Line → List Answer → (List ℕ → Type 0) → Type 0
IsDifference lines answers Hold =
    (place : ℕ) × (line : Line) × (given : Option (List ℕ)) × (slice_get lines place ≡ Some line) × IsFirstAt lines answers place given
    × Hold (text_of_difference line given)

-- what each ending says of lines and answers, and of what the writer holds before and after
abbrev pub Compares : List Line → List Answer → Option (List ℕ) → Option (List ℕ) → Ending → Type 0
Compares lines answers old new ending.Done = AreExpected lines answers × Keeps old new
Compares lines answers old new ending.Differs = IsDifference lines answers (λ told. Appends old new told)
Compares lines answers old new ending.NoOutput = IsDifference lines answers (λ told. AppendsFront old new told)
Compares lines answers old new other = ⊥

-- the same, or memory lacks
abbrev pub ComparesOrLacks : List Line → List Answer → Option (List ℕ) → Option (List ℕ) → Ending → Type 0
ComparesOrLacks lines answers old new ending.NoMemory = Keeps old new
ComparesOrLacks lines answers old new other = Compares lines answers old new other

-- what each ending says of the lines of a test, and of what the writer holds before and after
abbrev pub TestsLines : List Line → Option (List ℕ) → Option (List ℕ) → Ending → Type 0
TestsLines lines old new (ending.Fault fault) =
    ((found : Fault) × (judge_script (script_text lines) ≡ Err found) × (fault ≡ fault_in_test lines found)) × Keeps old new
TestsLines lines old new ending.NoMemory = Keeps old new
TestsLines lines old new other =
    (script : Script) × (judge_script (script_text lines) ≡ Ok script)
    × ((answers : List Answer) × AreAnswers script answers × Compares lines answers old new other)

-- what each ending says of a text, and of what the writer holds before and after: it has these lines, or is too long
abbrev pub TestsText : List ℕ → Option (List ℕ) → Option (List ℕ) → Ending → Type 0
TestsText text old new ended =
    ((lines : List Line) × AreLinesOf text lines × TestsLines lines old new ended)
    ⊎ ((IsTooLong text old new ended) ⊎ (LacksMemory old new ended))

-- a text that is read, of which this holds: all that the input has, or more of it than a text has at most
abbrev pub IsOfInput : Option (List ℕ) → (List ℕ → Type 0) → Type 0
IsOfInput input Hold = (text : List ℕ) × IfSome input (λ known. text ≡ take 1048577 known) × Hold text

-- the input could not be read, for want of memory or since a read failed
abbrev pub IsNoFault : InputError → Type 0
IsNoFault (input.Fault fault) = ⊥
IsNoFault other = Unit {0}

abbrev pub IsUnread : Option (List ℕ) → Option (List ℕ) → Ending → Type 0
IsUnread old new ended = ((ended ≡ ending.NoInput) ⊎ (ended ≡ ending.NoMemory)) × Keeps old new

-- what each ending says of the input, and of what the writer holds before and after
abbrev pub Tests : Option (List ℕ) → Option (List ℕ) → Option (List ℕ) → Ending → Type 0
Tests known old new ended = (IsOfInput known (λ text. TestsText text old new ended)) ⊎ (IsUnread old new ended)

-- so where the script alone is written
abbrev pub LowersLines : List Line → Option (List ℕ) → Option (List ℕ) → Ending → Type 0
LowersLines lines old new ending.Done = Appends old new (script_text lines)
LowersLines lines old new ending.NoOutput = AppendsFront old new (script_text lines)
LowersLines lines old new other = ⊥

abbrev pub LowersText : List ℕ → Option (List ℕ) → Option (List ℕ) → Ending → Type 0
LowersText text old new ended =
    ((lines : List Line) × AreLinesOf text lines × LowersLines lines old new ended)
    ⊎ ((IsTooLong text old new ended) ⊎ (LacksMemory old new ended))

abbrev pub Lowers : Option (List ℕ) → Option (List ℕ) → Option (List ℕ) → Ending → Type 0
Lowers known old new ended = (IsOfInput known (λ text. LowersText text old new ended)) ⊎ (IsUnread old new ended)
