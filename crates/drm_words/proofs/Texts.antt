-- What is read of a text of which the first bytes are enough.
use Rattle.std.proofs.Common.{◌≡◌, ◌++◌, ◌∙◌, ℕ, List, Option, None, Some, Err, ap, arith, inl, inr, length, lt-ltb, refl, sym, take}
use Rattle.std.specs.Prelude.{IfSome}
use Rattle.std.proofs.lemmas.Bool.{cases_lt}
use Rattle.std.proofs.lemmas.List.{length-take, take_all}
use Rattle.drm_text.specs.Faults.{number_of_fault}
use Rattle.drm_text.specs.Reading.{Fails}
use Rattle.drm_text.specs.declared.fault.Fault.{Fault}
use Rattle.drm_text.specs.declared.fault.Fault.TheVariants.{Text, Device}
use Rattle.drm_text.specs.declared.fault.ReadError.{ReadError}
use Rattle.drm_text.specs.declared.fault.ReadError.TheVariants as errors
use Rattle.drm_script.specs.Script.{judge_script}
use Rattle.drm_script.proofs.Known.{judge_script_taken}
use Rattle.drm_words.specs.Faults.{explained, place_of, words_of_fault}
use Rattle.drm_words.specs.Reading.{IsFaultOf, IsMisspelledBy, IsReadInWords, TellsFault}
use Rattle.drm_words.specs.declared.fault.FaultInWords.{FaultInWords}
use Rattle.drm_words.specs.declared.reading.Unread.{Unread}
use Rattle.drm_words.specs.declared.reading.Unread.TheVariants as unread

-- no line of a text that is too long is shown, which its first bytes tell
place_taken : (text : List ℕ) (line column : ℕ) → place_of (take 1048577 text) line column ≡ place_of text line column
place_taken text line column =
    elim (cases_lt 1048576 (length text)) [
      | inl lt ↦ rw (lt-ltb 1048576 (length text) lt, lt-ltb 1048576 (length (take 1048577 text)) (omega (arith, length-take 1048577 text))) refl
      | inr le ↦ ap (λ (t : List ℕ). place_of t line column) (take_all 1048577 text (omega arith))
    ]

words_taken : (text : List ℕ) (fault : Fault) → words_of_fault (take 1048577 text) fault ≡ words_of_fault text fault
unfolding words_of_fault
words_taken text (Text line column what) = ap (λ (t : List ℕ). t ++ explained (number_of_fault what) 0 1) (place_taken text line column)
words_taken text (Device bad) = refl

fault_told : (known : Option (List ℕ)) (text : List ℕ) (fault : Fault) (told : FaultInWords) → IfSome known (λ xs. text ≡ take 1048577 xs) → judge_script text ≡ Err fault → TellsFault text fault told
    → IsFaultOf told known
fault_told None text fault told taken judged tells = taken
fault_told (Some xs) text fault told taken judged tells = (
  sym (judge_script_taken xs) ∙ ap judge_script (sym taken) ∙ judged ∙ ap (λ (f : Fault). Err f) (sym tells.0),
  tells.1 ∙ ap (λ (t : List ℕ). words_of_fault t fault) taken ∙ words_taken xs fault ∙ ap (words_of_fault xs) (sym tells.0),
)

-- a text that spells no script
pub misspelled : (known : Option (List ℕ)) (text : List ℕ) (error : ReadError) (why : Unread) → IfSome known (λ xs. text ≡ take 1048577 xs) → Fails error (judge_script text)
    → IsMisspelledBy text error why → IsReadInWords known (Err why)
misspelled known text errors.Memory unread.NoInput taken fails is = tt
misspelled known text errors.Memory unread.NoMemory taken fails is = tt
misspelled known text errors.Memory (unread.Faulty told) taken fails is = absurd (cc (is))
misspelled known text (errors.Fault fault) unread.NoInput taken fails is = tt
misspelled known text (errors.Fault fault) unread.NoMemory taken fails is = tt
misspelled known text (errors.Fault fault) (unread.Faulty told) taken fails is = fault_told known text fault told taken fails is
