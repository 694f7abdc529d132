-- What is written of the log that is read.
use Rattle.std.specs.Prelude.{◌≡◌, ℕ, List, ◌++◌, codes, Option, Ok, Err, IfSome}
use Rattle.std.specs.Fmt.{decimal}
use Rattle.std.specs.Io.KnownBytes.{Appends, Keeps}
use Rattle.drm_text.specs.declared.fault.Fault.TheVariants.{Text}
use Rattle.drm_text.specs.declared.fault.TextFault.{TextFault}
use Rattle.drm_text.specs.declared.fault.TextFault.TheVariants as what
use Rattle.drm_stream.specs.Transfer.{AppendsFront}
use Rattle.drm_engine.specs.Endings.{text_of_ending}
use Rattle.drm_engine.specs.declared.ending.Ending.{Ending}
use Rattle.drm_engine.specs.declared.ending.Ending.TheVariants as ending
use Rattle.drm_trace.specs.declared.log.Log.{Log}
use Rattle.drm_trace.specs.Pieces.{log_of}
use Rattle.drm_conform.specs.declared.options.Options.{Options}
use Rattle.drm_conform.specs.Answers.{demands_of, text_of_answer}
use Rattle.drm_rules.specs.Conforms.{Conforms}

-- a log that the input spells where it is known, and of which this holds
abbrev pub Spells : Option (List ℕ) → (Log → Type 0) → Type 0
Spells input Hold = (log : Log) × IfSome input (λ text. log_of text ≡ Ok log) × Hold log

-- the log keeps all rules
abbrev pub KeepsAll : Options → Log → Type 0
KeepsAll options log = Conforms (demands_of options log) log.events

-- what each ending says of the log, and of what the writer holds before and after
abbrev pub Judges : Options → Log → Option (List ℕ) → Option (List ℕ) → Ending → Type 0
Judges options log old new ending.Done = KeepsAll options log × Appends old new (text_of_answer options log)
Judges options log old new ending.Differs = ¬ KeepsAll options log × Appends old new (text_of_answer options log)
Judges options log old new ending.NoMemory = Keeps old new
Judges options log old new ending.NoOutput = AppendsFront old new (text_of_answer options log)
Judges options log old new other = ⊥

-- what each ending says of the input, and of what the writer holds before and after: it has no other
abbrev pub Tells : Options → Option (List ℕ) → Option (List ℕ) → Option (List ℕ) → Ending → Type 0
Tells options input old new ending.Done = Spells input (λ log. Judges options log old new ending.Done)
Tells options input old new ending.Differs = Spells input (λ log. Judges options log old new ending.Differs)
Tells options input old new (ending.Fault fault) = IfSome input (λ text. log_of text ≡ Err fault) × Keeps old new
Tells options input old new ending.NoInput = Keeps old new
Tells options input old new ending.NoMemory = Keeps old new
Tells options input old new ending.NoOutput = Spells input (λ log. Judges options log old new ending.NoOutput)
Tells options input old new other = ⊥

-- what is wrong at a place of a log
abbrev pub text_of_fault : TextFault → List ℕ
text_of_fault what.Word = codes "the event ends here, or goes on otherwise than it is printed"
text_of_fault what.Number = codes "a number is missing, is spelled wrong, or is too large"
text_of_fault what.Order = codes "the event is one of another kernel than those before"
text_of_fault what.TooLong = codes "the line is too long, or there are more lines or rings than are read"
text_of_fault what.NoSuch = codes "no such thing"
text_of_fault what.NoEnd = codes "the line has no end"
text_of_fault what.NotText = codes "a byte that no log has"
text_of_fault what.BadJob = codes "no such job"

-- what is printed of the ending
abbrev pub text_of_judged : Ending → List ℕ
text_of_judged (ending.Fault (Text line column fault)) =
    codes "line " ++ decimal line ++ codes " column " ++ decimal column ++ codes ": " ++ text_of_fault fault
text_of_judged other = text_of_ending other
