-- A replay: what is written answers the script that is read.
use Rattle.std.specs.Prelude.{◌≡◌, ℕ, true, List, [], ◌∷◌, ◌++◌, Option, Result, Ok, Err, IfSome}
use Rattle.std.specs.Io.KnownBytes.{Appends, Keeps}
use Rattle.drm_job.specs.declared.Draft.{Draft}
use Rattle.drm_state.specs.declared.answer.Answer.{Answer}
use Rattle.drm_core.specs.State.{CoreState, opened}
use Rattle.drm_core.specs.declared.event.Event.{Event}
use Rattle.drm_core.specs.Run.{LawfulRun, Run}
use Rattle.drm_core.specs.Headline.{Promises}
use Rattle.drm_core.specs.Lawful.{IsLawful}
use Rattle.drm_core.specs.Step.{Step}
use Rattle.drm_script.specs.declared.script.Script.{Script}
use Rattle.drm_answer.specs.Answers.{text_of_answers}
use Rattle.drm_script.specs.Script.{judge_script}
use Rattle.drm_stream.specs.Streams.{NoWriteFailed, SinkState}
use Rattle.drm_stream.specs.Transfer.{AppendsFront}
use Rattle.drm_engine.specs.declared.ending.Ending.{Ending}
use Rattle.drm_engine.specs.declared.ending.Ending.TheVariants as ending

-- these answers are given to the events of the script by a core that begins as its device, in a lawful run that leaves
-- it as promised
abbrev pub AreAnswers : Script → List Answer → Type 0
AreAnswers script answers = (final : CoreState) × LawfulRun (opened script.spec) script.lines answers final × Promises script.spec final

-- a script that the input spells where it is known, of which this holds
abbrev pub SpellsScript : Option (List ℕ) → (Script → Type 0) → Type 0
SpellsScript input Hold = (script : Script) × IfSome input (λ text. judge_script text ≡ Ok script) × Hold script

-- the line that is written of an event: of the core before it, of the event, of its answer and of the core behind it
abbrev pub Line : Type 0
Line = CoreState → Event Draft → Answer → CoreState → List ℕ

-- by lawful cores, one step after another, these events get these answers and lead from the old core to the new one,
-- and this is the text of their lines
abbrev pub Tells : Line → CoreState → List (Event Draft) → List Answer → CoreState → List ℕ → Type 0
Tells line old [] [] new text = IsLawful old × (new ≡ old) × (text ≡ [])
Tells line old (event ∷ events) (answer ∷ answers) new text =
    IsLawful old
    × ((mid : CoreState) × (rest : List ℕ) × Step old event answer mid × Tells line mid events answers new rest
    × (text ≡ line old event answer mid ++ rest))
Tells line old [] (answer ∷ answers) new text = ⊥
Tells line old (event ∷ events) [] new text = ⊥

-- the lines of answers to the script, of whose text this holds
abbrev pub TellsScript : Line → Script → (List ℕ → Type 0) → Type 0
TellsScript line script Hold =
    (answers : List Answer) × AreAnswers script answers
    × ((final : CoreState) × (text : List ℕ) × Tells line (opened script.spec) script.lines answers final text × Hold text)

-- answers to the script, of whose text this holds
abbrev pub AnswersScript : Script → (List ℕ → Type 0) → Type 0
AnswersScript script Hold = (answers : List Answer) × AreAnswers script answers × Hold (text_of_answers answers)

-- what each ending says of a script that was read, and of what the writer holds before and after, where this says what
-- text is told of a script
abbrev pub PlaysAs : (Script → (List ℕ → Type 0) → Type 0) → Script → Option (List ℕ) → Option (List ℕ) → Ending → Type 0
PlaysAs IsToldOf script old new ending.Done = IsToldOf script (λ told. Appends old new told)
PlaysAs IsToldOf script old new ending.NoMemory = Keeps old new
PlaysAs IsToldOf script old new ending.NoOutput = IsToldOf script (λ told. AppendsFront old new told)
PlaysAs IsToldOf script old new other = ⊥

-- what each ending says of the input and of what the writer holds before and after: a replay has no other
abbrev pub ReplaysAs : (Script → (List ℕ → Type 0) → Type 0) → Option (List ℕ) → Option (List ℕ) → Option (List ℕ) → Ending → Type 0
ReplaysAs IsToldOf input old new ending.Done = SpellsScript input (λ script. IsToldOf script (λ told. Appends old new told))
ReplaysAs IsToldOf input old new (ending.Fault fault) = IfSome input (λ bytes. judge_script bytes ≡ Err fault) × Keeps old new
ReplaysAs IsToldOf input old new ending.NoMemory = Keeps old new
ReplaysAs IsToldOf input old new ending.NoInput = Keeps old new
ReplaysAs IsToldOf input old new ending.NoOutput = SpellsScript input (λ script. IsToldOf script (λ told. AppendsFront old new told))
ReplaysAs IsToldOf input old new other = ⊥

-- the same of the answers alone
abbrev pub Replays : Option (List ℕ) → Option (List ℕ) → Option (List ℕ) → Ending → Type 0
Replays = ReplaysAs AnswersScript

-- the core gives answers to these events, one step after another, of which this holds
abbrev pub IsAnswered : CoreState → List (Event Draft) → CoreState → (List Answer → Type 0) → Type 0
IsAnswered start events final Hold = (answers : List Answer) × Run start events answers final × Hold answers

-- lawful cores give answers to these events, one step after another, of the text of whose lines this holds
abbrev pub IsTold : Line → CoreState → List (Event Draft) → CoreState → (List ℕ → Type 0) → Type 0
IsTold line start events final Hold = (answers : List Answer) × (text : List ℕ) × Tells line start events answers final text × Hold text

-- the writer gained this text but for its last piece, which is still to be written
abbrev pub AppendsPiece : Option (List ℕ) → Option (List ℕ) → List ℕ → List ℕ → Type 0
AppendsPiece old new text piece = (written : List ℕ) × Appends old new written × (text ≡ written ++ piece)

-- the sink gained this text but for its last piece, and no write failed
abbrev pub ToldSoFar : SinkState → SinkState → List ℕ → List ℕ → Type 0
ToldSoFar old new text piece = AppendsPiece old.contents new.contents text piece × NoWriteFailed old new

-- the sink gained a front of this text, and a write failed
abbrev pub ToldFront : SinkState → SinkState → List ℕ → Type 0
ToldFront old new text = AppendsFront old.contents new.contents text × (new.failed ≡ true)

-- what was told of a text: all but its last piece, or a front where a write failed
abbrev pub Told : {E : Type 0} → SinkState → SinkState → Result (Unit {0}) E → List ℕ → List ℕ → Type 0
Told old new (Ok done) text piece = ToldSoFar old new text piece
Told old new (Err error) text piece = ToldFront old new text

-- all of a text was written, or a front where a write failed
abbrev pub Written : {E : Type 0} → SinkState → SinkState → Result (Unit {0}) E → List ℕ → Type 0
Written old new (Ok done) text = Appends old.contents new.contents text × NoWriteFailed old new
Written old new (Err error) text = ToldFront old new text
