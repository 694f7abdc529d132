-- Answers that are told in pieces.
use Rattle.std.proofs.Common.{◌≡◌, ◌<◌, ℕ, ◌+◌, List, [], ◌∷◌, ◌++◌, length, take, append_assoc, append-nil, Option, None, Some, Ok, Err, Result, refl, sym, ap, subst, ◌∙◌, arith}
use Rattle.std.specs.Prelude.{is_ok, IfSome, OnSome, OnOk, OnErr, true, false}
use Rattle.std.specs.Io.KnownBytes.{Appends}
use Rattle.std.proofs.KnownBytes.{Appends-nil, Appends-trans}
use Rattle.std.proofs.Math.Seq.{take-append-add}
use Rattle.std.proofs.lemmas.List.{length-append, take-append-le}
use Rattle.drm_types.specs.declared.spec.DeviceSpec.{DeviceSpec}
use Rattle.drm_job.specs.declared.Draft.{Draft}
use Rattle.drm_state.specs.declared.answer.Answer.{Answer}
use Rattle.drm_core.specs.declared.event.Event.{Event}
use Rattle.drm_core.specs.State.{CoreState, opened}
use Rattle.drm_core.specs.Headline.{Headline}
use Rattle.drm_core.specs.Lawful.{IsLawful}
use Rattle.drm_core.specs.Run.{AllNamesExist, EveryRunIsLawful, Run}
use Rattle.drm_core.specs.Step.{Step}
use Rattle.drm_answer.specs.Answers.{line_of, text_of_answers}
use Rattle.drm_script.specs.Kept.{AnswersFirst}
use Rattle.drm_script.specs.Script.{judge_script}
use Rattle.drm_script.specs.declared.script.Script.{Script}
use Rattle.drm_stream.specs.Streams.{SinkState}
use Rattle.drm_stream.specs.Transfer.{AppendsFront, WritesOrFails}
use Rattle.drm_engine.specs.declared.ending.Ending.{Ending}
use Rattle.drm_engine.specs.declared.ending.Ending.TheVariants as ending
use Rattle.drm_engine.specs.Replaying.{AnswersScript, AppendsPiece, AreAnswers, IsAnswered, IsTold, Line, PlaysAs, ReplaysAs, Tells, TellsScript, Told, ToldFront, ToldSoFar, Written}

-- whatever run of the rest follows, it makes one of the whole with the answers so far
abbrev pub GoesOn : CoreState → List (Event Draft) → List Answer → CoreState → List (Event Draft) → Type 0
GoesOn start events so_far now rest = (more : List Answer) (new : CoreState) → Run now rest more new → Run start events (so_far ++ more) new

pub turn : (start now next : CoreState) (events rest : List (Event Draft)) (so_far : List Answer) (event : Event Draft) (answer : Answer) → Step now event answer next
    → GoesOn start events so_far now (event ∷ rest) → GoesOn start events (so_far ++ answer ∷ []) next rest
turn start now next events rest so_far event answer step goes_on more new run =
    subst (λ given. Run start events given new) (sym (append_assoc so_far (answer ∷ []) more)) (goes_on (answer ∷ more) new (next, step, run))

pub run_ends : (start now : CoreState) (events rest : List (Event Draft)) (so_far : List Answer) → rest ≡ [] → GoesOn start events so_far now rest → Run start events so_far now
run_ends start now events [] so_far none goes_on = subst (λ given. Run start events given now) (append-nil so_far) (goes_on [] now refl)
run_ends start now events (event ∷ rest) so_far none goes_on = absurd (cc)

-- whatever lines are told of the rest, with those so far they are the lines of the whole
abbrev pub TellsOn : Line → CoreState → List (Event Draft) → List Answer → CoreState → List (Event Draft) → List ℕ → Type 0
TellsOn line start events so_far now rest said =
    (more : List Answer) (new : CoreState) (text : List ℕ) → Tells line now rest more new text → Tells line start events (so_far ++ more) new (said ++ text)

-- more answers and their lines behind those so far
tells_on : (line : Line) (start new : CoreState) (events : List (Event Draft)) (so_far answers more : List Answer) (said told text : List ℕ)
    → Tells line start events (so_far ++ (answers ++ more)) new (said ++ (told ++ text)) → Tells line start events ((so_far ++ answers) ++ more) new ((said ++ told) ++ text)
tells_on line start new events so_far answers more said told text tells =
    subst (λ (given : List Answer). Tells line start events given new ((said ++ told) ++ text)) (sym (append_assoc so_far answers more))
    (subst (λ (t : List ℕ). Tells line start events (so_far ++ (answers ++ more)) new t) (sym (append_assoc said told text)) tells)

-- one line more, by the first event that is left
pub turned : (line : Line) (start now next : CoreState) (events rest left : List (Event Draft)) (so_far : List Answer) (said : List ℕ) (answer : Answer)
    (first : AnswersFirst now rest answer next left) → IsLawful now → TellsOn line start events so_far now rest said
    → TellsOn line start events (so_far ++ answer ∷ []) next left (said ++ line now first.0 answer next)
turned line start now next events rest left so_far said answer first lawful tells_more more new text tells =
    let told = line now first.0 answer next in
    let all : Tells line now (first.0 ∷ left) (answer ∷ more) new (told ++ text) = (lawful, (next, text, first.2, tells, refl)) in
    tells_on line start new events so_far (answer ∷ []) more said told text
    (tells_more (answer ∷ more) new (told ++ text) (subst (λ (es : List (Event Draft)). Tells line now es (answer ∷ more) new (told ++ text)) (sym first.1) all))

-- the lines of some events, and those of the events behind them
tells_behind : (line : Line) (start mid new : CoreState) (first rest : List (Event Draft)) (answers more : List Answer) (told text : List ℕ) → Tells line start first answers mid told
    → Tells line mid rest more new text → Tells line start (first ++ rest) (answers ++ more) new (told ++ text)
tells_behind line start mid new [] rest [] more told text one other =
    subst (λ (s : CoreState). Tells line s rest more new (told ++ text)) one.1
    (subst (λ (t : List ℕ). Tells line mid rest more new (t ++ text)) (sym one.2) other)
tells_behind line start mid new [] rest (answer ∷ answers) more told text one other = absurd one
tells_behind line start mid new (event ∷ first) rest [] more told text one other = absurd one
tells_behind line start mid new (event ∷ first) rest (answer ∷ answers) more told text one other =
    let next = one.1.0 in
    let behind = one.1.1 in (
      one.0,
      (
        next,
        behind ++ text,
        one.1.2,
        tells_behind line next mid new first rest answers more behind text one.1.3 other,
        ap (λ (t : List ℕ). t ++ text) one.1.4 ∙ append_assoc (line start event answer next) behind text,
      ),
    )

-- the lines of a chunk more
pub chunk_turned : (line : Line) (start now next : CoreState) (events chunk rest : List (Event Draft)) (so_far answers : List Answer) (said told : List ℕ) → Tells line now chunk answers next told
    → TellsOn line start events so_far now (chunk ++ rest) said → TellsOn line start events (so_far ++ answers) next rest (said ++ told)
chunk_turned line start now next events chunk rest so_far answers said told tells tells_more more new text behind =
    tells_on line start new events so_far answers more said told text
    (tells_more (answers ++ more) new (told ++ text) (tells_behind line now next new chunk rest answers more told text tells behind))

-- all events of a chunk name what is there, and so do those behind it
pub names_first : (spec : DeviceSpec) (chunk rest : List (Event Draft)) → AllNamesExist spec (chunk ++ rest) → AllNamesExist spec chunk
names_first spec [] rest names = tt
names_first spec (event ∷ chunk) rest names = (names.0, names_first spec chunk rest names.1)

pub names_behind : (old new : DeviceSpec) (chunk rest : List (Event Draft)) → new ≡ old → AllNamesExist old (chunk ++ rest) → AllNamesExist new rest
names_behind old new [] rest same names = subst (λ spec. AllNamesExist spec rest) (sym same) names
names_behind old new (event ∷ chunk) rest same names = names_behind old new chunk rest same names.1

-- nothing is left
pub tells_end : (line : Line) (start now : CoreState) (events rest : List (Event Draft)) (so_far : List Answer) (said : List ℕ) → rest ≡ [] → IsLawful now
    → TellsOn line start events so_far now rest said → Tells line start events so_far now said
tells_end line start now events [] so_far said none lawful tells_more =
    subst (λ (given : List Answer). Tells line start events given now said) (append-nil so_far)
    (subst (λ (t : List ℕ). Tells line start events (so_far ++ []) now t) (append-nil said) (tells_more [] now [] (lawful, refl, refl)))
tells_end line start now events (event ∷ rest) so_far said none lawful tells_more = absurd (cc)

-- events of which lines are told make a run
told_run : (line : Line) (start final : CoreState) (events : List (Event Draft)) (answers : List Answer) (text : List ℕ) → Tells line start events answers final text → Run start events answers final
told_run line start final [] [] text told = told.1
told_run line start final [] (answer ∷ answers) text never = absurd never
told_run line start final (event ∷ events) [] text never = absurd never
told_run line start final (event ∷ events) (answer ∷ answers) text told =
    (told.1.0, told.1.2, told_run line told.1.0 final events answers told.1.1 told.1.3)

-- what was written first, and then a piece with more behind it
pub piece_behind : (a b c : Option (List ℕ)) (text piece more left : List ℕ) → AppendsPiece a b text piece → AppendsPiece b c (piece ++ more) left → AppendsPiece a c (text ++ more) left
piece_behind a b c text piece more left p q =
    (p.0 ++ q.0, Appends-trans a b c p.0 q.0 p.1 q.1, ap (λ l. l ++ more) p.2 ∙ append_assoc p.0 piece more ∙ ap (λ l. p.0 ++ l) q.2 ∙ sym (append_assoc p.0 q.0 left))

pub front_behind : (a b c : Option (List ℕ)) (text piece more : List ℕ) → AppendsPiece a b text piece → AppendsFront b c (piece ++ more) → AppendsFront a c (text ++ more)
front_behind a b c text piece more p q =
    let is : text ++ more ≡ p.0 ++ (piece ++ more) = ap (λ l. l ++ more) p.2 ∙ append_assoc p.0 piece more in
    let some : q.0 < length (piece ++ more) = q.1 in
    let behind : length p.0 + q.0 < length (p.0 ++ (piece ++ more)) = omega (arith, some, length-append p.0 (piece ++ more)) in
    subst (AppendsFront a c) (sym is)
    (length p.0 + q.0, behind, subst (Appends a c) (sym (take-append-add p.0 (piece ++ more) q.0)) (Appends-trans a b c p.0 (take q.0 (piece ++ more)) p.1 q.2))

-- a front of a text is one of a longer text
pub front_of_more : (a b : Option (List ℕ)) (text more : List ℕ) → AppendsFront a b text → AppendsFront a b (text ++ more)
front_of_more a b text more p =
    let some : p.0 < length text = p.1 in
    (p.0, omega (arith, some, length-append text more), subst (Appends a b) (sym (take-append-le p.0 text more (omega (arith, some)))) p.2)

-- where nothing was written, all is still to be written
pub kept_so_far : (a : SinkState) (piece : List ℕ) → ToldSoFar a a piece piece
kept_so_far a piece = (([], Appends-nil a.contents, refl), refl)

-- more that is still to be written
pub so_far_behind : (a b : SinkState) (text piece more : List ℕ) → ToldSoFar a b text piece → ToldSoFar a b (text ++ more) (piece ++ more)
so_far_behind a b text piece more p = ((p.0.0, p.0.1, ap (λ (l : List ℕ). l ++ more) p.0.2 ∙ append_assoc p.0.0 piece more), p.1)

-- more text behind all that was told so far
pub so_far_next : (a b c : SinkState) (text more piece left : List ℕ) → ToldSoFar a b text piece → ToldSoFar b c (piece ++ more) left → ToldSoFar a c (text ++ more) left
so_far_next a b c text more piece left p q = (piece_behind a.contents b.contents c.contents text piece more left p.0 q.0, q.1 ∙ p.1)

pub front_next : (a b c : SinkState) (text more piece : List ℕ) → ToldSoFar a b text piece → ToldFront b c (piece ++ more) → ToldFront a c (text ++ more)
front_next a b c text more piece p q = (front_behind a.contents b.contents c.contents text piece more p.0 q.0, q.1)

pub told_next : {E : Type 0} (a b c : SinkState) (next : Result (Unit {0}) E) (text more piece left : List ℕ) → ToldSoFar a b text piece → Told b c next (piece ++ more) left → Told a c next (text ++ more) left
told_next a b c (Ok v) text more piece left p q = so_far_next a b c text more piece left p q
told_next a b c (Err e) text more piece left p q = front_next a b c text more piece p q

-- ---- lines

-- what was answered so far, and told of it
abbrev pub SaidSoFar : {E : Type 0} → Line → SinkState → SinkState → CoreState → CoreState → List (Event Draft) → List (Event Draft) → Result (Unit {0}) E → List ℕ → Type 0
SaidSoFar line old new start now events rest told piece =
    (given : List Answer) × (said : List ℕ) × TellsOn line start events given now rest said × Told old new told said piece

-- the same of a part of the events, whatever was told before it
abbrev pub SaidOfPart : {E : Type 0} → Line → SinkState → SinkState → CoreState → CoreState → List (Event Draft) → List (Event Draft) → Result (Unit {0}) E → Result (Unit {0}) E → List ℕ → List ℕ → Type 0
SaidOfPart line from now_at start now events rest before told first piece =
    (given : List Answer) × (said : List ℕ) × TellsOn line start events given now rest said
    × ((old : SinkState) (text : List ℕ) → Told old from before text first → Told old now_at told (text ++ said) piece)

-- before the first event nothing is answered, and nothing told
tells_from : (line : Line) (start : CoreState) (events rest : List (Event Draft)) → rest ≡ events → TellsOn line start events [] start rest []
tells_from line start events rest same more new text tells = subst (λ (es : List (Event Draft)). Tells line start es more new text) same tells

pub nothing_said : (line : Line) (a : SinkState) (start : CoreState) (events rest : List (Event Draft)) (piece : List ℕ) → rest ≡ events → piece ≡ []
    → (given : List Answer) × (said : List ℕ) × TellsOn line start events given start rest said × ToldSoFar a a said piece
nothing_said line a start events rest piece same none =
    ([], [], tells_from line start events rest same, (([], Appends-nil a.contents, sym none), refl))

pub nothing_of_part : {E : Type 0} (line : Line) (a : SinkState) (start : CoreState) (events rest : List (Event Draft)) (before : Result (Unit {0}) E) (piece : List ℕ) → rest ≡ events
    → SaidOfPart line a a start start events rest before before piece piece
nothing_of_part line a start events rest before piece same =
    ([], [], tells_from line start events rest same, λ old text was. subst (λ (t : List ℕ). Told old a before t piece) (sym (append-nil text)) was)

-- those that have the answers alone are the lines of the answers
abbrev pub bare_line : Line
bare_line before event answer after = line_of answer

told_answers : (start final : CoreState) (events : List (Event Draft)) (answers : List Answer) (text : List ℕ) → Tells bare_line start events answers final text → text ≡ text_of_answers answers
told_answers start final [] [] text told = told.2
told_answers start final [] (answer ∷ answers) text never = absurd never
told_answers start final (event ∷ events) [] text never = absurd never
told_answers start final (event ∷ events) (answer ∷ answers) text told =
    told.1.4 ∙ ap (λ (t : List ℕ). line_of answer ++ t) (told_answers told.1.0 final events answers told.1.1 told.1.3)

-- ---- what was written of them

-- a front of a text is one of a longer text
pub front_longer : (a b : SinkState) (text more : List ℕ) → ToldFront a b text → ToldFront a b (text ++ more)
front_longer a b text more p = (front_of_more a.contents b.contents text more p.0, p.1)

-- the piece was written
pub piece_written : {E : Type 0} (a b : SinkState) (done : Result (Unit {0}) E) (piece left : List ℕ) → is_ok done ≡ true → OnOk done (Appends a.contents b.contents piece)
    → WritesOrFails a b done → left ≡ [] → ToldSoFar a b piece left
piece_written a b (Ok u) piece left is ok fails none = ((piece, ok, rw none (sym (append-nil piece))), fails)
piece_written a b (Err e) piece left is ok fails none = absurd (cc)

-- or it was not
pub piece_lost : {E : Type 0} (a b : SinkState) (done : Result (Unit {0}) E) (piece : List ℕ) → is_ok done ≡ false → OnErr done (AppendsFront a.contents b.contents piece)
    → WritesOrFails a b done → ToldFront a b piece
piece_lost a b (Ok u) piece is err fails = absurd (cc)
piece_lost a b (Err e) piece is err fails = (err, fails)

pub told_written : {E : Type 0} (a b c : SinkState) (next : Result (Unit {0}) E) (text piece left : List ℕ) → ToldSoFar a b text piece → Told b c next piece left → Told a c next text left
told_written a b c next text piece left p q =
    subst (λ (t : List ℕ). Told a c next t left) (append-nil text)
    (told_next a b c next text [] piece left p (subst (λ (t : List ℕ). Told b c next t left) (sym (append-nil piece)) q))

-- one answer more, where all could be told so far
pub told_more : {E : Type 0} (a b c : SinkState) (told next : Result (Unit {0}) E) (text line piece left : List ℕ) → is_ok told ≡ true → Told a b told text piece
    → Told b c next (piece ++ line) left → Told a c next (text ++ line) left
told_more a b c (Ok u) next text line piece left is p q = told_next a b c next text line piece left p q
told_more a b c (Err e) next text line piece left is p q = absurd (cc)

-- and where one could not be told
pub told_less : {E : Type 0} (a b : SinkState) (told : Result (Unit {0}) E) (text line piece : List ℕ) → is_ok told ≡ false → Told a b told text piece → Told a b told (text ++ line) piece
told_less a b (Ok u) text line piece is p = absurd (cc)
told_less a b (Err e) text line piece is p = front_longer a b text line p

-- the same of one line more behind what was said of a part
pub said_more : {E : Type 0} (a b c : SinkState) (told next : Result (Unit {0}) E) (text said line piece left : List ℕ) → is_ok told ≡ true → Told a b told (text ++ said) piece
    → Told b c next (piece ++ line) left → Told a c next (text ++ (said ++ line)) left
said_more a b c told next text said line piece left is p q =
    subst (λ (t : List ℕ). Told a c next t left) (append_assoc text said line) (told_more a b c told next (text ++ said) line piece left is p q)

pub said_less : {E : Type 0} (a b : SinkState) (told : Result (Unit {0}) E) (text said line piece : List ℕ) → is_ok told ≡ false → Told a b told (text ++ said) piece
    → Told a b told (text ++ (said ++ line)) piece
said_less a b told text said line piece is p =
    subst (λ (t : List ℕ). Told a b told t piece) (append_assoc text said line) (told_less a b told (text ++ said) line piece is p)

-- where no piece is left, all is written
pub all_written : {E : Type 0} (a b : SinkState) (told : Result (Unit {0}) E) (text piece : List ℕ) → piece ≡ [] → Told a b told text piece → Written a b told text
all_written a b (Ok u) text piece none p =
    (subst (Appends a.contents b.contents) (sym (p.0.2 ∙ ap (λ (l : List ℕ). p.0.0 ++ l) none ∙ append-nil p.0.0)) p.0.1, p.1)
all_written a b (Err e) text piece none p = p

-- what holds anyway holds where there is a value
pub if_any : {A : Type 0} (o : Option A) (P : Type 0) → P → OnSome o P
if_any None P p = tt
if_any (Some x) P p = p

pub holds_of_ok : {A E : Type 0} (r : Result A E) (P : Type 0) → is_ok r ≡ true → OnOk r P → P
holds_of_ok (Ok x) P is p = p
holds_of_ok (Err e) P is p = absurd (cc)

-- a core that was opened is lawful
pub opened_lawful : (spec : DeviceSpec) → EveryRunIsLawful → IsLawful (opened spec)
opened_lawful spec lawful = (lawful spec [] [] (opened spec) tt refl).0

-- answers to the events of a script by a core that was opened as its device
pub played : (script : Script) (core final : CoreState) (events : List (Event Draft)) (Hold : List Answer → Type 0) → EveryRunIsLawful → Headline → core ≡ opened script.spec
    → events ≡ script.lines → AllNamesExist script.spec script.lines → IsAnswered core events final Hold → (answers : List Answer) × AreAnswers script answers × Hold answers
played script core final events Hold lawful promised core_is events_is names a =
    let run : Run (opened script.spec) script.lines a.0 final =
    subst (λ (s : CoreState). Run s script.lines a.0 final) core_is (subst (λ (es : List (Event Draft)). Run core es a.0 final) events_is a.1) in
    (a.0, (final, lawful script.spec script.lines a.0 final names run, promised script.spec script.lines a.0 final names run), a.2)

-- the lines of the events of a script by a core that was opened as its device
pub played_lines : (line : Line) (script : Script) (core final : CoreState) (events : List (Event Draft)) (Hold : List ℕ → Type 0) → EveryRunIsLawful → Headline → core ≡ opened script.spec
    → events ≡ script.lines → AllNamesExist script.spec script.lines → IsTold line core events final Hold → TellsScript line script Hold
played_lines line script core final events Hold lawful promised core_is events_is names a =
    let start = opened script.spec in
    let tells : Tells line start script.lines a.0 final a.1 =
    subst (λ (s : CoreState). Tells line s script.lines a.0 final a.1) core_is (subst (λ (es : List (Event Draft)). Tells line core es a.0 final a.1) events_is a.2) in
    let run = told_run line start final script.lines a.0 a.1 tells in
    (a.0, (final, lawful script.spec script.lines a.0 final names run, promised script.spec script.lines a.0 final names run), (final, a.1, tells, a.3))

-- what an ending says of a script, it says of the input that spells it
pub plays_spelled : (IsToldOf : Script → (List ℕ → Type 0) → Type 0) (script : Script) (input old new : Option (List ℕ)) (ended : Ending) → IfSome input (λ bytes. judge_script bytes ≡ Ok script)
    → PlaysAs IsToldOf script old new ended → ReplaysAs IsToldOf input old new ended
plays_spelled IsToldOf script input old new ending.Done spelled told = (script, spelled, told)
plays_spelled IsToldOf script input old new ending.Differs spelled never = absurd never
plays_spelled IsToldOf script input old new (ending.GaveUp worker turns) spelled never = absurd never
plays_spelled IsToldOf script input old new ending.NoThread spelled never = absurd never
plays_spelled IsToldOf script input old new (ending.Fault fault) spelled never = absurd never
plays_spelled IsToldOf script input old new ending.TooMany spelled never = absurd never
plays_spelled IsToldOf script input old new ending.NoCount spelled never = absurd never
plays_spelled IsToldOf script input old new ending.Stuck spelled never = absurd never
plays_spelled IsToldOf script input old new ending.MoreStates spelled never = absurd never
plays_spelled IsToldOf script input old new ending.NoStates spelled never = absurd never
plays_spelled IsToldOf script input old new (ending.Unexplained word) spelled never = absurd never
plays_spelled IsToldOf script input old new ending.NoMemory spelled kept = kept
plays_spelled IsToldOf script input old new ending.NoInput spelled never = absurd never
plays_spelled IsToldOf script input old new ending.NoOutput spelled told = (script, spelled, told)

-- the lines that have the answers alone
bare_script : (script : Script) (Hold : List ℕ → Type 0) → TellsScript bare_line script Hold → AnswersScript script Hold
bare_script script Hold told =
    (told.0, told.1, subst Hold (told_answers (opened script.spec) told.2.0 script.lines told.0 told.2.1 told.2.2) told.2.3)

pub plays_bare : (script : Script) (old new : Option (List ℕ)) (ended : Ending) → PlaysAs (TellsScript bare_line) script old new ended → PlaysAs AnswersScript script old new ended
plays_bare script old new ending.Done told = bare_script script (λ text. Appends old new text) told
plays_bare script old new ending.Differs never = absurd never
plays_bare script old new (ending.GaveUp worker turns) never = absurd never
plays_bare script old new ending.NoThread never = absurd never
plays_bare script old new (ending.Fault fault) never = absurd never
plays_bare script old new ending.TooMany never = absurd never
plays_bare script old new ending.NoCount never = absurd never
plays_bare script old new ending.Stuck never = absurd never
plays_bare script old new ending.MoreStates never = absurd never
plays_bare script old new ending.NoStates never = absurd never
plays_bare script old new (ending.Unexplained word) never = absurd never
plays_bare script old new ending.NoMemory kept = kept
plays_bare script old new ending.NoInput never = absurd never
plays_bare script old new ending.NoOutput told = bare_script script (λ text. AppendsFront old new text) told
