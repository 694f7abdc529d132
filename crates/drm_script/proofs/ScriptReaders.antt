-- Scripts are read as they are spelled, and as nothing else.
use Rattle.std.proofs.Common.{◌≡◌, ℕ, ◌<◌, Bool, false, cond, List, [], ◌∷◌, ◌++◌, length, map, Result, Ok, Err, refl, sym, ap, subst, ◌∙◌, arith}
use Rattle.std.specs.Prelude.{nat_lt, IfOk}
use Rattle.std.proofs.lemmas.Bool.{ltb-false, le-ltb}
use Rattle.drm_core.specs.declared.event.Event.{Event}
use Rattle.drm_types.specs.declared.spec.DeviceSpec.{DeviceSpec}
use Rattle.drm_job.specs.declared.Draft.{Draft}
use Rattle.drm_text.specs.Cut.{Left}
use Rattle.drm_text.specs.declared.fault.Fault.{Fault}
use Rattle.drm_text.specs.declared.fault.Fault.TheVariants.{Text}
use Rattle.drm_text.specs.declared.fault.ReadError.{ReadError}
use Rattle.drm_text.specs.declared.fault.TextFault.TheVariants as what
use Rattle.drm_text.specs.Lines.{lines_of}
use Rattle.drm_text.specs.Reading.{◌>>=◌, Gives}
use Rattle.drm_text.proofs.LineReaders.{AreLines, cut_lines}
use Rattle.drm_text.proofs.WordReaders.{bind_ok, ok_is}
use Rattle.drm_script.specs.declared.script.Script.{Script}
use Rattle.drm_script.specs.Commands.{events_of}
use Rattle.drm_script.specs.Grammar.{command_words, SpellsScript}
use Rattle.drm_parse.specs.Header.{header_at}
use Rattle.drm_script.specs.Script.{script_of, judge_script}
use Rattle.drm_parse.proofs.SpelledLines.{header_graphic, some_lines, lines_are, text_is}
use Rattle.drm_script.proofs.CommandReaders.{Commands, events_take, events_in, events_again, command_graphic}
use Rattle.drm_parse.proofs.HeaderReaders.{as_bytes, left_in, header_takes, header_again}
use Rattle.drm_parse.proofs.JobReaders.{in_time}

commands_graphic : (spec : DeviceSpec) (events : List (Event Draft)) → Commands spec events → AreLines (map command_words events)
commands_graphic spec [] fit = tt
commands_graphic spec (x ∷ events) fit = (command_graphic spec x fit.0, commands_graphic spec events fit.1)

-- ---- scripts

abbrev the_script : DeviceSpec → List (Event Draft) → Script
the_script spec events = record { spec = spec; lines = events }

-- a text that is read as a script spells it
pub script_takes : (text : List ℕ) (script : Script) → judge_script text ≡ Ok script → SpellsScript text script
unfolding judge_script SpellsScript
script_takes text script e =
    let short = in_time (nat_lt 1048576 (length text)) (Text 0 0 what.TooLong) (script_of (lines_of text)) script e in
    let a = bind_ok (header_at (lines_of text)) (λ h. events_of h.0 [] h.1.line h.1.bytes h.1.more >>= λ events. Ok (the_script h.0 events)) script short.1 in
    let b = bind_ok (events_of a.0.0 [] a.0.1.line a.0.1.bytes a.0.1.more) (λ events. Ok (the_script a.0.0 events)) script a.2 in
    let h = header_takes (lines_of text) a.0 a.1 in
    let t = events_take a.0.0 [] a.0.1.line a.0.1.bytes a.0.1.more b.0 b.1 in
    let same : the_script a.0.0 t.0 ≡ script = ap (the_script a.0.0) (sym t.3) ∙ ok_is (the_script a.0.0 b.0) script b.2 in
    subst (λ (s : Script). SpellsScript text s) same (h.0, h.1, t.2, text_is text h.0 (map command_words t.0) a.0.1 h.2 t.1, ltb-false _ _ short.0)

events_left : (spec : DeviceSpec) (n : ℕ) (parts : List (List ℕ)) → 0 < length parts → events_of spec [] (left_in n parts).line (left_in n parts).bytes (left_in n parts).more ≡ events_in spec [] n parts
events_left spec n [] some = absurd (omega arith)
events_left spec n (bytes ∷ more) some = refl

-- a text that spells a script is read as it
pub script_again : (text : List ℕ) (script : Script) → SpellsScript text script → judge_script text ≡ Ok script
unfolding judge_script SpellsScript
script_again text script spells =
    let header = spells.0 in
    let commands = map command_words script.lines in
    let lines : lines_of text ≡ left_in 1 (as_bytes header ++ cut_lines commands) =
    lines_are text header commands (header_graphic header script.spec spells.1) (commands_graphic script.spec script.lines spells.2) spells.3 in
    let short : nat_lt 1048576 (length text) ≡ false = le-ltb _ _ spells.4 in
    let h = header_again 1 header script.spec (cut_lines commands) spells.1 (some_lines commands) in
    let events = events_left script.spec h.0 (cut_lines commands) (some_lines commands) ∙ events_again script.spec [] h.0 script.lines spells.2 in
    ap (λ (b : Bool). cond b (Err (Text 0 0 what.TooLong)) (script_of (lines_of text))) short
    ∙ ap script_of lines
    ∙ ap (λ (r : Result (DeviceSpec × Left) Fault). r >>= λ h. events_of h.0 [] h.1.line h.1.bytes h.1.more >>= λ events. Ok (the_script h.0 events)) h.1
    ∙ ap (λ (r : Result (List (Event Draft)) Fault). r >>= λ es. Ok (the_script script.spec es)) events

pub script_found : (text : List ℕ) (result : Result Script ReadError) → Gives (λ s. s) result (judge_script text) → IfOk result (λ s. SpellsScript text s)
script_found text (Ok script) gives = script_takes text script gives
script_found text (Err e) gives = tt

pub script_only : (text : List ℕ) (result : Result Script ReadError) → Gives (λ s. s) result (judge_script text) → (script : Script) → SpellsScript text script → Gives (λ s. s) result (Ok script)
script_only text result gives script spells = subst (λ (judged : Result Script Fault). Gives (λ s. s) result judged) (script_again text script spells) gives
