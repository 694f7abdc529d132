-- Traces of runs: the steps so far, and one more.
use Rattle.std.proofs.Common.{◌≡◌, ℕ, List, [], ◌∷◌, ◌++◌, Option, Ok, append_assoc, append-nil, refl, subst, sym}
use Rattle.std.specs.Prelude.{IfSome}
use Rattle.drm_job.specs.declared.Draft.{Draft}
use Rattle.drm_state.specs.declared.answer.Answer.{Answer}
use Rattle.drm_core.specs.declared.event.Event.{Event}
use Rattle.drm_core.specs.Headline.{Headline}
use Rattle.drm_core.specs.Run.{AllNamesExist, Run}
use Rattle.drm_core.specs.State.{CoreState, opened}
use Rattle.drm_core.specs.Step.{Step}
use Rattle.drm_script.specs.Script.{judge_script}
use Rattle.drm_script.specs.declared.script.Script.{Script}
use Rattle.drm_engine.specs.declared.ending.Ending.{Ending}
use Rattle.drm_engine.specs.declared.ending.Ending.TheVariants as ending
use Rattle.drm_perfetto.specs.declared.clock.Clock.{Clock}
use Rattle.drm_perfetto.specs.declared.entry.Entry.{Entry}
use Rattle.drm_perfetto.specs.Runs.{IsTracedAs}
use Rattle.drm_perfetto.specs.Steps.{step_entries}
use Rattle.drm_perfetto.specs.Traces.{IsTraceOf, IsTraced, Traces, TracesScript, later, text_of_trace, time_of, when_of}

-- whatever trace of the rest follows, it makes one of the whole with the answers and the entries so far
abbrev pub TracesOn : Clock → CoreState → List (Event Draft) → List Answer → List Entry → ℕ → ℕ → CoreState → List (Event Draft) → Type 0
TracesOn by start events given entries command last now rest =
    (more : List Answer) (new : CoreState) (behind : List Entry) → IsTraced by command last now rest more new behind
    → IsTraced by 0 0 start events (given ++ more) new (entries ++ behind)

pub traced_none : (by : Clock) (start : CoreState) (events rest : List (Event Draft)) → rest ≡ events → TracesOn by start events [] [] 0 0 start rest
traced_none by start events rest same more new behind run = subst (λ (es : List (Event Draft)). IsTraced by 0 0 start es more new behind) same run

-- what a step of this number adds
abbrev pub added : Clock → ℕ → ℕ → CoreState → Event Draft → Answer → CoreState → List Entry
added by command last now event answer next = step_entries (when_of by command last event) now event answer next

pub traced_turn : (by : Clock) (start now next : CoreState) (events rest left : List (Event Draft)) (given : List Answer) (entries : List Entry) (command last : ℕ) (event : Event Draft) (answer : Answer)
    → rest ≡ event ∷ left → Step now event answer next → TracesOn by start events given entries command last now rest
    → TracesOn by start events (given ++ answer ∷ []) (entries ++ added by command last now event answer next) (later command) (time_of by command last event) next left
traced_turn by start now next events rest left given entries command last event answer split step on more new behind run =
    let more_entries = added by command last now event answer next in
    let first : IsTraced by command last now (event ∷ left) (answer ∷ more) new (more_entries ++ behind) = (next, step, (behind, refl, run)) in
    let whole = on (answer ∷ more) new (more_entries ++ behind)
    (subst (λ (es : List (Event Draft)). IsTraced by command last now es (answer ∷ more) new (more_entries ++ behind)) (sym split) first) in
    subst (λ (gs : List Answer). IsTraced by 0 0 start events gs new ((entries ++ more_entries) ++ behind)) (sym (append_assoc given (answer ∷ []) more))
    (subst (λ (es : List Entry). IsTraced by 0 0 start events (given ++ answer ∷ more) new es) (sym (append_assoc entries more_entries behind)) whole)

pub traced_end : (by : Clock) (start now : CoreState) (events rest : List (Event Draft)) (given : List Answer) (entries : List Entry) (command last : ℕ) → rest ≡ []
    → TracesOn by start events given entries command last now rest → IsTraced by 0 0 start events given now entries
traced_end by start now events rest given entries command last none on =
    let end : IsTraced by command last now [] [] now [] = (refl, refl) in
    subst (λ (gs : List Answer). IsTraced by 0 0 start events gs now entries) (append-nil given)
    (subst (λ (es : List Entry). IsTraced by 0 0 start events (given ++ []) now es) (append-nil entries)
    (on [] now [] (subst (λ (es : List (Event Draft)). IsTraced by command last now es [] now []) (sym none) end)))

-- what is traced is a run
traced_runs : (by : Clock) (command last : ℕ) (start final : CoreState) (events : List (Event Draft)) (answers : List Answer) (entries : List Entry)
    → IsTraced by command last start events answers final entries → Run start events answers final
traced_runs by command last start final [] [] entries run = run.0
traced_runs by command last start final [] (answer ∷ answers) entries never = absurd never
traced_runs by command last start final (event ∷ events) [] entries never = absurd never
traced_runs by command last start final (event ∷ events) (answer ∷ answers) entries run =
    (run.0, run.1, traced_runs by (later command) (time_of by command last event) run.0 final events answers run.2.0 run.2.2)

-- a trace of the events of a script by a core that was opened as its device
pub trace_of : (by : Clock) (script : Script) (core final : CoreState) (events : List (Event Draft)) (Hold : List ℕ → Type 0) → Headline → core ≡ opened script.spec → events ≡ script.lines
    → AllNamesExist script.spec script.lines → IsTracedAs by core events final (λ entries. Hold (text_of_trace core.device.spec entries))
    → (text : List ℕ) × IsTraceOf by script text × Hold text
trace_of by script core final events Hold promised core_is events_is names traced =
    let told : IsTracedAs by (opened script.spec) script.lines final (λ entries. Hold (text_of_trace script.spec entries)) =
    subst (λ (s : CoreState). IsTracedAs by s script.lines final (λ entries. Hold (text_of_trace s.device.spec entries))) core_is
    (subst (λ (es : List (Event Draft)). IsTracedAs by core es final (λ entries. Hold (text_of_trace core.device.spec entries))) events_is traced) in
    let run = traced_runs by 0 0 (opened script.spec) final script.lines told.0 told.1 told.2 in (
      text_of_trace script.spec told.1,
      (told.0, final, told.1, told.2, promised script.spec script.lines told.0 final names run, refl),
      told.3,
    )

-- what an ending says of a script, it says of the input that spells it
pub traces_spelled : (by : Clock) (script : Script) (input old new : Option (List ℕ)) (ended : Ending) → IfSome input (λ bytes. judge_script bytes ≡ Ok script) → TracesScript by script old new ended → Traces by input old new ended
traces_spelled by script input old new ending.Done spelled told = (script, spelled, told)
traces_spelled by script input old new ending.NoMemory spelled kept = kept
traces_spelled by script input old new ending.NoOutput spelled told = (script, spelled, told)
traces_spelled by script input old new other spelled never = absurd never
