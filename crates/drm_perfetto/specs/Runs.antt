-- Traces of runs that the engine has given to a core.
use Rattle.std.specs.Prelude.{List}
use Rattle.drm_job.specs.declared.Draft.{Draft}
use Rattle.drm_state.specs.declared.answer.Answer.{Answer}
use Rattle.drm_core.specs.State.{CoreState}
use Rattle.drm_core.specs.declared.event.Event.{Event}
use Rattle.drm_perfetto.specs.declared.clock.Clock.{Clock}
use Rattle.drm_perfetto.specs.declared.entry.Entry.{Entry}
use Rattle.drm_perfetto.specs.Traces.{IsTraced}

-- the core gives answers to these events, and this holds of the entries of their trace
abbrev pub IsTracedAs : Clock → CoreState → List (Event Draft) → CoreState → (List Entry → Type 0) → Type 0
IsTracedAs by start events final Hold =
    (answers : List Answer) × (entries : List Entry) × IsTraced by 0 0 start events answers final entries × Hold entries
