use Rattle.std.proofs.Common.{◌∷◌, []}
use Rattle.drm_perfetto.specs.Pens.{AddsEntries}
use Rattle.drm_perfetto.specs.declared.entry.Entry.TheVariants as entry
use Rattle.drm_perfetto.specs.Steps.{each}
use Rattle.drm_perfetto.specs.Traces.{track_of}
use Rattle.drm_perfetto.proofs.tracing.put_names.Given as goal

abbrev pub invariant-loop-number : goal.invariant-loop-number
invariant-loop-number g l = AddsEntries l.fn.pen l.fn.writer (each l.number (λ n. entry.Name (track_of l.lane n) ∷ [])) l.pen l.writer
