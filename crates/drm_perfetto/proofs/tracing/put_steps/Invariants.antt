use Rattle.std.proofs.Common.{List, length}
use Rattle.drm_state.specs.declared.answer.Answer.{Answer}
use Rattle.drm_core.specs.Run.{AllNamesExist}
use Rattle.drm_perfetto.specs.declared.entry.Entry.{Entry}
use Rattle.drm_perfetto.specs.Pens.{AddsEntries}
use Rattle.drm_perfetto.specs.Rows.{AllRows}
use Rattle.drm_perfetto.proofs.Traced.{TracesOn}
use Rattle.drm_perfetto.proofs.tracing.put_steps.Given as goal

abbrev pub invariant-loop-event : goal.invariant-loop-event
invariant-loop-event g l = record {
  names : AllNamesExist l.core.device.spec l.rest;
  rows : AllRows l.core l.rows;
  so_far : (given : List Answer) × (entries : List Entry) × TracesOn l.by l.fn.core l.fn.events given entries l.command l.at l.core l.rest × AddsEntries l.fn.pen l.fn.writer entries l.pen l.writer;
}

abbrev pub decreases-loop-event : goal.decreases-loop-event
decreases-loop-event g l = length l.rest
