use Rattle.drm_perfetto.specs.Pens.{AddsEntries}
use Rattle.drm_perfetto.specs.Traces.{names_of_lane}
use Rattle.drm_perfetto.specs.declared.lanes.Lane.TheVariants as lane
use Rattle.drm_perfetto.proofs.Pens.{entries_more}
use Rattle.drm_perfetto.proofs.tracing.put_all_names.Goals as goal

pub returns : goal.returns
returns g c =
    let spec = c.args.core.now.device.spec in
    let rings : AddsEntries c.args.pen.now c.args.writer.now (names_of_lane spec lane.Ring) c.put_names.new.pen c.put_names.new.writer = c.put_names.ensures in
    let queues : AddsEntries c.put_names.new.pen c.put_names.new.writer (names_of_lane spec lane.Queue) c.put_names-2.new.pen c.put_names-2.new.writer = c.put_names-2.ensures in
    let waits : AddsEntries c.put_names-2.new.pen c.put_names-2.new.writer (names_of_lane spec lane.Wait) c.put_names-3.new.pen c.put_names-3.new.writer = c.put_names-3.ensures in
    let buffers : AddsEntries c.put_names-3.new.pen c.put_names-3.new.writer (names_of_lane spec lane.Buffer) c.put_names-4.new.pen c.put_names-4.new.writer = c.put_names-4.ensures in
    entries_more (entries_more (entries_more rings queues) waits) buffers
