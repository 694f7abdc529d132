use Rattle.drm_perfetto.specs.declared.lanes.Lane.TheVariants as lane
use Rattle.drm_perfetto.proofs.Pens.{entries_more}
use Rattle.drm_perfetto.proofs.RowFacts.{told_of_rows}
use Rattle.drm_perfetto.proofs.rows.Rows.put_changes.Goals as goal

pub returns-clause-entries : goal.returns-clause-entries
returns-clause-entries g c = λ old same all.
    let new = c.args.core.now in
    let when = c.args.when in
    let cause = c.args.cause in
    let rows = c.args.self.now in
    let wait_told = told_of_rows old new lane.Wait when cause rows.wait.items same all.wait c.follow.ensures.entries in
    let queue_told = told_of_rows old new lane.Queue when cause rows.queue.items same all.queue c.follow-2.ensures.entries in
    let ring_told = told_of_rows old new lane.Ring when cause rows.ring.items same all.ring c.follow-3.ensures.entries in
    let buffer_told = told_of_rows old new lane.Buffer when cause rows.buffer.items same all.buffer c.follow-4.ensures.entries in
    let credits_told = told_of_rows old new lane.Credits when cause rows.credits.items same all.credits c.follow-5.ensures.entries in
    let queued_told = told_of_rows old new lane.Queued when cause rows.queued.items same all.queued c.follow-6.ensures.entries in
    entries_more (entries_more (entries_more (entries_more (entries_more wait_told queue_told) ring_told) buffer_told) credits_told) queued_told

pub returns-clause-rows : goal.returns-clause-rows
returns-clause-rows g c = record {
  wait = c.follow.ensures.rows;
  queue = c.follow-2.ensures.rows;
  ring = c.follow-3.ensures.rows;
  buffer = c.follow-4.ensures.rows;
  credits = c.follow-5.ensures.rows;
  queued = c.follow-6.ensures.rows;
  known = c.follow-6.ensures.known;
}
