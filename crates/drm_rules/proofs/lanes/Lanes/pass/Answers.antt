use Rattle.drm_rules.specs.Lines.{queues_of, runs_of}
use Rattle.drm_rules.specs.Rules.{begins_on, ends_on}
use Rattle.drm_rules.proofs.Passing.{count_follows, last_follows}
use Rattle.drm_rules.proofs.lanes.Lanes.pass.Goals as goal

pub returns : goal.returns
returns c = λ seen few are.
    let log = c.args.index.now in
    record {
      queued = last_follows queues_of seen c.args.event.now _ _ (rw c.queued_entity.ensures at c.in_ok-note_last.ensures) are.queued;
      ran = last_follows runs_of seen c.args.event.now _ _ (rw c.run_entity.ensures at c.in_ok-note_last-2.ensures) are.ran;
      ended = last_follows (ends_on log) seen c.args.event.now _ _ (rw c.ended_ring-ring.ensures at c.in_ok-note_last-3.ensures) are.ended;
      begun = count_follows (begins_on log) seen c.args.event.now _ _ few (rw c.begun_ring.ensures at c.in_ok-count_one-2.ensures) are.begun;
      over = count_follows (ends_on log) seen c.args.event.now _ _ few (rw c.ended_ring-ring.ensures at c.in_ok-count_one.ensures) are.over;
    }
