use Rattle.drm_rules.specs.Lines.{ends, queues, runs}
use Rattle.drm_rules.proofs.Passing.{first_follows}
use Rattle.drm_rules.proofs.index.note.Goals as goal

pub returns : goal.returns
returns c = λ seen are. record {
  queued = first_follows queues seen c.args.event.now _ _ (rw c.queued_job.ensures at c.in_ok-note_first.ensures) are.queued;
  ran = first_follows runs seen c.args.event.now _ _ (rw c.run_job.ensures at c.in_ok-note_first-2.ensures) are.ran;
  ended = first_follows ends seen c.args.event.now _ _ (rw c.ended_job.ensures at c.in_ok-note_first-3.ensures) are.ended;
}
