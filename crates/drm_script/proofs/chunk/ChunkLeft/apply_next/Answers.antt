use Rattle.std.proofs.Common.{refl}
use Rattle.drm_core.specs.declared.event.Event.TheVariants as event
use Rattle.drm_script.proofs.chunk.ChunkLeft.apply_next.Goals as goal
use Rattle.drm_script.proofs.chunk.ChunkLeft.apply_next.Goals.{in-Submit, in-Begin, in-Try, in-Done, in-Drop, in-End, in-Plan, in-Arm, in-Pick, in-Step, in-Finish, in-Timeout, in-Cancel, in-Reap, in-Read, in-Status, in-Dump}

pub returns-clause-some : goal.returns-clause-some
returns-clause-some c =
    elim c.match-kept.branch [
      | in-Submit w ↦ rw (w.self-is, w.answer-is, w.core-is, ← c.self.view_is, c.in_ok-kept.ensures.items, w.in-Submit.is, w.next_job-job.ensures) (event.Submit w.next_job-job.result, refl, w.apply-answer.ensures.step)
      | in-Begin w ↦ rw (w.self-is, w.answer-is, w.core-is, ← c.self.view_is, c.in_ok-kept.ensures.items, w.in-Begin.is) (event.Begin w.in-Begin.ctx, refl, w.apply-answer-in-Begin.ensures.step)
      | in-Try w ↦ rw (w.self-is, w.answer-is, w.core-is, ← c.self.view_is, c.in_ok-kept.ensures.items, w.in-Try.is) (event.Try w.in-Try.ctx w.in-Try.buffer, refl, w.apply-answer-in-Try.ensures.step)
      | in-Done w ↦ rw (w.self-is, w.answer-is, w.core-is, ← c.self.view_is, c.in_ok-kept.ensures.items, w.in-Done.is) (event.Done w.in-Done.ctx, refl, w.apply-answer-in-Done.ensures.step)
      | in-Drop w ↦ rw (w.self-is, w.answer-is, w.core-is, ← c.self.view_is, c.in_ok-kept.ensures.items, w.in-Drop.is) (event.Drop w.in-Drop.ctx w.in-Drop.buffer, refl, w.apply-answer-in-Drop.ensures.step)
      | in-End w ↦ rw (w.self-is, w.answer-is, w.core-is, ← c.self.view_is, c.in_ok-kept.ensures.items, w.in-End.is) (event.End w.in-End.ctx, refl, w.apply-answer-in-End.ensures.step)
      | in-Plan w ↦ rw (w.self-is, w.answer-is, w.core-is, ← c.self.view_is, c.in_ok-kept.ensures.items, w.in-Plan.is, w.next_job-job-in-Plan.ensures) (event.Plan w.in-Plan.ctx w.next_job-job-in-Plan.result, refl, w.apply-answer-in-Plan.ensures.step)
      | in-Arm w ↦ rw (w.self-is, w.answer-is, w.core-is, ← c.self.view_is, c.in_ok-kept.ensures.items, w.in-Arm.is) (event.Arm w.in-Arm.ctx, refl, w.apply-answer-in-Arm.ensures.step)
      | in-Pick w ↦ rw (w.self-is, w.answer-is, w.core-is, ← c.self.view_is, c.in_ok-kept.ensures.items, w.in-Pick.is) (event.Pick w.in-Pick.ring w.in-Pick.now, refl, w.apply-answer-in-Pick.ensures.step)
      | in-Step w ↦ rw (w.self-is, w.answer-is, w.core-is, ← c.self.view_is, c.in_ok-kept.ensures.items, w.in-Step.is) (event.Step w.in-Step.ring, refl, w.apply-answer-in-Step.ensures.step)
      | in-Finish w ↦ rw (w.self-is, w.answer-is, w.core-is, ← c.self.view_is, c.in_ok-kept.ensures.items, w.in-Finish.is) (event.Finish w.in-Finish.ring w.in-Finish.now, refl, w.apply-answer-in-Finish.ensures.step)
      | in-Timeout w ↦ rw (w.self-is, w.answer-is, w.core-is, ← c.self.view_is, c.in_ok-kept.ensures.items, w.in-Timeout.is) (event.Timeout w.in-Timeout.ring w.in-Timeout.now, refl, w.apply-answer-in-Timeout.ensures.step)
      | in-Cancel w ↦ rw (w.self-is, w.answer-is, w.core-is, ← c.self.view_is, c.in_ok-kept.ensures.items, w.in-Cancel.is) (event.Cancel w.in-Cancel.entity, refl, w.apply-answer-in-Cancel.ensures.step)
      | in-Reap w ↦ rw (w.self-is, w.answer-is, w.core-is, ← c.self.view_is, c.in_ok-kept.ensures.items, w.in-Reap.is) (event.Reap w.in-Reap.entity, refl, w.apply-answer-in-Reap.ensures.step)
      | in-Read w ↦ rw (w.self-is, w.answer-is, w.core-is, ← c.self.view_is, c.in_ok-kept.ensures.items, w.in-Read.is) (event.Read w.in-Read.ctx w.in-Read.buffer, refl, w.apply-answer-in-Read.ensures.step)
      | in-Status w ↦ rw (w.self-is, w.answer-is, w.core-is, ← c.self.view_is, c.in_ok-kept.ensures.items, w.in-Status.is) (event.Status w.in-Status.fence, refl, w.apply-answer-in-Status.ensures.step)
      | in-Dump w ↦ rw (w.self-is, w.answer-is, w.core-is, ← c.self.view_is, c.in_ok-kept.ensures.items, w.in-Dump.is) (event.Dump w.in-Dump.buffer, refl, w.apply-answer-in-Dump.ensures.step)
    ]

pub returns-clause-lawful : goal.returns-clause-lawful
returns-clause-lawful c =
    elim c.match-kept.branch [
      | in-Submit w ↦ rw w.core-is w.apply-answer.ensures.lawful
      | in-Begin w ↦ rw w.core-is w.apply-answer-in-Begin.ensures.lawful
      | in-Try w ↦ rw w.core-is w.apply-answer-in-Try.ensures.lawful
      | in-Done w ↦ rw w.core-is w.apply-answer-in-Done.ensures.lawful
      | in-Drop w ↦ rw w.core-is w.apply-answer-in-Drop.ensures.lawful
      | in-End w ↦ rw w.core-is w.apply-answer-in-End.ensures.lawful
      | in-Plan w ↦ rw w.core-is w.apply-answer-in-Plan.ensures.lawful
      | in-Arm w ↦ rw w.core-is w.apply-answer-in-Arm.ensures.lawful
      | in-Pick w ↦ rw w.core-is w.apply-answer-in-Pick.ensures.lawful
      | in-Step w ↦ rw w.core-is w.apply-answer-in-Step.ensures.lawful
      | in-Finish w ↦ rw w.core-is w.apply-answer-in-Finish.ensures.lawful
      | in-Timeout w ↦ rw w.core-is w.apply-answer-in-Timeout.ensures.lawful
      | in-Cancel w ↦ rw w.core-is w.apply-answer-in-Cancel.ensures.lawful
      | in-Reap w ↦ rw w.core-is w.apply-answer-in-Reap.ensures.lawful
      | in-Read w ↦ rw w.core-is w.apply-answer-in-Read.ensures.lawful
      | in-Status w ↦ rw w.core-is w.apply-answer-in-Status.ensures.lawful
      | in-Dump w ↦ rw w.core-is w.apply-answer-in-Dump.ensures.lawful
    ]
