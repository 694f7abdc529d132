-- The answers of a device's calls as answers of the core.
use Rattle.drm_state.specs.declared.answer.Picked.{Picked}
use Rattle.drm_state.specs.declared.answer.Stepped.{Stepped}
use Rattle.drm_state.specs.declared.answer.Stepped.TheVariants as step
use Rattle.drm_state.specs.declared.answer.Finished.{Finished}
use Rattle.drm_state.specs.declared.answer.Expired.{Expired}
use Rattle.drm_state.specs.declared.answer.Expired.TheVariants as expired
use Rattle.drm_state.specs.declared.answer.Answer.{Answer}
use Rattle.drm_state.specs.declared.answer.Answer.TheVariants as answer

abbrev pub picked : Picked → Answer
picked p = answer.Picked p.fence p.skipped

abbrev pub stepped : Stepped → Answer
stepped (step.Ran fence packet) = answer.Ran fence packet
stepped (step.Stalled fence) = answer.Stalled fence

abbrev pub finished : Finished → Answer
finished f = answer.Finished f.fence f.outcome

abbrev pub timed_out : Expired → Answer
timed_out expired.Empty = answer.Empty
timed_out (expired.NotYet due_in) = answer.NotYet due_in
timed_out expired.Complete = answer.Complete
timed_out expired.Resumed = answer.Resumed
timed_out (expired.Guilty entity) = answer.Guilty entity
