use Rattle.std.proofs.Common.{subst, Ok, Err}
use Rattle.drm_state.specs.declared.answer.Stepped.TheVariants.{Stalled}
use Rattle.drm_state.specs.declared.errors.StepError.TheVariants.{Idle}
use Rattle.drm_gpu.specs.Running.{RunsNothing}
use Rattle.drm_workers.proofs.Arming.{packet_arms, step_arms}
use Rattle.drm_workers.proofs.rings.run_packet.Goals as goal

pub returns-in-Ok : goal.returns-in-Ok
returns-in-Ok g c = packet_arms c.only_armings_arm.ensures _ (Ok c.run-same.result.1) _ _ _ c.in-Ok.ensures.started c.run-same.ensures.call

pub returns-in-Err-Stalled : goal.returns-in-Err-Stalled
returns-in-Err-Stalled g c =
    step_arms c.only_armings_arm.ensures c.args.ring (Ok (Stalled c.in-Err-Stalled._fence)) _ _ (subst (λ e. RunsNothing c.args.ring c.args.pass e) c.in-Err-Stalled.field-0-is c.in-Err-Stalled.ensures.nothing)

pub returns-in-Err-Idle : goal.returns-in-Err-Idle
returns-in-Err-Idle g c =
    step_arms c.only_armings_arm.ensures c.args.ring (Err Idle) _ _ (subst (λ e. RunsNothing c.args.ring c.args.pass e) c.in-Err-Idle.field-0-is c.in-Err-Idle.ensures.nothing)
