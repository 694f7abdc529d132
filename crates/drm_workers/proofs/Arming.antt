-- What one call more has armed, by the laws of what calls arm.
use Rattle.std.proofs.Common.{◌≡◌, ℕ, true, List, [], ◌∷◌, ◌++◌, Result, sym, ap, ◌∙◌, subst}
use Rattle.drm_job.specs.declared.Draft.{Draft}
use Rattle.drm_resv.specs.Reservation.{Reservation}
use Rattle.drm_state.specs.declared.errors.ArmError.{ArmError}
use Rattle.drm_state.specs.declared.errors.FinishError.{FinishError}
use Rattle.drm_state.specs.declared.errors.PickError.{PickError}
use Rattle.drm_state.specs.declared.errors.StepError.{StepError}
use Rattle.drm_state.specs.declared.answer.Picked.{Picked}
use Rattle.drm_state.specs.declared.answer.Stepped.{Stepped}
use Rattle.drm_state.specs.declared.answer.Finished.{Finished}
use Rattle.drm_state.specs.declared.answer.Expired.{Expired}
use Rattle.drm_sched.specs.Marks.{MarkedDevice}
use Rattle.drm_gpu.specs.Answers.{FinishIs, PickIs, StepIs, TimeoutIs}
use Rattle.drm_gpu.specs.Laws.{reflexive, transitive}
use Rattle.drm_gpu.specs.Passes.{Calls, GrowsTo, PassState}
use Rattle.drm_gpu.specs.Running.{RunningState, Starts}
use Rattle.drm_gpu.specs.Submissions.{ArmIs, ArmRefused, LocksAll, Submission, draws}
use Rattle.drm_workers.specs.Numbers.{ArmedJobsStay, OnlyArmingsArm, armings}
use Rattle.drm_workers.specs.Jobs.{JobAt}
use Rattle.drm_workers.specs.Armings.{ArmsNoMore, HasArmed}
use Rattle.drm_workers.proofs.Lists.{unit}

pub pick_arms : OnlyArmingsArm → (ring now : ℕ) (x : Result Picked PickError) (old new : PassState) → Calls (PickIs ring now x) old new → ArmsNoMore old new
pick_arms law ring now x old new c = (c.gpu, law.pick ring now x old new c, ap (λ (p : PassState). p.part) c.pass)

pub step_arms : OnlyArmingsArm → (ring : ℕ) (x : Result Stepped StepError) (old new : PassState) → Calls (StepIs ring x) old new → ArmsNoMore old new
step_arms law ring x old new c = (c.gpu, law.step ring x old new c, ap (λ (p : PassState). p.part) c.pass)

pub finish_arms : OnlyArmingsArm → (ring now : ℕ) (x : Result Finished FinishError) (old new : PassState) → Calls (FinishIs ring now x) old new → ArmsNoMore old new
finish_arms law ring now x old new c = (c.gpu, law.finish ring now x old new c, ap (λ (p : PassState). p.part) c.pass)

pub timeout_arms : OnlyArmingsArm → (ring now : ℕ) (x : Expired) (old new : PassState) → Calls (TimeoutIs ring now x) old new → ArmsNoMore old new
timeout_arms law ring now x old new c = (c.gpu, law.timeout ring now x old new c, ap (λ (p : PassState). p.part) c.pass)

onward : (does : MarkedDevice → MarkedDevice → Type 0) (old new : PassState) → Calls does old new → GrowsTo old.last new.last
onward does old new c = transitive old.last c.found new.last c.later c.onward

pub refused_arms : OnlyArmingsArm → (job : Draft) (r : ArmError) (old new : PassState) → Calls (ArmRefused job r) old new → HasArmed [] old new
refused_arms law job r old new c = record {
  gpu = c.gpu;
  later = onward (ArmRefused job r) old new c;
  armed = law.refused job r old new c ∙ sym (unit (armings old.calls));
  part = ap (λ (p : PassState). p.part) c.pass;
}

pub arm_arms : OnlyArmingsArm → (job : Draft) (deps : List (ℕ × ℕ)) (held left : List (ℕ × Reservation)) (fence : ℕ) (old new : PassState) → Calls (ArmIs job deps held left fence) old new → HasArmed (fence ∷ []) old new
arm_arms law job deps held left fence old new c = record {
  gpu = c.gpu;
  later = onward (ArmIs job deps held left fence) old new c;
  armed = (law.arm job deps held left fence old new c).0;
  part = ap (λ (p : PassState). p.part) c.pass;
}

pub arm_job : OnlyArmingsArm → (job : Draft) (deps : List (ℕ × ℕ)) (held left : List (ℕ × Reservation)) (fence : ℕ) (old new : PassState) → Calls (ArmIs job deps held left fence) old new → JobAt new.last.state.journal fence job
arm_job law job deps held left fence old new c = (law.arm job deps held left fence old new c).1

-- what was armed stays, while the device grows
pub job_stays : ArmedJobsStay → (d e : MarkedDevice) (n : ℕ) (job : Draft) → GrowsTo d e → JobAt d.state.journal n job → JobAt e.state.journal n job
job_stays law d e n job g h = (law d e g (n ∷ []) (job ∷ []) (h, tt)).0

pub nothing_then : (a b c : PassState) → ArmsNoMore a b → ArmsNoMore b c → ArmsNoMore a c
nothing_then a b c x y = (y.0 ∙ x.0, y.1 ∙ x.1, y.2 ∙ x.2)

pub has_then : (numbers : List ℕ) (a b c : PassState) → HasArmed [] a b → HasArmed numbers b c → HasArmed numbers a c
has_then numbers a b c x y = record {
  gpu = y.gpu ∙ x.gpu;
  later = transitive a.last b.last c.last x.later y.later;
  armed = y.armed ∙ ap (λ ns. ns ++ numbers) (x.armed ∙ unit (armings a.calls));
  part = y.part ∙ x.part;
}

-- a pass that knows of no more calls
pub stays : (old new : PassState) → new.gpu ≡ old.gpu → new.last ≡ old.last → new.calls ≡ old.calls → new.part ≡ old.part → HasArmed [] old new
stays old new gpu last calls part = record {
  gpu = gpu;
  later = subst (λ d. GrowsTo old.last d) (sym last) (reflexive old.last);
  armed = ap armings calls ∙ sym (unit (armings old.calls));
  part = part;
}

pub same_pass : (old new : PassState) → new ≡ old → HasArmed [] old new
same_pass old new is = stays old new (ap (λ p. p.gpu) is) (ap (λ p. p.last) is) (ap (λ p. p.calls) is) (ap (λ p. p.part) is)

-- a pass that has drawn a ticket
pub draw_arms : (ticket : ℕ) (old new : PassState) → new ≡ draws ticket old → HasArmed [] old new
draw_arms ticket old new is = stays old new (ap (λ p. p.gpu) is) (ap (λ p. p.last) is) (ap (λ p. p.calls) is) (ap (λ p. p.part) is)

-- a pass that was told that all tickets are drawn
pub told_arms : (old new : PassState) → new ≡ record old { tickets_out = true } → HasArmed [] old new
told_arms old new is = stays old new (ap (λ p. p.gpu) is) (ap (λ p. p.last) is) (ap (λ p. p.calls) is) (ap (λ p. p.part) is)

pub locks_arm : (old new : Submission) → LocksAll old new → HasArmed [] old.pass new.pass
locks_arm old new on = stays old.pass new.pass (ap (λ p. p.gpu) on.pass) (ap (λ p. p.last) on.pass) (ap (λ p. p.calls) on.pass) (ap (λ p. p.part) on.pass)

pub packet_arms : OnlyArmingsArm → (ring : ℕ) (x : Result Stepped StepError) (old new : PassState) (out : RunningState) → Starts ring old out → Calls (StepIs out.ring x) out.pass new → ArmsNoMore old new
packet_arms law ring x old new out s c = nothing_then old out.pass new (s.gpu, ap (λ (p : PassState). armings p.calls) s.pass, ap (λ (p : PassState). p.part) s.pass) (step_arms law out.ring x out.pass new c)
