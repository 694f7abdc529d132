use Rattle.std.proofs.Common.{rules, ◌∙◌, [], ◌∷◌, sym, ap, subst}
use Rattle.drm_gpu.specs.Passes.{PassState}
use Rattle.drm_workers.specs.Jobs.{JobAt}
use Rattle.drm_workers.specs.Armings.{HasArmed}
use Rattle.drm_workers.proofs.Arming.{has_then, locks_arm}
use Rattle.drm_workers.proofs.submit.submit.Goals as goal

pub returns-in_err-locking : goal.returns-in_err-locking
returns-in_err-locking g c = let h : HasArmed [] c.args.pass c.in_err-locking.field-0.0 = c.in_err-locking.ensures.back in search rules

pub returns-then-not-passes : goal.returns-then-not-passes
returns-then-not-passes g c =
    subst (λ p. HasArmed [] c.args.pass p) (sym c.abandon-pass.ensures.0)
    (has_then _ _ _ _ c.in_ok-locking.ensures.begun.0 (locks_arm c.in_ok-locking.locking c.lock_all-locked.result c.lock_all-locked.ensures.rounds))

pub returns-in_err-planned : goal.returns-in_err-planned
returns-in_err-planned g c =
    let h : HasArmed [] c.args.pass c.in_err-planned.field-0.0 =
    subst (λ p. HasArmed [] c.args.pass p) (sym c.in_err-planned.ensures.back)
    (has_then _ _ _ _ c.in_ok-locking.ensures.begun.0 (locks_arm c.in_ok-locking.locking c.lock_all-locked.result c.lock_all-locked.ensures.rounds)) in
    search rules

pub returns-then-not-passes-2 : goal.returns-then-not-passes-2
returns-then-not-passes-2 g c =
    subst (λ p. HasArmed [] c.args.pass p) (sym (c.abandon-pass-then-not-passes-2.ensures.0 ∙ ap (λ s. s.pass) c.in_ok-planned.ensures.planned))
    (has_then _ _ _ _ c.in_ok-locking.ensures.begun.0 (locks_arm c.in_ok-locking.locking c.lock_all-locked.result c.lock_all-locked.ensures.rounds))

pub returns-in_err-armed : goal.returns-in_err-armed
returns-in_err-armed g c =
    let locked = has_then _ _ _ _ c.in_ok-locking.ensures.begun.0 (locks_arm c.in_ok-locking.locking c.lock_all-locked.result c.lock_all-locked.ensures.rounds) in
    let planned = subst (λ p. HasArmed [] c.args.pass p) (sym (ap (λ s. s.pass) c.in_ok-planned.ensures.planned)) locked in
    let h : HasArmed [] c.args.pass c.in_err-armed.field-0.0 = has_then _ _ _ _ planned c.in_err-armed.ensures.back in
    search rules

pub returns : goal.returns
returns g c =
    let locked = has_then _ _ _ _ c.in_ok-locking.ensures.begun.0 (locks_arm c.in_ok-locking.locking c.lock_all-locked.result c.lock_all-locked.ensures.rounds) in
    let planned = subst (λ p. HasArmed [] c.args.pass p) (sym (ap (λ s. s.pass) c.in_ok-planned.ensures.planned)) locked in
    let job = ap (λ s. s.job) c.in_ok-planned.ensures.planned ∙ (c.lock_all-locked.ensures.rounds.job ∙ c.in_ok-locking.ensures.begun.1) in
    let a = c.in_ok-armed.armed in
    let armed : HasArmed (a.fence ∷ []) c.args.pass a.pass = has_then _ _ _ _ planned c.in_ok-armed.ensures.armed in
    let there : JobAt a.pass.last.state.journal a.fence c.args.job = subst (JobAt a.pass.last.state.journal a.fence) job c.in_ok-armed.ensures.job in (
      subst (λ (p : PassState). HasArmed (c.fence-fence.result ∷ []) c.args.pass p) (sym c.release.ensures)
          (subst (λ n. HasArmed (n ∷ []) c.args.pass a.pass) (sym c.fence-fence.ensures) armed),
      subst (λ (p : PassState). JobAt p.last.state.journal c.fence-fence.result c.args.job) (sym c.release.ensures)
          (subst (λ n. JobAt a.pass.last.state.journal n c.args.job) (sym c.fence-fence.ensures) there),
    )
