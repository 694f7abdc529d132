use Rattle.std.proofs.Common.{◌∙◌, ap, subst}
use Rattle.drm_reason.specs.declared.reason.Reason.{Reason}
use Rattle.drm_reason.specs.Reasons.{reason_of}
use Rattle.drm_why.specs.Seeing.{IsLook, reason_behind}
use Rattle.drm_why.proofs.seeing.add_seen.Goals as goal

pub returns-clause-seen : goal.returns-clause-seen
returns-clause-seen c =
    let d = c.args.device.now.state in
    let fence = c.args.watch.now.fence in
    let seen = c.in_ok-seen.seen in (
      seen,
      subst (λ (r : Reason). IsLook d fence r (reason_of d fence) c.args.command.now seen) (c.last_reason-before.ensures ∙ ap reason_behind c.deref.ensures.value)
          (subst (λ (r : Reason). IsLook d fence c.last_reason-before.result r c.args.command.now seen) c.look-reason.ensures.reason c.in_ok-seen.ensures),
      c.in_ok-push.ensures.items,
    )
