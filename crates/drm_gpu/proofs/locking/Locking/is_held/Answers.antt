use Rattle.std.proofs.Common.{ap, sym, subst}
use Rattle.ww_lock.specs.Rule.{In}
use Rattle.drm_gpu.specs.Submissions.{Submission}
use Rattle.drm_gpu.proofs.Holders.{in_kept, in_kept_of}
use Rattle.drm_gpu.proofs.locking.Locking.is_held.Goals as goal

pub returns-clause-held : goal.returns-clause-held
returns-clause-held c t =
    let x = c.has_buffer.ensures.held t in (
      x.0.kept,
      subst (In (c.args.buffer, x.0.kept)) (ap (λ (s : Submission). s.held) c.self.view_is)
          (in_kept_of c.args.buffer x.0 c.self.inside.acquire.seat.held.items (subst (In (c.args.buffer, x.0)) c.held.ensures x.1)),
    )

pub returns-clause-lacks : goal.returns-clause-lacks
returns-clause-lacks c t x has =
    let r = in_kept c.args.buffer x c.self.inside.acquire.seat.held.items (subst (In (c.args.buffer, x)) (sym (ap (λ (s : Submission). s.held) c.self.view_is)) has) in
    c.has_buffer.ensures.lacks t r.0 (subst (In (c.args.buffer, r.0)) (sym c.held.ensures) r.1)
