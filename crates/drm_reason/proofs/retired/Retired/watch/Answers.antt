use Rattle.std.proofs.Common.{ℕ, ◌<◌, subst}
use Rattle.drm_reason.proofs.RetiredJobs.{knows_from}
use Rattle.drm_reason.proofs.retired.Retired.watch.Goals as goal

pub returns-then-fence-armed-clause-known : goal.returns-then-fence-armed-clause-known
returns-then-fence-armed-clause-known c =
    knows_from c.args.device.now.state c.args.self c.args.fence (subst (λ (n : ℕ). c.args.fence < n) c.armed.ensures c.if-fence-armed.true) c.requires
