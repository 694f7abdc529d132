use Rattle.std.proofs.Common.{rules}
use Rattle.drm_workers.proofs.dealing.empty_shares.Goals as goal

pub loop-submitter-init : goal.loop-submitter-init
loop-submitter-init c = search rules
