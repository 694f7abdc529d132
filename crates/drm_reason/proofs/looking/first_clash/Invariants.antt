use Rattle.std.proofs.Common.{◌≡◌, drop}
use Rattle.drm_reason.specs.Reasons.{told_of}
use Rattle.drm_reason.proofs.looking.first_clash.Given as goal

abbrev pub invariant-loop-buffer : goal.invariant-loop-buffer
invariant-loop-buffer l = told_of (drop l.buffer-index l.earlier) l.later ≡ told_of l.earlier l.later
