-- Which fence a job waits for.
use Rattle.std.specs.Prelude.{ℕ, Option, Some, None}
use Rattle.drm_reason.specs.declared.reason.Reason.{Reason}
use Rattle.drm_reason.specs.declared.reason.Reason.TheVariants as reason

-- the fence of this reason, if it is one of a job that waits for a fence
abbrev pub awaited_by : Reason → Option ℕ
awaited_by (reason.Waits fence how ring queued) = Some fence
awaited_by other = None
