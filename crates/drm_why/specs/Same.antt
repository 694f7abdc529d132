-- Whether two reasons are the same.
use Rattle.std.specs.Prelude.{ℕ, Bool, true, false, not, ◌&&◌, ◌||◌, ◌==◌, if◌then◌else◌, Option, Some, None}
use Rattle.drm_types.specs.declared.access.Access.{Access}
use Rattle.drm_types.specs.declared.access.Access.TheVariants as access
use Rattle.drm_types.specs.declared.outcome.Outcome.{Outcome}
use Rattle.drm_types.specs.declared.outcome.Outcome.TheVariants as outcome
use Rattle.drm_reason.specs.declared.reason.How.{How}
use Rattle.drm_reason.specs.declared.reason.How.TheVariants as how
use Rattle.drm_reason.specs.declared.reason.Reason.{Reason}
use Rattle.drm_reason.specs.declared.reason.Reason.TheVariants as reason

abbrev pub same_access : Access → Access → Bool
same_access access.Read access.Read = true
same_access access.Write access.Write = true
same_access access.Hold access.Hold = true
same_access access.Move access.Move = true
same_access one other = false

abbrev pub same_outcome : Outcome → Outcome → Bool
same_outcome outcome.Good outcome.Good = true
same_outcome outcome.Cancelled outcome.Cancelled = true
same_outcome outcome.Stopped outcome.Stopped = true
same_outcome one other = false

abbrev pub same_flag : Bool → Bool → Bool
same_flag one other = if one then other else not other

abbrev pub same_behind : Option ℕ → Option ℕ → Bool
same_behind (Some one) (Some other) = one == other
same_behind None None = true
same_behind one other = false

abbrev pub same_how : How → How → Bool
same_how (how.Buffer one a b) (how.Buffer other c d) = (one == other) && (same_access a c && same_access b d)
same_how how.Named how.Named = true
same_how one other = false

-- of queued jobs
abbrev pub same_queued : Reason → Reason → Bool
same_queued (reason.BehindQueueHead one) (reason.BehindQueueHead other) = one == other
same_queued (reason.Waits a b c d) (reason.Waits e f g h) = ((a == e) && same_how b f) && ((c == g) && same_flag d h)
same_queued (reason.BehindRingHead a b) (reason.BehindRingHead c d) = (a == c) && (b == d)
same_queued (reason.NoCredits a b c) (reason.NoCredits d e f) = ((a == d) && (b == e)) && (c == f)
same_queued (reason.Next one) (reason.Next other) = one == other
same_queued one other = false

-- of pending jobs
abbrev pub same_pending : Reason → Reason → Bool
same_pending (reason.Pending a b) (reason.Pending c d) = (a == c) && (b == d)
same_pending (reason.Runs a b) (reason.Runs c d) = (a == c) && (b == d)
same_pending (reason.Stalls a b) (reason.Stalls c d) = (a == c) && (b == d)
same_pending (reason.Complete one) (reason.Complete other) = one == other
same_pending one other = false

abbrev pub same_reason : Reason → Reason → Bool
same_reason reason.NotArmed reason.NotArmed = true
same_reason (reason.Stopped one) (reason.Stopped other) = same_behind one other
same_reason (reason.Ended one) (reason.Ended other) = same_outcome one other
same_reason one other = same_queued one other || same_pending one other
