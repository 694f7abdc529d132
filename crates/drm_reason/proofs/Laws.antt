-- The laws of reasons.
use Rattle.std.proofs.Common.{subst}
use Rattle.drm_state.specs.Chosen.{ChoiceIsLeast}
use Rattle.drm_reason.specs.Laws.{EachJobHasOneReason}
use Rattle.drm_reason.specs.Standing.{HasReason}
use Rattle.drm_reason.proofs.Stands.{reason_stands}
use Rattle.drm_reason.proofs.Told.{has_is_told}

pub one_reason : ChoiceIsLeast → EachJobHasOneReason
one_reason choices d n told steady limits =
    (λ is. subst (HasReason d n) is (reason_stands choices d steady limits n), λ has. has_is_told choices d n told steady has)
