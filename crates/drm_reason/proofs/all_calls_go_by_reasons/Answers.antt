use Rattle.drm_reason.proofs.Takes.{calls_go_by_reasons as go_by}
use Rattle.drm_reason.proofs.all_calls_go_by_reasons.Goals as goal

pub returns : goal.returns
returns c = go_by c.choice_is_least.ensures
