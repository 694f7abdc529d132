use Rattle.std.proofs.lemmas.Result.{IfOk-weaker}
use Rattle.drm_why.proofs.asking.changes_text.Goals as goal

pub returns : goal.returns
returns c = IfOk-weaker c.life_text.result _ _ (λ text same. (c.longest-longest.result, c.longest-longest.ensures, same)) c.life_text.ensures
