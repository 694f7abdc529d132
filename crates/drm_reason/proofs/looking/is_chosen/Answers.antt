use Rattle.std.proofs.Common.{◌∙◌, Some, ap, sym}
use Rattle.std.proofs.lemmas.Bool.{eqb-true}
use Rattle.drm_reason.proofs.Told.{chosen_told}
use Rattle.drm_reason.proofs.looking.is_chosen.Goals as goal

pub returns-in-Some : goal.returns-in-Some
returns-in-Some c same =
    chosen_told c.args.device.now.state c.args.fence c.choice_is_least.ensures c.facts.ensures.steady c.args.job.now c.requires.at
    (sym c.in-Some.ensures ∙ ap Some (eqb-true c.in-Some.next c.args.fence same))
