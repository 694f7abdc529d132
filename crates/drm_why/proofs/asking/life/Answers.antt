use Rattle.std.proofs.Common.{List, subst, sym}
use Rattle.std.proofs.lemmas.Result.{IfOk-weaker}
use Rattle.drm_core.specs.Lawful.{IsLawful}
use Rattle.drm_core.specs.State.{CoreState}
use Rattle.drm_engine.proofs.Pieces.{opened_lawful}
use Rattle.drm_reason.specs.declared.reason.Reason.TheVariants.{NotArmed}
use Rattle.drm_why.specs.Seeing.{Sees}
use Rattle.drm_why.specs.Whys.{TellsSeen}
use Rattle.drm_why.specs.declared.seeing.Seen.{Seen}
use Rattle.drm_why.proofs.asking.life.Goals as goal

pub take_seen-requires-clause-lawful : goal.take_seen-requires-clause-lawful
take_seen-requires-clause-lawful c =
    subst IsLawful (sym c.in-Ok.ensures.ok.0) (opened_lawful c.args.script.spec c.every_run_is_lawful.ensures)

pub returns : goal.returns
returns c =
    IfOk-weaker c.seen_text.result _ _
    (λ text told. (
      c.take_seen.new.core,
      c.in_ok-seens.seens.items,
      subst (λ (core : CoreState). Sees c.args.fence NotArmed core c.args.script.lines c.in_ok-seens.seens.items c.take_seen.new.core) c.in-Ok.ensures.ok.0 c.in_ok-seens.ensures,
      subst (λ (seens : List Seen). TellsSeen c.args.fence seens text.items) c.deref.ensures.value told,
    ))
    c.seen_text.ensures
