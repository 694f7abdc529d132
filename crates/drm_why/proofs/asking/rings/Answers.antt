use Rattle.std.proofs.Common.{ℕ, List, subst, sym}
use Rattle.std.proofs.lemmas.Result.{IfOk-weaker}
use Rattle.drm_core.specs.Lawful.{IsLawful}
use Rattle.drm_core.specs.State.{CoreState}
use Rattle.drm_engine.proofs.Pieces.{opened_lawful}
use Rattle.drm_why.specs.Rings.{SeesRows}
use Rattle.drm_why.specs.Totals.{TellsRings}
use Rattle.drm_why.specs.declared.rings.Row.{Row}
use Rattle.drm_why.proofs.asking.rings.Goals as goal

pub take_rows-requires-clause-lawful : goal.take_rows-requires-clause-lawful
take_rows-requires-clause-lawful c =
    subst IsLawful (sym c.in-Ok.ensures.ok.0) (opened_lawful c.args.script.spec c.every_run_is_lawful.ensures)

pub returns : goal.returns
returns c =
    IfOk-weaker c.rings_text.result _ _
    (λ text told. (
      c.take_rows.new.core,
      c.in_ok-rows.rows.items,
      subst (λ (core : CoreState). SeesRows 0 core c.args.script.lines c.in_ok-rows.rows.items c.take_rows.new.core) c.in-Ok.ensures.ok.0 c.in_ok-rows.ensures,
      subst (λ (n : ℕ). TellsRings c.in_ok-rows.rows.items n text.items) c.len-count.ensures
          (subst (λ (rows : List Row). TellsRings rows c.len-count.result text.items) c.deref.ensures.value told),
    ))
    c.rings_text.ensures
