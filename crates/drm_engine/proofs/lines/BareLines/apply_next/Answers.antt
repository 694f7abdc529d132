use Rattle.drm_engine.proofs.Pieces.{if_any}
use Rattle.drm_engine.proofs.lines.BareLines.apply_next.Goals as goal

pub returns-clause-noted : goal.returns-clause-noted
returns-clause-noted c = λ event split. if_any c.apply_next.result _ tt

pub returns-clause-names : goal.returns-clause-names
returns-clause-names c = if_any c.apply_next.result _ c.apply_next.ensures.names
