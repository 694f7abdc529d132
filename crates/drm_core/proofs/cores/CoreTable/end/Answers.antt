use Rattle.std.proofs.Common.{rules, ◌∙◌, sym, ap}
use Rattle.drm_core.proofs.Locks.{begun_is, end_done, held_first}
use Rattle.drm_core.proofs.cores.CoreTable.end.Goals as goal

pub returns-in-None-clause-reply : goal.returns-in-None-clause-reply
returns-in-None-clause-reply c =
    (end_done c.args.self.now c.args.ctx c.requires.core c.requires.ctx (begun_is _ c.has_begun.result c.has_begun.ensures c.if-not-has_begun.false) (ap (λ hs. held_first hs c.args.ctx) (sym c.deref.ensures.value) ∙ (sym c.first_held.ensures ∙ c.in-None.is))).0

pub returns-in-None-clause-core : goal.returns-in-None-clause-core
returns-in-None-clause-core c =
    (end_done c.args.self.now c.args.ctx c.requires.core c.requires.ctx (begun_is _ c.has_begun.result c.has_begun.ensures c.if-not-has_begun.false) (ap (λ hs. held_first hs c.args.ctx) (sym c.deref.ensures.value) ∙ (sym c.first_held.ensures ∙ c.in-None.is))).1

pub returns-in-Some-clause-reply : goal.returns-in-Some-clause-reply
returns-in-Some-clause-reply c = search rules

pub returns-in-Some-clause-core : goal.returns-in-Some-clause-core
returns-in-Some-clause-core c = search rules
