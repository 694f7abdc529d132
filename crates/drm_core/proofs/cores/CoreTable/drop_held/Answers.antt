use Rattle.std.proofs.Common.{◌∙◌, sym}
use Rattle.drm_core.proofs.Locks.{begun_is, drop_done}
use Rattle.drm_core.proofs.cores.CoreTable.drop_held.Goals as goal

pub returns-clause-reply : goal.returns-clause-reply
returns-clause-reply c =
    (drop_done c.args.self.now c.args.ctx c.args.buffer c.number.result c.index_mut-2.result.now c.forget_plan.new.context c.requires.core c.requires.ctx c.requires.buffer
    (begun_is _ c.has_begun.result c.has_begun.ensures c.if-not-has_begun.false) (sym c.holds.ensures ∙ c.if-not-holds.false) c.number.ensures c.index_mut-2.ensures.value c.forget_plan.ensures).0

pub returns-clause-core : goal.returns-clause-core
returns-clause-core c =
    (drop_done c.args.self.now c.args.ctx c.args.buffer c.number.result c.index_mut-2.result.now c.forget_plan.new.context c.requires.core c.requires.ctx c.requires.buffer
    (begun_is _ c.has_begun.result c.has_begun.ensures c.if-not-has_begun.false) (sym c.holds.ensures ∙ c.if-not-holds.false) c.number.ensures c.index_mut-2.ensures.value c.forget_plan.ensures).1
