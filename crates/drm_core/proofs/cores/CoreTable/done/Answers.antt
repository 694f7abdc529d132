use Rattle.std.proofs.Common.{◌∙◌, sym}
use Rattle.drm_core.proofs.Locks.{seal_done}
use Rattle.drm_core.proofs.cores.CoreTable.done.Goals as goal

pub returns-clause-reply : goal.returns-clause-reply
returns-clause-reply c =
    (seal_done c.args.self.now c.args.ctx c.in-Some.context c.index_mut.result.now c.seal.new.context c.requires.core c.requires.ctx
    (sym c.context.ensures ∙ c.in-Some.is) c.if-is_sealed.false c.index_mut.ensures.value c.seal.ensures).0

pub returns-clause-core : goal.returns-clause-core
returns-clause-core c =
    (seal_done c.args.self.now c.args.ctx c.in-Some.context c.index_mut.result.now c.seal.new.context c.requires.core c.requires.ctx
    (sym c.context.ensures ∙ c.in-Some.is) c.if-is_sealed.false c.index_mut.ensures.value c.seal.ensures).1
