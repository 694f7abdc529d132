use Rattle.std.proofs.Common.{◌∙◌, ◌^◌, sym, refl}
use Rattle.std.proofs.lemmas.Bool.{eqb-false}
use Rattle.drm_core.proofs.Locks.{begin_done}
use Rattle.drm_core.proofs.cores.CoreTable.begin.Goals as goal

pub returns-clause-reply : goal.returns-clause-reply
returns-clause-reply c =
    (begin_done c.args.self.now c.args.ctx c.requires.core c.requires.ctx (sym c.has_begun.ensures ∙ c.if-has_begun.false) (eqb-false c.args.self.now.next_ticket (2 ^ 63) (sym c.are_out.ensures ∙ c.if-are_out.false)) _ refl).0

pub returns-clause-core : goal.returns-clause-core
returns-clause-core c =
    (begin_done c.args.self.now c.args.ctx c.requires.core c.requires.ctx (sym c.has_begun.ensures ∙ c.if-has_begun.false) (eqb-false c.args.self.now.next_ticket (2 ^ 63) (sym c.are_out.ensures ∙ c.if-are_out.false)) _ refl).1
