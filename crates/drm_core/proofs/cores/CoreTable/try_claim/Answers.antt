use Rattle.std.proofs.Common.{◌∙◌, sym, subst, Some}
use Rattle.std.specs.Vec.{with_item}
use Rattle.drm_core.specs.Cores.{IsCore}
use Rattle.drm_core.proofs.Locks.{claim_kept, claim_told}
use Rattle.drm_core.proofs.cores.CoreTable.try_claim.Goals as goal

pub returns-in-None-holder-clause-core : goal.returns-in-None-holder-clause-core
returns-in-None-holder-clause-core c =
    let t = c.args.self.now in
    subst (λ b. IsCore (record t { holders = with_item t.holders b (Some c.args.ctx) })) (sym c.number.ensures)
    (claim_kept t c.args.ctx c.args.buffer c.in-Some.context c.requires.core c.requires.ctx c.requires.buffer (sym c.context.ensures ∙ c.in-Some.is) c.if-is_sealed.false
    (sym c.holder.ensures ∙ c.in-None-holder.is))

pub returns-clause-reply : goal.returns-clause-reply
returns-clause-reply c =
    rw c.compare.ensures
    (claim_told _ c.args.ctx c.args.buffer c.in-Some-holder.holder c.in-Some.context (sym c.context.ensures ∙ c.in-Some.is) c.if-is_sealed.false
    (sym c.holder.ensures ∙ c.in-Some-holder.is) c.if-holder-ctx.false)
