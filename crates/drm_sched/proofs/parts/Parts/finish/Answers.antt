use Rattle.std.proofs.Common.{◌∙◌, Err, refl, sym, ap, subst}
use Rattle.drm_state.specs.Refusals.{finish_refusal}
use Rattle.drm_table.specs.Tables.{state_of}
use Rattle.drm_sched.specs.Begun.{out_or}
use Rattle.drm_sched.specs.Calls.{FinishIs}
use Rattle.drm_sched.specs.Parts.{marked_of}
use Rattle.drm_sched.proofs.Calls.{handed_on}
use Rattle.drm_sched.proofs.HeadEvents.{finish_heads}
use Rattle.drm_sched.proofs.HeadsBeside.{StandBeside}
use Rattle.drm_sched.proofs.MarkedDone.{answered, finish_marked, with_tables}
use Rattle.drm_sched.proofs.parts.Parts.finish.Goals as goal

pub returns-then-has_out-clause-call : goal.returns-then-has_out-clause-call
returns-then-has_out-clause-call c =
    let out = ap (λ b. out_or b (finish_refusal (state_of c.args.self.now.table) c.args.ring)) (sym c.has_out.ensures ∙ c.if-has_out.true) in
    record { done = tt; refused = (out, refl); marks = refl }

pub returns-in_err-finished-clause-call : goal.returns-in_err-finished-clause-call
returns-in_err-finished-clause-call c =
    let d = c.args.self.now in
    let n = c.finish.new.self in
    let free = ap (λ b. out_or b (finish_refusal (state_of d.table) c.args.ring)) (sym c.has_out.ensures ∙ c.if-has_out.false) in
    subst (λ r. FinishIs c.args.ring c.args.now r (marked_of d) (marked_of (with_tables d n d.heads))) (sym (handed_on c.from_residual.result _ c.from_residual.ensures))
    (answered d n d.heads (Err _) free tt c.in_err-finished.ensures.refused)

pub returns-in_err-finished-clause-whole : goal.returns-in_err-finished-clause-whole
returns-in_err-finished-clause-whole c =
    let d = c.args.self.now in
    let free = ap (λ b. out_or b (finish_refusal (state_of d.table) c.args.ring)) (sym c.has_out.ensures ∙ c.if-has_out.false) in
    finish_marked d c.finish.new.self d.heads c.args.ring c.args.now c.finish.result c.requires.whole c.requires.there c.finish.ensures.whole c.finish.ensures.out
    (answered d c.finish.new.self d.heads c.finish.result free c.finish.ensures.finished c.finish.ensures.refused)

pub returns-in_err-finished-clause-heads : goal.returns-in_err-finished-clause-heads
returns-in_err-finished-clause-heads c =
    subst (λ t. StandBeside t c.args.self.now.heads) (sym c.in_err-finished.ensures.refused.1) c.requires.heads

pub returns-clause-call : goal.returns-clause-call
returns-clause-call c =
    let free = ap (λ b. out_or b (finish_refusal (state_of c.args.self.now.table) c.args.ring)) (sym c.has_out.ensures ∙ c.if-has_out.false) in
    record { done = (free ∙ c.in_ok-finished.ensures.finished.0, c.in_ok-finished.ensures.finished.1); refused = tt; marks = refl }

pub returns-clause-whole : goal.returns-clause-whole
returns-clause-whole c =
    let d = c.args.self.now in
    let free = ap (λ b. out_or b (finish_refusal (state_of d.table) c.args.ring)) (sym c.has_out.ensures ∙ c.if-has_out.false) in
    finish_marked d c.finish.new.self c.ended.new.self c.args.ring c.args.now c.finish.result c.requires.whole c.requires.there c.finish.ensures.whole c.finish.ensures.out
    (answered d c.finish.new.self c.ended.new.self c.finish.result free c.finish.ensures.finished c.finish.ensures.refused)

pub returns-clause-heads : goal.returns-clause-heads
returns-clause-heads c =
    let t = c.args.self.now.table in
    let n = c.finish.new.self in
    finish_heads (state_of t) (state_of n) t.waits.lists n.waits.lists c.args.self.now.heads c.ended.new.self c.args.ring c.args.now c.in_ok-finished.finished.fence c.in_ok-finished.finished.outcome
    c.requires.whole.steady.state c.requires.there c.in_ok-finished.ensures.finished.1 c.finish.ensures.waits c.requires.heads c.ended.ensures.queues c.ended.ensures.waiters
