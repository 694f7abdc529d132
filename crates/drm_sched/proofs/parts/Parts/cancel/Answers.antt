use Rattle.std.proofs.Common.{◌∙◌, refl, sym, ap}
use Rattle.drm_types.specs.Firsts.{when}
use Rattle.drm_state.specs.declared.answer.Refusal.TheVariants.{AlreadyStopped}
use Rattle.drm_sched.proofs.HeadsBeside.{cancel_beside}
use Rattle.drm_sched.proofs.MarkedDone.{cancel_answered, cancel_marked, with_tables}
use Rattle.drm_sched.proofs.parts.Parts.cancel.Goals as goal

pub returns-then-is_stopped-clause-call : goal.returns-then-is_stopped-clause-call
returns-then-is_stopped-clause-call c =
    let stopped = ap (λ b. when b AlreadyStopped) (sym c.is_stopped.ensures ∙ c.if-is_stopped.true) in
    record { done = tt; refused = (stopped, refl); marks = refl }

pub returns-clause-call : goal.returns-clause-call
returns-clause-call c =
    cancel_answered c.args.self.now c.cancel.new.self c.withdraw.new.self c.args.entity c.cancel.result c.cancel.ensures.stopped c.cancel.ensures.refused

pub returns-clause-whole : goal.returns-clause-whole
returns-clause-whole c =
    cancel_marked c.args.self.now c.cancel.new.self c.withdraw.new.self c.args.entity c.cancel.result c.requires.whole c.cancel.ensures.whole c.cancel.ensures.out
    (cancel_answered c.args.self.now c.cancel.new.self c.withdraw.new.self c.args.entity c.cancel.result c.cancel.ensures.stopped c.cancel.ensures.refused)

pub returns-clause-heads : goal.returns-clause-heads
returns-clause-heads c =
    let d = c.args.self.now in
    cancel_beside d (with_tables d c.cancel.new.self c.withdraw.new.self) c.withdraw.new.self c.args.entity c.cancel.result c.requires.whole c.requires.there
    (sym c.is_stopped.ensures ∙ c.if-is_stopped.false)
    (cancel_answered d c.cancel.new.self c.withdraw.new.self c.args.entity c.cancel.result c.cancel.ensures.stopped c.cancel.ensures.refused) c.cancel.ensures.waits c.withdraw.ensures
