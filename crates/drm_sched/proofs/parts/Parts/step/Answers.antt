use Rattle.std.proofs.Common.{◌∙◌, refl, sym, ap}
use Rattle.drm_state.specs.Refusals.{step_refusal}
use Rattle.drm_table.specs.Tables.{state_of}
use Rattle.drm_sched.specs.Begun.{out_or}
use Rattle.drm_sched.specs.Marks.{ring_out, buffer_out}
use Rattle.drm_sched.specs.Parts.{marked_of}
use Rattle.drm_table.proofs.TableFacts.{neither}
use Rattle.drm_sched.proofs.HeadsBeside.{step_beside}
use Rattle.drm_sched.proofs.MarkedDone.{answered, step_marked, with_tables}
use Rattle.drm_sched.proofs.MarkedOut.{asks_is, next_is_in}
use Rattle.drm_sched.proofs.parts.Parts.step.Goals as goal

pub step-requires-clause-inside : goal.step-requires-clause-inside
step-requires-clause-inside c =
    let d = c.args.self.now in
    let free = neither (ring_out (marked_of d) c.args.ring) (buffer_out (marked_of d) c.args.ring) (sym c.is_step_blocked.ensures ∙ c.if-is_step_blocked.false) in
    next_is_in d c.args.ring c.requires.whole c.requires.there (asks_is d c.args.ring c.requires.whole c.requires.there ∙ free.1)

pub returns-then-is_step_blocked-clause-call : goal.returns-then-is_step_blocked-clause-call
returns-then-is_step_blocked-clause-call c =
    let out = ap (λ b. out_or b (step_refusal (state_of c.args.self.now.table) c.args.ring)) (sym c.is_step_blocked.ensures ∙ c.if-is_step_blocked.true) in
    record { done = tt; refused = (out, refl); marks = refl }

pub returns-clause-call : goal.returns-clause-call
returns-clause-call c =
    let d = c.args.self.now in
    let free = ap (λ b. out_or b (step_refusal (state_of d.table) c.args.ring)) (sym c.is_step_blocked.ensures ∙ c.if-is_step_blocked.false) in
    answered d c.step.new.self d.heads c.step.result free c.step.ensures.ran c.step.ensures.refused

pub returns-clause-whole : goal.returns-clause-whole
returns-clause-whole c =
    let d = c.args.self.now in
    let free = ap (λ b. out_or b (step_refusal (state_of d.table) c.args.ring)) (sym c.is_step_blocked.ensures ∙ c.if-is_step_blocked.false) in
    step_marked d c.step.new.self d.heads c.args.ring c.step.result c.requires.whole c.requires.there c.step.ensures.whole c.step.ensures.out
    (answered d c.step.new.self d.heads c.step.result free c.step.ensures.ran c.step.ensures.refused)

pub returns-clause-heads : goal.returns-clause-heads
returns-clause-heads c =
    let d = c.args.self.now in
    let free = ap (λ b. out_or b (step_refusal (state_of d.table) c.args.ring)) (sym c.is_step_blocked.ensures ∙ c.if-is_step_blocked.false) in
    step_beside d (with_tables d c.step.new.self d.heads) d.heads c.args.ring c.step.result c.requires.whole c.requires.there
    (answered d c.step.new.self d.heads c.step.result free c.step.ensures.ran c.step.ensures.refused) c.step.ensures.waits c.requires.heads
