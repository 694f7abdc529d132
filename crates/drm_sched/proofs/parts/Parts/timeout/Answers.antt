use Rattle.std.proofs.Common.{◌∙◌, Ok, None, refl, sym, ap}
use Rattle.drm_sched.specs.Begun.{out_or}
use Rattle.drm_sched.proofs.HeadsBeside.{timeout_beside}
use Rattle.drm_sched.proofs.MarkedDone.{timeout_marked, with_tables}
use Rattle.drm_sched.proofs.parts.Parts.timeout.Goals as goal

pub returns-then-has_out-clause-call : goal.returns-then-has_out-clause-call
returns-then-has_out-clause-call c =
    let out = ap (λ b. out_or b None) (sym c.has_out.ensures ∙ c.if-has_out.true) in
    record { done = tt; refused = (out, refl); marks = refl }

pub returns-clause-call : goal.returns-clause-call
returns-clause-call c =
    let free = ap (λ b. out_or b None) (sym c.has_out.ensures ∙ c.if-has_out.false) in
    record { done = (free, c.timeout.ensures.expired); refused = tt; marks = refl }

pub returns-clause-whole : goal.returns-clause-whole
returns-clause-whole c =
    let d = c.args.self.now in
    let free = ap (λ b. out_or b None) (sym c.has_out.ensures ∙ c.if-has_out.false) in
    timeout_marked d c.timeout.new.self d.heads c.args.ring c.args.now (Ok c.timeout.result) c.requires.whole c.requires.there c.timeout.ensures.whole c.timeout.ensures.out
    (record { done = (free, c.timeout.ensures.expired); refused = tt; marks = refl })

pub returns-clause-heads : goal.returns-clause-heads
returns-clause-heads c =
    let d = c.args.self.now in
    let free = ap (λ b. out_or b None) (sym c.has_out.ensures ∙ c.if-has_out.false) in
    timeout_beside d (with_tables d c.timeout.new.self d.heads) d.heads c.args.ring c.args.now (Ok c.timeout.result) c.requires.whole c.requires.there
    (record { done = (free, c.timeout.ensures.expired); refused = tt; marks = refl }) c.timeout.ensures.waits c.requires.heads
