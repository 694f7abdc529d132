use Rattle.std.proofs.Common.{rules, ◌∙◌, sym, ap}
use Rattle.std.specs.Prelude.{◌||◌}
use Rattle.drm_sched.specs.Marks.{buffer_out}
use Rattle.drm_sched.specs.Parts.{marked_of}
use Rattle.drm_sched.proofs.MarkedOut.{asks_is}
use Rattle.drm_sched.proofs.parts.Parts.is_step_blocked.Goals as goal

pub returns : goal.returns
returns c =
    let d = c.args.self.now in
    c.next_is_out.ensures
    ∙ (asks_is d c.args.ring c.requires.whole c.requires.there
    ∙ ap (λ b. b || buffer_out (marked_of d) c.args.ring) (sym (sym c.has_out.ensures ∙ c.if-has_out.false)))

pub returns-then-has_out : goal.returns-then-has_out
returns-then-has_out c = search rules
