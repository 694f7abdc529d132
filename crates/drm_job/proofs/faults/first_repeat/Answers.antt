use Rattle.std.proofs.Common.{◌≡◌, get_or, true, is_some, sym, ap, ◌∙◌}
use Rattle.drm_job.proofs.Repeats.{look_at, passed, among}
use Rattle.drm_job.proofs.faults.first_repeat.Goals as goal
use Rattle.std.proofs.Common.{take}

pub returns-then-is_some : goal.returns-then-is_some
returns-then-is_some c =
    let declared = c.args.declared.now in
    let i = c.loop-i.i in
    let d = get_or declared i c.index-declared-i.result in
    let at : d ≡ get_or declared i d = ap (get_or declared i) c.index-declared-i.is in
    sym (look_at declared i d true c.loop-i-test.true at
    (among (take i declared) d.0 ∙ (ap is_some (sym c.declared_as.ensures) ∙ (sym c.is_some.ensures ∙ c.if-is_some.true)))) ∙ c.loop-i.invariant

pub loop-i-preserved : goal.loop-i-preserved
loop-i-preserved c =
    let declared = c.args.declared.now in
    let i = c.loop-i.i in
    let d = get_or declared i c.index-declared-i.result in
    let at : d ≡ get_or declared i d = ap (get_or declared i) c.index-declared-i.is in
    sym (passed declared i d c.loop-i-test.true at
    (among (take i declared) d.0 ∙ (ap is_some (sym c.declared_as.ensures) ∙ (sym c.is_some.ensures ∙ c.if-is_some.false)))) ∙ c.loop-i.invariant
