use Rattle.std.proofs.Common.{◌∙◌, length, ap, arith}
use Rattle.drm_types.specs.declared.spec.DeviceSpec.{DeviceSpec}
use Rattle.drm_core.proofs.Telling.{few_rings}
use Rattle.drm_why.specs.Rings.{doing_of, doings_of}
use Rattle.drm_why.proofs.Numbered.{kept_more, kept_end}
use Rattle.drm_why.proofs.rings.doings.Goals as goal

pub overflow_cast-rings : goal.overflow_cast-rings
overflow_cast-rings c =
    let few = few_rings c.args.device.now.state.spec c.facts.ensures.limits in
    let same = ap (λ (s : DeviceSpec). length s.rings) c.spec.ensures.value in
    omega (arith, few, same, c.len-rings.ensures)

pub doing_at-requires-clause-there : goal.doing_at-requires-clause-there
doing_at-requires-clause-there c =
    let same = ap (λ (s : DeviceSpec). length s.rings) c.spec.ensures.value in
    omega (arith, c.loop-ring-test.true, c.len-rings.ensures, same)

pub loop-ring-preserved : goal.loop-ring-preserved
loop-ring-preserved c =
    let d = c.args.device.now.state in
    let same = ap (λ (s : DeviceSpec). length s.rings) c.spec.ensures.value in
    kept_more (λ ring. doing_of d ring) d.spec.rings c.loop-ring.ring c.loop-ring.doings.items c.push.new.self.items (doings_of d) c.doing_at.result
    (omega (arith, c.loop-ring-test.true, c.len-rings.ensures, same)) c.doing_at.ensures c.in_ok-push.ensures.items c.loop-ring.invariant

pub returns : goal.returns
returns c =
    let d = c.args.device.now.state in
    let same = ap (λ (s : DeviceSpec). length s.rings) c.spec.ensures.value in
    c.from_vec.ensures
    ∙ kept_end (λ ring. doing_of d ring) d.spec.rings c.loop-ring.ring c.loop-ring.doings.items (doings_of d)
    (omega (arith, c.loop-ring-test.false, c.len-rings.ensures, same)) c.loop-ring.invariant
