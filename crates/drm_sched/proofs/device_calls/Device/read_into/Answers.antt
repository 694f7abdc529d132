use Rattle.std.proofs.Common.{rules, ◌≡◌, ◌∙◌, ◌<◌, true, false, length, refl, ap, sym, subst, Some, None}
use Rattle.std.specs.Prelude.{option_map}
use Rattle.drm_state.specs.declared.answer.Refusal.TheVariants as refusal
use Rattle.drm_sched.specs.Begun.{out_or}
use Rattle.drm_state.specs.Lawful.{EachTwo, KeepsEntityOrder}
use Rattle.drm_sched.specs.Marks.{MarkedDevice, is_out}
use Rattle.drm_state.specs.Refusals.{busy_fence}
use Rattle.drm_sched.proofs.MarkedOut.{says_out}
use Rattle.drm_state.proofs.Readback.{writers_ended, writers_free}
use Rattle.drm_sched.proofs.Boxed.{view_read, whole_read}
use Rattle.drm_sched.proofs.device_calls.Device.read_into.Goals as goal

pub bytes-requires-clause-inside : goal.bytes-requires-clause-inside
bytes-requires-clause-inside c =
    let there = subst (λ (d : MarkedDevice). c.args.buffer < length d.state.memory) (sym (view_read c.deref.ensures c.self.view_is)) c.requires.buffer in
    ap (λ (d : MarkedDevice). is_out d c.args.buffer) (sym (view_read c.deref.ensures c.self.view_is))
    ∙ (sym (says_out c.deref.result.now c.args.buffer (whole_read c.deref.ensures c.self.invariant.0) there) ∙ (sym c.is_out.ensures ∙ c.if-is_out.false))

pub returns-then-is_out-clause-busy : goal.returns-then-is_out-clause-busy
returns-then-is_out-clause-busy c =
    let there = subst (λ (d : MarkedDevice). c.args.buffer < length d.state.memory) (sym (view_read c.deref.ensures c.self.view_is)) c.requires.buffer in
    let out : is_out c.args.self.now c.args.buffer ≡ true =
    ap (λ (d : MarkedDevice). is_out d c.args.buffer) (sym (view_read c.deref.ensures c.self.view_is))
    ∙ (sym (says_out c.deref.result.now c.args.buffer (whole_read c.deref.ensures c.self.invariant.0) there) ∙ (sym c.is_out.ensures ∙ c.if-is_out.true)) in
    (ap (λ b. out_or b (option_map refusal.Busy (busy_fence c.args.self.now.state.journal c.args.resv.now.kept))) out, refl)

pub returns-then-is_out-clause-writing : goal.returns-then-is_out-clause-writing
returns-then-is_out-clause-writing c free ended =
    let there = subst (λ (d : MarkedDevice). c.args.buffer < length d.state.memory) (sym (view_read c.deref.ensures c.self.view_is)) c.requires.buffer in
    let out : is_out c.args.self.now c.args.buffer ≡ true =
    ap (λ (d : MarkedDevice). is_out d c.args.buffer) (sym (view_read c.deref.ensures c.self.view_is))
    ∙ (sym (says_out c.deref.result.now c.args.buffer (whole_read c.deref.ensures c.self.invariant.0) there) ∙ (sym c.is_out.ensures ∙ c.if-is_out.true)) in
    cc (free, out)

pub returns-in-Some-clause-busy : goal.returns-in-Some-clause-busy
returns-in-Some-clause-busy c =
    let there = subst (λ (d : MarkedDevice). c.args.buffer < length d.state.memory) (sym (view_read c.deref.ensures c.self.view_is)) c.requires.buffer in
    let inside : is_out c.args.self.now c.args.buffer ≡ false =
    ap (λ (d : MarkedDevice). is_out d c.args.buffer) (sym (view_read c.deref.ensures c.self.view_is))
    ∙ (sym (says_out c.deref.result.now c.args.buffer (whole_read c.deref.ensures c.self.invariant.0) there) ∙ (sym c.is_out.ensures ∙ c.if-is_out.false)) in
    let busy : busy_fence c.args.self.now.state.journal c.args.resv.now.kept ≡ Some c.in-Some.fence =
    ap (λ (d : MarkedDevice). busy_fence d.state.journal c.args.resv.now.kept) (sym (view_read c.deref.ensures c.self.view_is)) ∙ (sym c.busy_fence.ensures ∙ c.in-Some.is) in (
      ap (λ b. out_or b (option_map refusal.Busy (busy_fence c.args.self.now.state.journal c.args.resv.now.kept))) inside ∙ ap (option_map refusal.Busy) busy,
      refl,
    )

pub returns-in-Some-clause-writing : goal.returns-in-Some-clause-writing
returns-in-Some-clause-writing c inside ended =
    let free : busy_fence c.args.self.now.state.journal c.args.resv.now.kept ≡ None =
    writers_free c.args.buffer c.args.self.now.state.journal c.args.resv.now.kept c.requires.fits ended in
    let busy : busy_fence c.args.self.now.state.journal c.args.resv.now.kept ≡ Some c.in-Some.fence =
    ap (λ (d : MarkedDevice). busy_fence d.state.journal c.args.resv.now.kept) (sym (view_read c.deref.ensures c.self.view_is)) ∙ (sym c.busy_fence.ensures ∙ c.in-Some.is) in
    cc (free, busy)

pub returns-in-None-clause-writers : goal.returns-in-None-clause-writers
returns-in-None-clause-writers c =
    let order : EachTwo c.args.self.now.state.journal KeepsEntityOrder =
    subst (λ (d : MarkedDevice). EachTwo d.state.journal KeepsEntityOrder) (view_read c.deref.ensures c.self.view_is) (whole_read c.deref.ensures c.self.invariant.0).table.steady.lawful.entities in
    let free : busy_fence c.args.self.now.state.journal c.args.resv.now.kept ≡ None =
    ap (λ (d : MarkedDevice). busy_fence d.state.journal c.args.resv.now.kept) (sym (view_read c.deref.ensures c.self.view_is)) ∙ (sym c.busy_fence.ensures ∙ c.in-None.is) in
    writers_ended c.args.buffer c.args.self.now.state.journal c.args.resv.now.kept order c.requires.fits free

pub returns-in-None-clause-read : goal.returns-in-None-clause-read
returns-in-None-clause-read c =
    let there = subst (λ (d : MarkedDevice). c.args.buffer < length d.state.memory) (sym (view_read c.deref.ensures c.self.view_is)) c.requires.buffer in
    let inside : is_out c.args.self.now c.args.buffer ≡ false =
    ap (λ (d : MarkedDevice). is_out d c.args.buffer) (sym (view_read c.deref.ensures c.self.view_is))
    ∙ (sym (says_out c.deref.result.now c.args.buffer (whole_read c.deref.ensures c.self.invariant.0) there) ∙ (sym c.is_out.ensures ∙ c.if-is_out.false)) in
    let free : busy_fence c.args.self.now.state.journal c.args.resv.now.kept ≡ None =
    ap (λ (d : MarkedDevice). busy_fence d.state.journal c.args.resv.now.kept) (sym (view_read c.deref.ensures c.self.view_is)) ∙ (sym c.busy_fence.ensures ∙ c.in-None.is) in
    (inside, free, search rules)
