use Rattle.std.proofs.Common.{◌≡◌, ◌<◌, ◌∷◌, [], ◌∙◌, refl, inl, ap, sym, subst, length}
use Rattle.std.specs.Prelude.{slice_index_or}
use Rattle.drm_buffer.proofs.Sizes.{size_by_sizes}
use Rattle.ww_lock.specs.Acquiring.{view}
use Rattle.ww_lock.specs.Rule.{In}
use Rattle.ww_lock.specs.Seats.{sees}
use Rattle.drm_types.specs.declared.spec.DeviceSpec.{DeviceSpec}
use Rattle.drm_buffer.specs.Memory.{bytes_of}
use Rattle.drm_state.specs.Held.{kept_of}
use Rattle.drm_state.specs.Keeps.{Keeps}
use Rattle.drm_sched.specs.Marks.{MarkedDevice}
use Rattle.drm_state.specs.Reservation.{Fits}
use Rattle.drm_gpu.specs.Passes.{Fitting, GrowsTo}
use Rattle.drm_gpu.specs.Reading.{ReadingState, HoldsFitting, ReadIs}
use Rattle.drm_gpu.proofs.Grown.{grows_itself, keeps_itself}
use Rattle.drm_gpu.proofs.Holders.{called_with}
use Rattle.drm_gpu.proofs.Read.{count_by_sizes, read_is}
use Rattle.drm_gpu.proofs.reading.Reading.read_into.Goals as goal

pub read_into-answer-requires-clause-buffer : goal.read_into-answer-requires-clause-buffer
read_into-answer-requires-clause-buffer g c =
    let d = c.enter_for-device.result in
    let same : d.state.spec ≡ c.self.inside.gpu.now.spec = c.enter_for-device.ensures.found.later.spec ∙ c.self.invariant.0.seat.knows.described in
    subst (λ n. c.self.inside.buffer < n) (sym (count_by_sizes d.state.memory d.state.spec.buffers c.facts.ensures.sizes ∙ ap (λ (s : DeviceSpec). length s.buffers) same)) c.self.invariant.2

pub read_into-answer-requires-clause-fits : goal.read_into-answer-requires-clause-fits
read_into-answer-requires-clause-fits g c =
    let d = c.enter_for-device.result in
    let b = c.self.inside.buffer in
    let x = c.self.invariant.3.0 in
    let is : c.held.result.now ≡ (b, x) ∷ [] = c.held.ensures ∙ (ap (λ h. h.items) c.enter_for-device.ensures.holds.0.1 ∙ c.self.invariant.3.1) in
    subst (λ l. Fits b d.state.journal (slice_index_or l 0 c.index-held-0.result).1.kept) (sym is)
    (c.enter_for-device.ensures.fit b x.kept (subst (λ hs. In (b, x.kept) (kept_of hs)) (sym (ap (λ h. h.items) c.enter_for-device.ensures.holds.0.1 ∙ c.self.invariant.3.1)) (inl refl)))

pub read_into-answer-requires-clause-size : goal.read_into-answer-requires-clause-size
read_into-answer-requires-clause-size g c =
    let d = c.enter_for-device.result in
    let b = c.self.inside.buffer in
    c.requires ∙ (ap (λ (r : ReadingState). length (bytes_of r.pass.gpu.spec.buffers r.buffer)) (sym c.self.view_is)
    ∙ (ap (λ (s : DeviceSpec). length (bytes_of s.buffers b)) (sym c.enter_for-device.ensures.found.later.spec)
    ∙ sym (size_by_sizes d.state.memory d.state.spec.buffers b c.facts.ensures.sizes)))

pub leave-requires-clause-fit : goal.leave-requires-clause-fit
leave-requires-clause-fit g c = subst (λ d. Fitting d (kept_of c.enter_for-device.new.seat.held.items)) (sym c.of-found.ensures) c.enter_for-device.ensures.fit

pub leave-requires-clause-onward : goal.leave-requires-clause-onward
leave-requires-clause-onward g c = subst (λ x. GrowsTo x c.enter_for-device.result) (sym c.of-found.ensures) (grows_itself c.enter_for-device.result)

pub leave-requires-clause-keeps : goal.leave-requires-clause-keeps
leave-requires-clause-keeps g c =
    subst (λ (x : MarkedDevice). Keeps x.state c.enter_for-device.result.state) (sym c.of-found.ensures) (keeps_itself c.enter_for-device.result)

pub returns-clause-call : goal.returns-clause-call
returns-clause-call g c =
    let gpu = c.self.inside.gpu.now in
    let d = c.enter_for-device.result in
    let b = c.self.inside.buffer in
    let old = c.args.out.now in
    let new = c.read_into-answer.new.out in
    let r = c.read_into-answer.result in
    let e = c.read_into-answer.ensures in
    let at = c.self.invariant.3 in
    let is : c.held.result.now ≡ (b, at.0) ∷ [] = c.held.ensures ∙ (ap (λ h. h.items) c.enter_for-device.ensures.holds.0.1 ∙ at.1) in
    let x = (slice_index_or c.held.result.now 0 c.index-held-0.result).1.kept in
    let has : In (b, x) (kept_of c.self.inside.acquire.seat.held.items) =
    subst (λ hs. In (b, x) (kept_of hs)) (sym at.1) (inl (ap (λ l. (b, (slice_index_or l 0 c.index-held-0.result).1.kept)) is)) in
    let s : ReadingState = record { pass = c.args.self.now.pass; buffer = b; held = kept_of c.self.inside.acquire.seat.held.items } in
    let fitting : HoldsFitting s d =
    (at.0.kept, ap kept_of at.1, c.enter_for-device.ensures.fit b at.0.kept (subst (λ hs. In (b, at.0.kept) (kept_of hs)) (sym (ap (λ h. h.items) c.enter_for-device.ensures.holds.0.1 ∙ at.1)) (inl refl))) in
    called_with (ReadIs c.args.self.now r old new) gpu c.args.self.now.pass (view c.self.inside.acquire) (sees c.enter_for-device.new.seat) (sees c.leave.new.seat) d c.of-found.result.value d
    (ap (λ (s : ReadingState). s.pass) c.self.view_is) c.self.invariant.0.seat.knows c.enter_for-device.ensures.found c.enter_for-device.ensures.same c.of-found.ensures (grows_itself d)
    c.leave.ensures.seat.0.knows c.leave.ensures.seat.1 c.leave.ensures.call
    (subst (λ (s : ReadingState). ReadIs s r old new d d) c.self.view_is
    (read_is s x has old new d c.enter_for-device.ensures.free fitting r e.read e.writers e.busy e.writing))
