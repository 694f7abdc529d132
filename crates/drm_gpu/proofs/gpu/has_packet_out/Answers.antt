use Rattle.std.proofs.Common.{◌≡◌, ◌≤◌, ◌∙◌, length, ap, sym, subst, arith}
use Rattle.drm_types.specs.declared.spec.DeviceSpec.{DeviceSpec}
use Rattle.drm_gpu.proofs.Packets.{no_ring_out}
use Rattle.drm_gpu.proofs.gpu.has_packet_out.Goals as goal

pub returns-clause-idle : goal.returns-clause-idle
returns-clause-idle c none =
    let d = c.args.device.now in
    let count : c.len-count.result ≡ length d.marks =
    c.len-count.ensures ∙ (ap (λ (s : DeviceSpec). length s.rings) c.spec.ensures.value ∙ sym c.facts.ensures.marked.count) in
    let end : length d.marks ≤ c.loop-ring.ring = subst (λ n. n ≤ c.loop-ring.ring) count c.loop-ring-test.false in
    no_ring_out d (λ k lt. c.loop-ring.invariant k (omega (arith, lt, end)))
