use Rattle.std.proofs.Common.{◌≡◌, ◌∙◌, length, sym, ap, subst}
use Rattle.std.proofs.lemmas.List.{length-map}
use Rattle.drm_sched.specs.Marks.{MarkedDevice}
use Rattle.drm_sched.proofs.device_calls.Device.spec.Goals as goal

pub returns-clause-buffers : goal.returns-clause-buffers
returns-clause-buffers c =
    let t = c.self.inside.parts.value.table in
    subst (λ (d : MarkedDevice). length d.state.memory ≡ length d.state.spec.buffers) c.self.view_is
    (sym (length-map t.memory.bytes length) ∙ (ap length c.self.invariant.0.table.sizes ∙ length-map t.spec.buffers length))
