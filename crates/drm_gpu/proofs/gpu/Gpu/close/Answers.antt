use Rattle.std.proofs.Common.{◌≡◌, ◌<◌, ◌∙◌, ap, sym, subst, length, Some, true}
use Rattle.ww_lock.specs.Seats.{sees}
use Rattle.ww_lock.specs.Lifetime.{HasAll, TakesApart}
use Rattle.ww_lock.specs.Parts.{IsWhole}
use Rattle.drm_types.specs.declared.spec.DeviceSpec.{DeviceSpec}
use Rattle.drm_sched.specs.Marks.{MarkedDevice, ring_out}
use Rattle.drm_gpu.specs.Laws.{device_facts}
use Rattle.drm_gpu.specs.Passes.{GpuState, PassState, GrowsTo, last_of, pass_of}
use Rattle.drm_gpu.proofs.Chains.{saw}
use Rattle.drm_gpu.proofs.Left.{jobs_of, last_left}
use Rattle.drm_gpu.proofs.Read.{count_by_sizes}
use Rattle.drm_gpu.proofs.Lists.{none_owed, slice_of}
use Rattle.drm_gpu.proofs.Packets.{nothing_out}
use Rattle.drm_gpu.proofs.gpu.Gpu.close.Goals as goal

pub returns-clause-closed : goal.returns-clause-closed
returns-clause-closed c =
    let device = c.in-Ok-close.device in
    let v = sees c.pass.inside.seat in
    let k = c.pass.invariant.seated.knows in
    let idle = c.pass.invariant in
    let owes = none_owed _ _ idle.seated.sits.keys idle.none in
    let e = c.in-Ok-close.ensures in
    let left = c.close-left.ensures in
    let out = c.close.new.out in
    let later : GrowsTo (last_of v) device = e.pivot.1 (last_of v) (saw (last_of v).state.spec (last_of v) v k) in
    let of_pass : c.args.pass.gpu.spec ≡ device.state.spec = ap (λ (o : PassState). o.gpu.spec) (sym c.pass.view_is) ∙ sym later.spec in
    let described : c.self.inside.board.table.shared.key.pivot.value.state.spec ≡ device.state.spec =
    ap (λ (g : GpuState). g.spec) c.self.view_is ∙ (sym (ap (λ (g : GpuState). g.spec) (ap (λ (o : PassState). o.gpu) c.pass.view_is ∙ c.requires)) ∙ sym later.spec) in
    let at = ap (λ (o : PassState). o.gpu.home) c.pass.view_is in
    let posts : c.self.inside.board.posts ≡ c.args.pass.gpu.spec.max_jobs =
    c.self.invariant.0 ∙ (ap (λ (s : DeviceSpec). s.max_jobs) described ∙ ap (λ (s : DeviceSpec). s.max_jobs) (sym of_pass)) in
    let count : length out.items ≡ c.self.inside.board.buffers = sym out.ok.0 ∙ e.length in
    let has_all : IsWhole c.args.pass.part → HasAll v = λ whole. (subst (λ (o : PassState). IsWhole o.part) (sym c.pass.view_is) whole, owes, idle.seated.sits.inside) in
    record {
      device = device;
      lawful = e.pivot.0;
      home = (
        c.pass.inside.seat.place.id,
        v,
        ap (λ h. pass_of h v) (sym at) ∙ c.pass.view_is,
        subst (λ n. TakesApart device_facts n c.pass.inside.seat.place.id v out.items (Some device)) posts e.home,
      );
      idle = c.has_packet_out.ensures.idle c.if-has_packet_out.false;
      later = subst (λ (o : PassState). GrowsTo o.last device) c.pass.view_is later;
      spec = (left.left.0, left.left.0 ∙ sym of_pass);
      records = left.left.1;
      jobs = jobs_of device.state.spec device.state.journal c.close-left.result.spec c.close-left.result.records left.left.0 left.left.1 e.pivot.0.records;
      bytes = left.left.2;
      inside = λ b lt.
          let there = subst (λ n. b < n) (sym (count_by_sizes device.state.memory device.state.spec.buffers c.facts.ensures.sizes ∙ ap (λ (s : DeviceSpec). length s.buffers) (sym of_pass))) lt in
          left.inside b there (nothing_out device (c.has_packet_out.ensures.idle c.if-has_packet_out.false) b);
      fit = e.pivot.2;
      count = count ∙ (c.self.invariant.1 ∙ ap (λ (s : DeviceSpec). length s.buffers) described);
      last = last_left (last_of v).state.spec _ c.args.pass device v k c.pass.view_is owes idle.seated.sits.inside e.last;
      all = λ whole b lt. let x = e.all (has_all whole) b (subst (λ n. b < n) count lt) in (x.0, slice_of out.items b (Some x.0) x.1);
    }

pub returns-then-has_packet_out-clause-refused : goal.returns-then-has_packet_out-clause-refused
returns-then-has_packet_out-clause-refused c whole =
    let device = c.in-Ok-close.device in
    let v = sees c.pass.inside.seat in
    let idle = c.pass.invariant in
    let owes = none_owed _ _ idle.seated.sits.keys idle.none in
    let same = last_left (last_of v).state.spec _ c.args.pass device v idle.seated.knows c.pass.view_is owes idle.seated.sits.inside c.in-Ok-close.ensures.last whole in
    let out = c.has_packet_out.ensures.out c.if-has_packet_out.true in
    (out.0, subst (λ (d : MarkedDevice). ring_out d out.0 ≡ true) same out.1)

pub returns-in-Err-clause-refused : goal.returns-in-Err-clause-refused
returns-in-Err-clause-refused c whole =
    let idle = c.pass.invariant in
    absurd (c.in-Err.ensures.last (subst (λ (o : PassState). IsWhole o.part) (sym c.pass.view_is) whole, none_owed _ _ idle.seated.sits.keys idle.none, idle.seated.sits.inside))
