use Rattle.std.proofs.Common.{◌≡◌, ◌∙◌, true, false, ap, sym, subst}
use Rattle.std.specs.Prelude.{Option}
use Rattle.ww_lock.specs.Seats.{Sits, sees}
use Rattle.ww_lock.specs.Steps.{Turns}
use Rattle.ww_lock.specs.declared.board.TaskChange.TheVariants.{Begins}
use Rattle.drm_sched.specs.Marks.{MarkedDevice, Task, IsBusy}
use Rattle.drm_state.specs.Reservation.{Fits}
use Rattle.drm_state.specs.State.{DeviceState}
use Rattle.drm_state.specs.Grows.{Grows}
use Rattle.drm_state.specs.Keeps.{word_at}
use Rattle.drm_gpu.specs.Passes.{GpuState, Seeing}
use Rattle.drm_gpu.proofs.Chains.{left_quietly, same_seen}
use Rattle.drm_gpu.proofs.Grown.{grows_itself}
use Rattle.drm_gpu.proofs.Holders.{fits_kept_of}
use Rattle.drm_gpu.proofs.Packets.{begins}
use Rattle.drm_gpu.proofs.gpu.Gpu.leave_sent.Goals as goal

pub leave-requires-clause-sits : goal.leave-requires-clause-sits
leave-requires-clause-sits c = subst (λ z. Sits true z c.args.seat.now) (sym (ap (λ (g : GpuState). g.home) c.self.view_is)) c.requires.entered.sits

pub leave-requires-clause-facts : goal.leave-requires-clause-facts
leave-requires-clause-facts c =
    let same = c.requires.state in
    let p = c.args.found.now.value in (
      p,
      c.requires.entered.knows.seen,
      c.requires.good,
      subst (λ (d : DeviceState). Grows d c.args.device.state) same (grows_itself c.args.device),
      (λ b x h. subst (λ (d : DeviceState). Fits b d.journal x.kept) (sym same) (fits_kept_of p c.args.seat.now.held.items c.requires.fit b x h)),
      (λ b x none f. subst (λ (d : DeviceState). Fits b d.journal x.kept) (sym same) f),
      (λ f. ap (λ (d : DeviceState). word_at d.journal f) same),
      subst (λ (o : Option Task). Turns IsBusy p c.args.device o (Begins c.args.task)) (sym c.requires.idle) (begins p c.args.device c.args.task c.requires.free c.requires.busy c.requires.tasks),
    )

pub leave-requires-clause-posted : goal.leave-requires-clause-posted
leave-requires-clause-posted c is = absurd (let never : false ≡ true = sym c.requires.entered.fresh ∙ is in cc (never))

pub leave-requires-clause-quiet : goal.leave-requires-clause-quiet
leave-requires-clause-quiet c q p e =
    let is = same_seen c.args.self.now.spec c.args.found.now.value p (sees c.args.seat.now) c.requires.entered.knows e in
    subst (λ (d : DeviceState). Grows c.args.device.state d) (c.requires.state ∙ ap (λ (m : MarkedDevice). m.state) (sym is)) (grows_itself c.args.device)

pub returns-clause-seat : goal.returns-clause-seat
returns-clause-seat c =
    let x = c.leave.ensures.view in
    let l = (left_quietly c.args.self.now.spec c.args.found.now.value c.args.device c.args.seat.now.held.items (Begins c.args.task) x.0 (sees c.args.seat.now) (sees c.leave.new.seat) c.requires.entered.knows
    (subst (λ (d : DeviceState). Grows d c.args.device.state) c.requires.state (grows_itself c.args.device)) x.2).0 in (
      record { sits = subst (λ z. Sits false z c.leave.new.seat) (ap (λ (g : GpuState). g.home) c.self.view_is) c.leave.ensures.sits; knows = l.0; owed = c.leave.ensures.owed },
      l.1,
    )

pub returns-clause-holds : goal.returns-clause-holds
returns-clause-holds c = (c.leave.ensures.same, ap (λ (z : Seeing). z.task) c.leave.ensures.view.2)

pub returns-clause-same : goal.returns-clause-same
returns-clause-same c =
    let x = c.leave.ensures.view in
    (left_quietly c.args.self.now.spec c.args.found.now.value c.args.device c.args.seat.now.held.items (Begins c.args.task) x.0 (sees c.args.seat.now) (sees c.leave.new.seat) c.requires.entered.knows
    (subst (λ (d : DeviceState). Grows d c.args.device.state) c.requires.state (grows_itself c.args.device)) x.2).1
