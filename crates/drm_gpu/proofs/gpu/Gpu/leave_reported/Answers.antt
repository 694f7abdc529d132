use Rattle.std.proofs.Common.{◌≡◌, ◌∙◌, true, false, ap, sym, subst}
use Rattle.std.specs.Prelude.{Option}
use Rattle.ww_lock.specs.Seats.{Sits, sees}
use Rattle.ww_lock.specs.Steps.{Turns}
use Rattle.ww_lock.specs.declared.board.TaskChange.TheVariants.{Ends}
use Rattle.drm_sched.specs.Marks.{Task, IsBusy}
use Rattle.drm_gpu.specs.Passes.{GpuState, Seeing}
use Rattle.drm_gpu.proofs.Chains.{left}
use Rattle.drm_gpu.proofs.Holders.{fits_kept_of}
use Rattle.drm_gpu.proofs.Packets.{ends}
use Rattle.drm_gpu.proofs.gpu.Gpu.leave_reported.Goals as goal

pub leave-requires-clause-sits : goal.leave-requires-clause-sits
leave-requires-clause-sits c = subst (λ z. Sits true z c.args.seat.now) (sym (ap (λ (g : GpuState). g.home) c.self.view_is)) c.requires.entered.sits

pub leave-requires-clause-facts : goal.leave-requires-clause-facts
leave-requires-clause-facts c =
    let p = c.args.found.now.value in (
      p,
      c.requires.entered.knows.seen,
      c.requires.good,
      c.requires.onward,
      (λ b x h. c.requires.keeps.fits b x.kept (fits_kept_of p c.args.seat.now.held.items c.requires.fit b x h)),
      (λ b x none f. c.requires.keeps.fits b x.kept f),
      (λ f. c.requires.keeps.words f),
      subst (λ (o : Option Task). Turns IsBusy p c.args.device o Ends) (sym c.requires.waits) (ends p c.args.device c.args.task.now c.requires.busy c.requires.tasks),
    )

pub leave-requires-clause-posted : goal.leave-requires-clause-posted
leave-requires-clause-posted c is = absurd (let never : false ≡ true = sym c.requires.entered.fresh ∙ is in cc (never))

pub returns-clause-seat : goal.returns-clause-seat
returns-clause-seat c =
    let x = c.leave.ensures.view in
    let e = c.requires.entered in
    let l = (left c.args.self.now.spec c.args.found.now.value c.args.device c.args.seat.now.held.items Ends x.0 (sees c.args.seat.now) (sees c.leave.new.seat) e.knows e.fresh c.requires.onward x.1 x.2).0 in (
      record { sits = subst (λ z. Sits false z c.leave.new.seat) (ap (λ (g : GpuState). g.home) c.self.view_is) c.leave.ensures.sits; knows = l.0; owed = c.leave.ensures.owed },
      l.1,
    )

pub returns-clause-holds : goal.returns-clause-holds
returns-clause-holds c = (c.leave.ensures.same, ap (λ (z : Seeing). z.task) c.leave.ensures.view.2)

pub returns-clause-call : goal.returns-clause-call
returns-clause-call c =
    let x = c.leave.ensures.view in
    let e = c.requires.entered in
    (left c.args.self.now.spec c.args.found.now.value c.args.device c.args.seat.now.held.items Ends x.0 (sees c.args.seat.now) (sees c.leave.new.seat) e.knows e.fresh c.requires.onward x.1 x.2).1
