use Rattle.std.proofs.Common.{◌≡◌, ◌∙◌, true, false, ap, sym, subst}
use Rattle.ww_lock.specs.Seats.{Sits, sees}
use Rattle.ww_lock.specs.declared.board.TaskChange.TheVariants.{Same}
use Rattle.drm_sched.specs.Marks.{IsBusy}
use Rattle.drm_gpu.specs.Passes.{FitsDevice, GpuState, GrowsTo, Seeing, word_shown}
use Rattle.drm_gpu.proofs.Chains.{left_quietly, same_seen}
use Rattle.drm_gpu.proofs.Grown.{grows_itself}
use Rattle.drm_gpu.proofs.Holders.{fits_kept_of}
use Rattle.drm_gpu.proofs.gpu.Gpu.leave_as_found.Goals as goal

pub leave-requires-clause-sits : goal.leave-requires-clause-sits
leave-requires-clause-sits c = subst (λ z. Sits true z c.args.seat.now) (sym (ap (λ (g : GpuState). g.home) c.self.view_is)) c.requires.entered.sits

pub leave-requires-clause-facts : goal.leave-requires-clause-facts
leave-requires-clause-facts c = let same = c.requires.same in let p = c.args.found.now.value in (
  p,
  c.requires.entered.knows.seen,
  c.requires.good,
  subst (λ d. GrowsTo d c.args.device) same (grows_itself c.args.device),
  (λ b x h. subst (λ d. FitsDevice b d x) (sym same) (fits_kept_of p c.args.seat.now.held.items c.requires.fit b x h)),
  (λ b x none f. subst (λ d. FitsDevice b d x) (sym same) f),
  (λ f. ap (λ d. word_shown d f) same),
  λ t busy. subst (λ d. IsBusy d t) (sym same) busy,
)

pub leave-requires-clause-posted : goal.leave-requires-clause-posted
leave-requires-clause-posted c is = absurd (let never : false ≡ true = sym c.requires.entered.fresh ∙ is in cc (never))

pub leave-requires-clause-quiet : goal.leave-requires-clause-quiet
leave-requires-clause-quiet c q p e =
    subst (GrowsTo c.args.device) (c.requires.same ∙ sym (same_seen c.args.self.now.spec c.args.found.now.value p (sees c.args.seat.now) c.requires.entered.knows e)) (grows_itself c.args.device)

pub returns-clause-seat : goal.returns-clause-seat
returns-clause-seat c =
    let x = c.leave.ensures.view in
    let l = (left_quietly c.args.self.now.spec c.args.found.now.value c.args.device c.args.seat.now.held.items Same x.0 (sees c.args.seat.now) (sees c.leave.new.seat) c.requires.entered.knows
    (subst (λ d. GrowsTo d c.args.device) c.requires.same (grows_itself c.args.device)) x.2).0 in (
      record { sits = subst (λ z. Sits false z c.leave.new.seat) (ap (λ (g : GpuState). g.home) c.self.view_is) c.leave.ensures.sits; knows = l.0; owed = c.leave.ensures.owed },
      l.1,
    )

pub returns-clause-holds : goal.returns-clause-holds
returns-clause-holds c = (c.leave.ensures.same, ap (λ (z : Seeing). z.task) c.leave.ensures.view.2)

pub returns-clause-same : goal.returns-clause-same
returns-clause-same c =
    let x = c.leave.ensures.view in
    (left_quietly c.args.self.now.spec c.args.found.now.value c.args.device c.args.seat.now.held.items Same x.0 (sees c.args.seat.now) (sees c.leave.new.seat) c.requires.entered.knows
    (subst (λ d. GrowsTo d c.args.device) c.requires.same (grows_itself c.args.device)) x.2).1
