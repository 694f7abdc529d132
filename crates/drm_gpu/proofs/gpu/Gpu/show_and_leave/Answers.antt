use Rattle.std.proofs.Common.{◌<◌, ◌∙◌, true, false, ap, sym, subst, refl}
use Rattle.ww_lock.specs.Seats.{Sits, sees}
use Rattle.ww_lock.specs.declared.board.TaskChange.TheVariants.{Same}
use Rattle.drm_types.specs.declared.spec.DeviceSpec.{DeviceSpec}
use Rattle.drm_state.specs.Held.{kept_of}
use Rattle.drm_gpu.specs.Passes.{Fitting, GpuState, Seeing}
use Rattle.drm_gpu.proofs.Chains.{shown_and_left, still_busy}
use Rattle.drm_gpu.proofs.Grown.{grows_itself}
use Rattle.drm_gpu.proofs.Holders.{fits_kept_of, not_held}
use Rattle.drm_gpu.proofs.gpu.Gpu.show_and_leave.Goals as goal

pub post-requires-clause-sits : goal.post-requires-clause-sits
post-requires-clause-sits c =
    let e = c.requires.entered in
    let place : c.args.fence < c.self.inside.board.posts =
    subst (λ n. c.args.fence < n) (sym (c.self.invariant.0 ∙ ap (λ (g : GpuState). g.spec.max_jobs) c.self.view_is))
    (subst (λ (s : DeviceSpec). c.args.fence < s.max_jobs) e.knows.described c.requires.shown.place) in
    (subst (λ z. Sits true z c.args.seat.now) (sym (ap (λ (g : GpuState). g.home) c.self.view_is)) e.sits, e.fresh, place)

pub post-requires-clause-facts : goal.post-requires-clause-facts
post-requires-clause-facts c =
    let d = c.requires.shown in
    let s = c.args.seat.now in (
      c.args.found.now.value,
      c.requires.entered.knows.seen,
      c.requires.good,
      c.requires.onward,
      fits_kept_of c.args.device s.held.items c.requires.fit,
      (λ b x none f. d.fits b x.kept (not_held b (sees s).lock.owes s.held.items c.requires.entered.sits.keys none) f),
      c.number.ensures ∙ sym d.word,
      (λ f ne. d.words f ne),
      still_busy c.args.found.now.value c.args.device c.requires.marks,
    )

pub leave-requires-clause-facts : goal.leave-requires-clause-facts
leave-requires-clause-facts c = (
  c.args.device,
  ap (λ (z : Seeing). z.pivot.seen) c.post.ensures.view.2,
  c.requires.good,
  grows_itself c.args.device,
  fits_kept_of c.args.device c.post.new.seat.held.items (subst (λ h. Fitting c.args.device (kept_of h.items)) (sym c.post.ensures.same.1) c.requires.fit),
  (λ b x none f. f),
  (λ f. refl),
  λ t h. h,
)

pub leave-requires-clause-posted : goal.leave-requires-clause-posted
leave-requires-clause-posted c is = ap (λ (z : Seeing). z.pivot.seen) c.post.ensures.view.2

pub returns-clause-seat : goal.returns-clause-seat
returns-clause-seat c =
    let x = c.post.ensures.view in
    let y = c.leave.ensures.view in
    let l = (shown_and_left c.args.self.now.spec c.args.found.now.value c.args.device c.args.seat.now.held.items Same x.0 y.0 c.post.new.seat.held.items (sees c.args.seat.now) (sees c.post.new.seat) (sees c.leave.new.seat)
    c.requires.entered.knows c.requires.onward x.1 x.2 y.2).0 in (
      record { sits = subst (λ z. Sits false z c.leave.new.seat) (ap (λ (g : GpuState). g.home) c.self.view_is) c.leave.ensures.sits; knows = l.0; owed = c.leave.ensures.owed },
      l.1,
    )

pub returns-clause-holds : goal.returns-clause-holds
returns-clause-holds c =
    let s = c.leave.ensures.same in
    let t = c.post.ensures.same in
    ((s.0 ∙ t.0, s.1 ∙ t.1, s.2 ∙ t.2), ap (λ (z : Seeing). z.task) c.leave.ensures.view.2 ∙ ap (λ (z : Seeing). z.task) c.post.ensures.view.2)

pub returns-clause-call : goal.returns-clause-call
returns-clause-call c =
    let x = c.post.ensures.view in
    let y = c.leave.ensures.view in
    (shown_and_left c.args.self.now.spec c.args.found.now.value c.args.device c.args.seat.now.held.items Same x.0 y.0 c.post.new.seat.held.items (sees c.args.seat.now) (sees c.post.new.seat) (sees c.leave.new.seat)
    c.requires.entered.knows c.requires.onward x.1 x.2 y.2).1
