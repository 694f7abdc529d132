use Rattle.std.proofs.Common.{false, true, refl, ap, ◌∙◌, arith}
use Rattle.std.proofs.lemmas.Option.{slice_get_within}
use Rattle.drm_lists.proofs.Changed.{get_set_other}
use Rattle.lock_bench.proofs.packets.report_packet.Goals as goal

pub index_mut-requires : goal.index_mut-requires
index_mut-requires g c =
    let inside = slice_get_within c.enter-engines.result.is_busy.items c.args.engine true (c.enter-engines.ensures.later.waits c.args.engine c.requires.1) in omega (arith, inside)

pub leave-requires-clause-facts : goal.leave-requires-clause-facts
leave-requires-clause-facts g c = (
  c.enter-engines.result,
  ap (λ v. v.pivot.seen) c.enter-engines.ensures.view,
  tt,
  tt,
  (λ b x h. tt),
  (λ b x none h. tt),
  (λ f. refl),
  (
    c.args.engine,
    ap (λ v. v.task) c.enter-engines.ensures.view ∙ c.requires.1,
    (λ s away h. get_set_other c.enter-engines.result.is_busy.items c.args.engine s false away ∙ h),
  ),
)

pub returns : goal.returns
returns g c = (
  record { sits = c.leave.ensures.sits; none = ap (λ h. h.items) (c.leave.ensures.same.1 ∙ c.enter-engines.ensures.same.1) ∙ c.requires.0.none },
  ap (λ v. v.task) c.leave.ensures.view.2,
)
