use Rattle.std.proofs.Common.{rules, ◌≡◌, ◌<◌, refl, true, false, Some, length, slice_get, ap, ◌∙◌}
use Rattle.std.proofs.lemmas.Option.{slice_get_within}
use Rattle.drm_lists.proofs.Changed.{get_set_within}
use Rattle.lock_bench.proofs.Flags.{set_more}
use Rattle.lock_bench.proofs.packets.begin_packet.Goals as goal

pub leave-requires-clause-facts : goal.leave-requires-clause-facts
leave-requires-clause-facts g c =
    (c.enter-engines.result, ap (λ v. v.pivot.seen) c.enter-engines.ensures.view, tt, tt, (λ b x h. tt), (λ b x none h. tt), (λ f. refl), (λ t h. h))

pub leave-requires-2-clause-facts : goal.leave-requires-2-clause-facts
leave-requires-2-clause-facts g c =
    let flags = c.enter-engines.result.is_busy.items in
    let idle : slice_get flags c.args.engine ≡ Some false = search rules in
    let inside : c.args.engine < length flags = slice_get_within flags c.args.engine false idle in (
      c.enter-engines.result,
      ap (λ v. v.pivot.seen) c.enter-engines.ensures.view,
      tt,
      tt,
      (λ b x h. tt),
      (λ b x none h. tt),
      (λ f. refl),
      (
        ap (λ v. v.task) c.enter-engines.ensures.view ∙ c.requires.1,
        (λ busy. absurd (cc (idle, busy))),
        get_set_within flags c.args.engine true inside,
        (λ s h. set_more flags c.args.engine s inside h),
      ),
    )
