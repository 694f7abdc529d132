use Rattle.std.proofs.Common.{◌<◌, ◌≤◌, length, sym, ◌∙◌, arith}
use Rattle.std.proofs.lemmas.Option.{slice_get-get_or}
use Rattle.drm_fence.specs.Fences.{has_ended_at}
use Rattle.drm_resv.specs.Entries.{replaces}
use Rattle.drm_resv.proofs.AddedIs.{one_more_fails, past_end}
use Rattle.drm_resv.proofs.lists.place_for.Goals as goal

pub loop-place-preserved : goal.loop-place-preserved
loop-place-preserved c =
    let inside : c.loop-place.place < length c.args.entries.now = c.loop-place-test.true in (
      omega (arith, inside),
      one_more_fails (replaces (has_ended_at c.args.timeline.now.list) c.args.new.now) _ _ _ (slice_get-get_or _ _ _ inside)
          (sym c.replaces.ensures ∙ c.if-replaces.false) c.loop-place.invariant.1,
    )

pub returns-clause-here : goal.returns-clause-here
returns-clause-here c =
    let past : length c.args.entries.now ≤ c.loop-place.place = c.loop-place-test.false in λ e at. absurd (past_end _ _ e past at)
