use Rattle.std.proofs.Common.{false}
use Rattle.std.proofs.lemmas.Option.{slice_get-get_or}
use Rattle.drm_runq.proofs.Kept.{first_found, none_found, one_more_no, place_has_key}
use Rattle.drm_runq.proofs.queue.RunQueue.first.Goals as goal

pub ready-is_ready-requires : goal.ready-is_ready-requires
ready-is_ready-requires g c =
    c.requires _ _ (place_has_key _ _ _ _ _ _ c.self.view_is c.deref-place-items.ensures.value c.self.invariant.0 (slice_get-get_or _ _ _ c.loop-place-test.true))

pub returns-then-is_ready-clause-found : goal.returns-then-is_ready-clause-found
returns-then-is_ready-clause-found g c =
    first_found _ _ _ _ _ _ _ c.self.view_is c.deref-place-items.ensures.value c.self.invariant.0 (slice_get-get_or _ _ _ c.loop-place-test.true)
    c.if-is_ready.ensures c.loop-place.invariant

pub loop-place-preserved : goal.loop-place-preserved
loop-place-preserved g c =
    one_more_no _ (λ e. goal.F-post g c.args.ready e false) _ _ (slice_get-get_or _ _ _ c.loop-place-test.true) c.if-is_ready.ensures c.loop-place.invariant

pub returns-clause-none : goal.returns-clause-none
returns-clause-none g c =
    none_found _ _ _ _ (λ e b. goal.F-post g c.args.ready e b) _ c.self.view_is c.deref-place-items.ensures.value c.self.invariant.0 c.loop-place-test.false c.loop-place.invariant
