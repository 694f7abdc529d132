use Rattle.std.proofs.Common.{◌≡◌, ◌∙◌, sym, subst, take, Some, slice_get}
use Rattle.std.proofs.lemmas.List.{take_all}
use Rattle.drm_state.specs.Collected.{IsCollected}
use Rattle.drm_core.specs.Planning.{declared_kept}
use Rattle.drm_core.proofs.Collecting.{kept_next}
use Rattle.drm_lists.proofs.Places.{contains_at}
use Rattle.drm_core.proofs.RoomFacts.{drop_next}
use Rattle.drm_core.proofs.planning.collect.Goals as goal

pub loop-use_of-preserved : goal.loop-use_of-preserved
loop-use_of-preserved c spec is =
    let rs = c.args.reservations.now in
    let declared = c.declared-declared.result.now in
    let i = c.loop-use_of.use_of-index in
    let d = c.use_of-item.result in
    let at = (drop_next declared i d c.use_of-item.is c.loop-use_of-test.true).1 in
    let declared_at : slice_get c.args.job.now.declared i ≡ Some d = subst (λ ds. slice_get ds i ≡ Some d) c.declared-declared.ensures at in
    subst (λ held. IsCollected c.args.job.now held c.add_dependencies.new.deps)
    (sym (kept_next rs declared i c.number.result d c.index-reservations-number.result c.use_of-item.is c.loop-use_of-test.true c.number.ensures c.index-reservations-number.is (c.requires.there i d declared_at)))
    (c.add_dependencies.ensures spec c.args.job.now (declared_kept rs (take i declared)) d.0 is (contains_at c.args.job.now.declared i d declared_at) (c.loop-use_of.invariant spec is))

pub returns : goal.returns
returns c spec is =
    let rs = c.args.reservations.now in
    subst (λ ds. IsCollected c.args.job.now (declared_kept rs ds) c.loop-use_of.deps)
    (take_all c.loop-use_of.use_of-index c.declared-declared.result.now c.loop-use_of-test.false ∙ c.declared-declared.ensures) (c.loop-use_of.invariant spec is)
