use Rattle.std.proofs.Common.{◌+◌, ◌∙◌, refl, sym, ap, drop, inl}
use Rattle.std.specs.Prelude.{fold}
use Rattle.drm_state.specs.Arming.{less_loaded}
use Rattle.drm_table.proofs.ArmDone.{ring_of_entity_there}
use Rattle.drm_table.proofs.Balancing.{least_step, listed_at}
use Rattle.drm_table.proofs.table.Table.least_loaded.Goals as goal

pub loop-ring-init : goal.loop-ring-init
loop-ring-init c = (refl, ring_of_entity_there c.args.self.now c.args.entity c.first_ring-best.result c.requires.whole c.requires.there (inl c.first_ring-best.ensures))

pub less_loaded-best-requires-clause-ring : goal.less_loaded-best-requires-clause-ring
less_loaded-best-requires-clause-ring c =
    listed_at c.args.self.now c.args.entity c.loop-ring.ring-index c.rings_of-rings.result.now c.requires.whole c.requires.there c.rings_of-rings.ensures c.loop-ring-test.true

pub loop-ring-preserved : goal.loop-ring-preserved
loop-ring-preserved c = (
  ap (λ b. fold (less_loaded c.args.self.now.journal.items) b (drop (c.loop-ring.ring-index + 1) c.rings_of-rings.result.now)) c.less_loaded-best.ensures.less
      ∙ (sym (least_step c.args.self.now.journal.items c.loop-ring.best c.rings_of-rings.result.now c.loop-ring.ring-index c.loop-ring-test.true) ∙ c.loop-ring.invariant.0),
  c.less_loaded-best.ensures.there,
)
