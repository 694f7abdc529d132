use Rattle.std.proofs.Common.{◌≡◌, List, length, replicate, None, Option, sym, subst, ap, ◌∙◌, arith, rules}
use Rattle.std.proofs.lemmas.List.{length-replicate}
use Rattle.drm_runq.specs.declared.key.Key.{Key}
use Rattle.drm_runq.specs.declared.queue.Place.{Place}
use Rattle.drm_runq.specs.Sorted.{IsOrderOf}
use Rattle.drm_runq.proofs.Kept.{order_of_none}
use Rattle.drm_runq.proofs.queue.RunQueue.new.Goals as goal

pub invariant_of-result : goal.invariant_of-result
invariant_of-result c =
    let is : c.in_ok-vec.field-0.items ≡ replicate {A = Option Key} c.args.entities None = search rules in
    let count : length c.in_ok-vec.field-0.items ≡ c.args.entities = ap length is ∙ length-replicate c.args.entities None in (
      subst (λ (l : List (Option Key)). IsOrderOf l c.in_ok-with_capacity.field-0.items) (sym is)
          (subst (λ (l : List Place). IsOrderOf (replicate c.args.entities None) l) (sym c.in_ok-with_capacity.ensures.items) (order_of_none c.args.entities)),
      omega (arith, count, c.in_ok-with_capacity.ensures.exact),
      omega (arith, count, c.ranges.entities.fits),
    )
