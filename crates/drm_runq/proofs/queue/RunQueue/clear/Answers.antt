use Rattle.std.proofs.Common.{◌≡◌, ◌<◌, length, Some, None, Option, List, set, length-set, sym, ap, subst, ◌∙◌, arith}
use Rattle.std.proofs.lemmas.Option.{slice_get-get_or}
use Rattle.drm_runq.specs.declared.key.Key.{Key}
use Rattle.drm_runq.specs.Keys.{HasKey}
use Rattle.drm_runq.proofs.Cleared.{cleared_by}
use Rattle.drm_runq.proofs.queue.RunQueue.clear.Goals as goal

pub invariant_of-self : goal.invariant_of-self
invariant_of-self c =
    let inside : c.args.entity < length c.self.inside.keys.items = subst (λ (l : List (Option Key)). c.args.entity < length l) (sym c.self.view_is) c.requires in
    let has : HasKey c.self.inside.keys.items c.args.entity c.in-Some.key =
    slice_get-get_or c.self.inside.keys.items c.args.entity _ inside ∙ ap Some (sym c.index.ensures ∙ c.in-Some.is) in
    let count : length (set c.self.inside.keys.items c.args.entity None) ≡ length c.self.inside.keys.items = length-set c.self.inside.keys.items c.args.entity None in (
      cleared_by _ _ _ _ _ c.args.entity c.in-Some.key c.deref.ensures.value c.self.invariant.0 has c.find-place.ensures c.take_out.ensures.items,
      omega (arith, count, c.self.invariant.1, c.take_out.ensures.room),
      omega (arith, count, c.self.invariant.2),
    )
