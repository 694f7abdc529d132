use Rattle.std.proofs.Common.{◌≡◌, length, length-set, List, Option, Some, None, set, ap, ◌∙◌, arith}
use Rattle.std.proofs.lemmas.List.{set-set}
use Rattle.drm_runq.specs.declared.key.Key.{Key}
use Rattle.drm_runq.proofs.Inserted.{set_by}
use Rattle.drm_runq.proofs.queue.RunQueue.set.Goals as goal

pub invariant_of-self : goal.invariant_of-self
invariant_of-self c =
    let key : Key = record { priority = c.args.priority; age = c.args.age } in
    let count : length (set c.self.inside.keys.items c.args.entity (Some key)) ≡ length c.self.inside.keys.items =
    length-set c.self.inside.keys.items c.args.entity (Some key) in (
      set_by c.args.self.now _ _ _ _ _ c.args.entity _ key _ (c.self.view_is ∙ c.clear.ensures) c.requires c.deref.ensures.value c.self.invariant.0 c.self.invariant.1
          (omega arith) (omega arith) c.place_of-place.ensures.within c.place_of-place.ensures.before c.place_of-place.ensures.after (λ lt. c.insert.ensures.succeeds (omega (arith, lt, c.deref.ensures.value, c.deref.ensures.len, ap length c.deref.ensures.value))) c.insert.ensures.items,
      omega (arith, count, c.self.invariant.1, c.insert.ensures.capacity),
      omega (arith, count, c.self.invariant.2),
    )

pub returns : goal.returns
returns c =
    let key : Key = record { priority = c.args.priority; age = c.args.age } in
    ap (λ (l : List (Option Key)). set l c.args.entity (Some key)) (c.self.view_is ∙ c.clear.ensures) ∙ set-set c.args.self.now c.args.entity None (Some key)
