use Rattle.std.proofs.Common.{sym, ap, subst, ◌∙◌, arith, lit<}
use Rattle.drm_resv.specs.Latest.{noted, IsPerEntity}
use Rattle.drm_resv.proofs.NotedIs.{noted_by_set, noted_new, before_all, per_entity_noted, place_left}
use Rattle.drm_resv.proofs.deps.Deps.note.Goals as goal

pub returns-then-place-len : goal.returns-then-place-len
returns-then-place-len c =
    noted_by_set _ _ _ _ _ _ _ _ c.as_slice.ensures.value c.deref_mut.ensures.value c.self.view_is c.max-slot.ensures
    (omega (arith, c.if-place-len.true, c.len.ensures.value)) c.place_of-place.ensures.before c.place_of-place.ensures.here

pub invariant_of-self : goal.invariant_of-self
invariant_of-self c =
    subst IsPerEntity (ap (λ l. noted l c.args.entity c.args.fence) c.self.view_is ∙ sym (returns-then-place-len c))
    (per_entity_noted _ c.args.entity c.args.fence c.requires c.self.invariant)

pub push-requires : goal.push-requires
push-requires c = (
  lit< tt,
  place_left _ c.args.entity c.requires c.self.invariant
      (before_all _ _ _ _ c.as_slice.ensures.value (omega (arith, c.if-place-len.false, c.len.ensures.value)) c.place_of-place.ensures.before),
)

pub returns-else-place-len : goal.returns-else-place-len
returns-else-place-len c =
    c.push.ensures.items
    ∙ sym (noted_new _ c.args.entity c.args.fence (before_all _ _ _ _ c.as_slice.ensures.value (omega (arith, c.if-place-len.false, c.len.ensures.value)) c.place_of-place.ensures.before))
    ∙ ap (λ l. noted l c.args.entity c.args.fence) c.self.view_is

pub invariant_of-self-else-place-len : goal.invariant_of-self-else-place-len
invariant_of-self-else-place-len c =
    subst IsPerEntity (ap (λ l. noted l c.args.entity c.args.fence) c.self.view_is ∙ sym (returns-else-place-len c))
    (per_entity_noted _ c.args.entity c.args.fence c.requires c.self.invariant)
