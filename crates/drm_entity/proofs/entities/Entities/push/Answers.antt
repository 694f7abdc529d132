use Rattle.std.proofs.Common.{◌≡◌, ℕ, ◌+◌, ◌^◌, ◌<◌, List, [], ◌∷◌, ◌++◌, length-set, set, map, Vec, Global, refl, sym, ap, subst, arith}
use Rattle.drm_entity.specs.declared.entities.Links.{Links}
use Rattle.drm_entity.proofs.entities.Entities.push.Goals.{then-links-eq0, else-links-eq0}
use Rattle.drm_entity.proofs.Seen.{link_at, last_fits, fresh_nowhere}
use Rattle.drm_entity.proofs.Room.{queue_fits}
use Rattle.drm_entity.proofs.Changed.{alike_shown, alike_linked, linked_pushed, pushed_first, pushed_more, others_kept, changed_is}
use Rattle.drm_entity.specs.Rows.{EntityRow, EntityRows, pushed}
use Rattle.drm_entity.specs.Linked.{IsLinked, row_of}
use Rattle.std.specs.Prelude.{vec_capacity}
use Rattle.std.specs.Vec.{with_item}
use Rattle.drm_entity.proofs.entities.Entities.push.Goals as goal

-- the row with one number more at its end
abbrev longer : Links → ℕ → Links
longer l number = record l { last = number; len = l.len + 1 }

pub index_mut-requires : goal.index_mut-requires
index_mut-requires c =
    let at = link_at _ _ _ _ _ _ c.self.view_is c.requires.entity c.index_mut-links.ensures.value in
    let linked = alike_linked _ _ _ c.self.invariant.0 c.add_links.ensures.links c.add_links.ensures.longer in
    let fits = last_fits _ _ _ _ linked at c.if-links-eq0.false in omega (arith, fits)

pub overflow_add-links : goal.overflow_add-links
overflow_add-links c =
    let at = link_at _ _ _ _ _ _ c.self.view_is c.requires.entity c.index_mut-links.ensures.value in
    let linked = alike_linked _ _ _ c.self.invariant.0 c.add_links.ensures.links c.add_links.ensures.longer in
    let view = alike_shown _ _ _ c.add_links.new.next.items _ _ c.self.view_is c.add_links.ensures.links c.add_links.ensures.room in
    let room = queue_fits _ _ _ c.args.number _ linked at c.add_links.ensures.there (fresh_nowhere _ _ _ _ _ view c.requires.fresh) in
    elim c.if-links-eq0.branch [
      | then-links-eq0 w ↦ let len = ap (λ (l : Links). l.len) w.links-is in omega (arith, room, len)
      | else-links-eq0 w ↦ let len = ap (λ (l : Links). l.len) w.links-is in omega (arith, room, len)
    ]

pub invariant_of-self : goal.invariant_of-self
invariant_of-self c =
    let number = c.args.number in
    let next = c.add_links.new.next.items in
    let links = c.self.inside.links.items in
    let l = c.index_mut-links.result.now in
    let at = link_at _ _ _ _ _ _ c.self.view_is c.requires.entity c.index_mut-links.ensures.value in
    let linked = alike_linked _ _ _ c.self.invariant.0 c.add_links.ensures.links c.add_links.ensures.longer in
    let view = alike_shown _ _ _ next _ _ c.self.view_is c.add_links.ensures.links c.add_links.ensures.room in
    let fits = c.add_links.ensures.there in
    let room : vec_capacity c.add_links.new.next < 2 ^ 32 = omega (arith, c.self.invariant.1, c.add_links.ensures.room) in
    let fresh = fresh_nowhere _ _ _ _ _ view c.requires.fresh in
    elim c.if-links-eq0.branch [
      | then-links-eq0 w ↦
          let new = longer (record l { first = number }) number in
          subst (λ n. IsLinked n.items (set links c.args.entity (longer c.if-links-eq0.links number)) × (vec_capacity n < 2 ^ 32))
          (sym (ap (λ t. t.1.1.0) w.self-inside-is)) (
            subst (λ k. IsLinked next (set links c.args.entity (longer k number))) (sym w.links-is)
                (linked_pushed _ _ _ _ number _ new linked at refl fits fresh (pushed_first next l new number w.if-links-eq0.true refl (omega (arith, w.if-links-eq0.true)))
                refl (omega arith) (λ f m away at_f. refl)),
            room,
          )
      | else-links-eq0 w ↦
          subst (λ n. IsLinked n.items (set links c.args.entity (longer c.if-links-eq0.links number)) × (vec_capacity n < 2 ^ 32))
          (sym (ap (λ t. t.1.1.0) w.self-inside-is)) (
            subst (λ k. IsLinked (set next l.last number) (set links c.args.entity (longer k number))) (sym w.links-is)
                (linked_pushed _ _ _ _ number _ (longer l number) linked at (length-set _ _ _) fits fresh
                (pushed_more _ _ _ number _ (longer l number) linked at w.if-links-eq0.false refl refl) refl (omega arith)
                (others_kept _ _ _ number _ linked at w.if-links-eq0.false)),
            room,
          )
    ]

pub returns : goal.returns
returns c =
    let number = c.args.number in
    let next = c.add_links.new.next.items in
    let links = c.self.inside.links.items in
    let l = c.index_mut-links.result.now in
    let at = link_at _ _ _ _ _ _ c.self.view_is c.requires.entity c.index_mut-links.ensures.value in
    let linked = alike_linked _ _ _ c.self.invariant.0 c.add_links.ensures.links c.add_links.ensures.longer in
    let view = alike_shown _ _ _ next _ _ c.self.view_is c.add_links.ensures.links c.add_links.ensures.room in
    let more = λ (r : EntityRow). record r { queue = r.queue ++ number ∷ [] } in
    let shows = λ (n : Vec ℕ Global) (k : Links). ◌≡◌ {A = EntityRows} (record { places = vec_capacity n; rows = map (row_of n.items) (set links c.args.entity (longer k number)) }) (pushed c.args.self.now c.args.entity number) in
    elim c.if-links-eq0.branch [
      | then-links-eq0 w ↦
          let new = longer (record l { first = number }) number in
          subst (λ n. shows n c.if-links-eq0.links) (sym (ap (λ t. t.1.1.0) w.self-inside-is))
          (subst (λ k. shows c.add_links.new.next k) (sym w.links-is)
          (changed_is _ _ _ _ _ c.args.entity _ new more view at (λ f m away at_f. refl)
          (ap (λ (q : List ℕ). record { queue = q; is_stopped = l.is_stopped; is_guilty = l.is_guilty })
          (pushed_first next l new number w.if-links-eq0.true refl (omega (arith, w.if-links-eq0.true))))))
      | else-links-eq0 w ↦
          subst (λ n. shows n c.if-links-eq0.links) (sym (ap (λ t. t.1.1.0) w.self-inside-is))
          (subst (λ k. shows (with_item c.add_links.new.next l.last number) k) (sym w.links-is)
          (changed_is _ _ _ _ _ c.args.entity _ (longer l number) more view at
          (λ f m away at_f. ap (λ (q : List ℕ). record { queue = q; is_stopped = m.is_stopped; is_guilty = m.is_guilty })
          (others_kept _ _ _ number _ linked at w.if-links-eq0.false f m away at_f))
          (ap (λ (q : List ℕ). record { queue = q; is_stopped = l.is_stopped; is_guilty = l.is_guilty })
          (pushed_more _ _ _ number _ (longer l number) linked at w.if-links-eq0.false refl refl))))
    ]
