use Rattle.std.proofs.Common.{◌∙◌, ◌≤◌, ◌++◌, ◌∷◌, [], ap, arith, length, subst, sym}
use Rattle.drm_resv.specs.Latest.{IsPerEntity}
use Rattle.drm_resv.specs.Stored.{ListsWithPlaces}
use Rattle.drm_resv.proofs.EndsAre.{fits_one_more, put_last}
use Rattle.drm_resv.proofs.stored.StoredDeps.push.Goals as goal

pub append-requires : goal.append-requires
append-requires c =
    let old = c.self.inside in
    let few : length c.entries.result.now ≤ 64 = subst (λ list. length list ≤ 64) (sym c.entries.ensures.list) c.entries.ensures.within in
    let fits = fits_one_more old.fences.items c.entries.result.now old.ends.items _ _ _ c.self.invariant.0 c.self.invariant.1 c.self.view_is c.requires few in
    omega (arith, fits.1, old.fences.ok.0)

pub overflow_cast-len : goal.overflow_cast-len
overflow_cast-len c =
    let old = c.self.inside in
    let new = c.append.new.fences in
    let few : length c.entries.result.now ≤ 64 = subst (λ list. length list ≤ 64) (sym c.entries.ensures.list) c.entries.ensures.within in
    let fits = fits_one_more old.fences.items c.entries.result.now old.ends.items _ _ _ c.self.invariant.0 c.self.invariant.1 c.self.view_is c.requires few in
    omega (arith, fits.2, c.len.ensures, new.ok.0, ap length c.append.ensures.items)

pub push_reserved-requires : goal.push_reserved-requires
push_reserved-requires c =
    let old = c.self.inside in
    let fits = fits_one_more old.fences.items [] old.ends.items _ _ _ c.self.invariant.0 c.self.invariant.1 c.self.view_is c.requires (omega arith) in
    omega (arith, fits.0, old.ends.ok.0)

pub invariant_of-self : goal.invariant_of-self
invariant_of-self c =
    let old = c.self.inside in
    let new = c.append.new.fences in
    let listed = c.entries.ensures.list in
    let put = put_last old.fences.items new.items c.entries.result.now old.ends.items c.push_reserved.new.self.items c.len.result c.self.invariant.0
    (subst IsPerEntity (sym listed) c.entries.ensures.once) (subst (λ list. length list ≤ 64) (sym listed) c.entries.ensures.within) c.append.ensures.items (c.len.ensures ∙ new.ok.0) c.push_reserved.ensures.items in
    let room = c.append.ensures.room in
    let places = c.push_reserved.ensures.capacity in
    let fits = c.self.invariant.1 in
    (put.0, record { room = omega (arith, room, places, fits.room); counted = omega (arith, places, fits.counted) })

pub returns-clause-lists : goal.returns-clause-lists
returns-clause-lists c =
    let old = c.self.inside in
    let new = c.append.new.fences in
    let listed = c.entries.ensures.list in
    let put = put_last old.fences.items new.items c.entries.result.now old.ends.items c.push_reserved.new.self.items c.len.result c.self.invariant.0
    (subst IsPerEntity (sym listed) c.entries.ensures.once) (subst (λ list. length list ≤ 64) (sym listed) c.entries.ensures.within) c.append.ensures.items (c.len.ensures ∙ new.ok.0) c.push_reserved.ensures.items in
    put.1 ∙ (ap (λ (v : ListsWithPlaces). v.lists ++ c.entries.result.now ∷ []) c.self.view_is ∙ ap (λ deps. c.args.self.now.lists ++ deps ∷ []) listed)
