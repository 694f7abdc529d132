use Rattle.std.proofs.Common.{◌≡◌, ℕ, List, map, false, replicate, length, ap, ◌∙◌, rules}
use Rattle.std.specs.Prelude.{vec_capacity}
use Rattle.drm_entity.specs.declared.entities.Links.{Links}
use Rattle.drm_entity.specs.Rows.{EntityRow, EntityRows}
use Rattle.drm_entity.specs.Linked.{row_of}
use Rattle.drm_entity.proofs.Seen.{rows_idle}
use Rattle.drm_entity.proofs.entities.Entities.new.Goals as goal

pub returns : goal.returns
returns c =
    let idle : Links = record { first = 0; last = 0; len = 0; is_stopped = false; is_guilty = false } in
    let room : vec_capacity c.in_ok-with_capacity.field-0 ≡ c.args.spec.now.max_jobs = search rules in
    let links : c.in_ok-vec.field-0.items ≡ replicate (length c.args.spec.now.entities) idle = search rules in
    shown _ c.in_ok-with_capacity.field-0.items c.in_ok-vec.field-0.items c.args.spec.now.max_jobs (length c.args.spec.now.entities) idle room links
  where
    shown : (room : ℕ) (next : List ℕ) (links : List Links) (places n : ℕ) (idle : Links) → room ≡ places → links ≡ replicate n idle
        → ◌≡◌ {A = EntityRows} (record { places = room; rows = map (row_of next) links }) (record { places = places; rows = replicate n (row_of next idle) })
    shown room next links places n idle room_is links_is =
        ap (λ k. record { places = k; rows = map (row_of next) links }) room_is
        ∙ ap (λ (l : List EntityRow). record { places = places; rows = l }) (ap (map (row_of next)) links_is ∙ rows_idle next idle n)
