-- The numbers that are queued, after one more or before any.
use Rattle.std.proofs.Common.{◌≡◌, ℕ, zero, suc, ◌+◌, ◌<◌, List, [], ◌∷◌, ◌++◌, set, replicate, Option, Some, None, false, refl, sym, ap, subst, ◌∙◌, inl, inr, arith, slice_get}
use Rattle.std.specs.Prelude.{Contains}
use Rattle.std.specs.Option.{option_map_or}
use Rattle.std.proofs.lemmas.Bool.{cases_eq}
use Rattle.std.proofs.lemmas.List.Elements.{Contains-push_cases}
use Rattle.drm_lists.proofs.Changed.{get_set_same, get_set_other}
use Rattle.drm_entity.specs.Rows.{EntityRow, EntityRows, queue_at, pushed}
use Rattle.drm_bench.specs.Queued.{AllBelow}

pub below_more : (e : EntityRows) (limit : ℕ) → AllBelow e limit → AllBelow e (limit + 1)
below_more e limit below entity number in_queue = omega (arith, below entity number in_queue)

pub below_pushed : (e : EntityRows) (entity limit : ℕ) → AllBelow e limit → AllBelow (pushed e entity limit) (limit + 1)
below_pushed e entity limit below other number in_queue =
    by_row (slice_get e.rows entity) refl in_queue
  where
    rows_with : Option EntityRow → List EntityRow
    rows_with o = option_map_or (λ r. set e.rows entity (record r { queue = r.queue ++ limit ∷ [] })) o e.rows

    queue_in : List EntityRow → List ℕ
    queue_in rows = option_map_or (λ r. r.queue) (slice_get rows other) []

    in_row : (r : EntityRow) → slice_get e.rows entity ≡ Some r → Contains (queue_in (set e.rows entity (record r { queue = r.queue ++ limit ∷ [] }))) number → number < limit + 1
    in_row r at there =
        elim (cases_eq other entity) [
          | inl same ↦
              let row : EntityRow = record r { queue = r.queue ++ limit ∷ [] } in
              let here : slice_get (set e.rows entity row) other ≡ Some row = ap (slice_get (set e.rows entity row)) same ∙ get_set_same e.rows entity r row at in
              let new : Contains (r.queue ++ limit ∷ []) number = subst (λ (o : Option EntityRow). Contains (option_map_or (λ q. q.queue) o []) number) here there in
              elim (Contains-push_cases r.queue limit number new) [
                | inl old ↦
                    let in_old : Contains (queue_at e entity) number = subst (λ (o : Option EntityRow). Contains (option_map_or (λ q. q.queue) o []) number) (sym at) old in
                    omega (arith, below entity number in_old)
                | inr last ↦ omega (arith, last)
              ]
          | inr apart ↦
              let old : Contains (queue_at e other) number =
              subst (λ (o : Option EntityRow). Contains (option_map_or (λ q. q.queue) o []) number) (get_set_other e.rows entity other (record r { queue = r.queue ++ limit ∷ [] }) apart) there in
              omega (arith, below other number old)
        ]

    by_row : (o : Option EntityRow) → slice_get e.rows entity ≡ o → Contains (queue_at (pushed e entity limit) other) number → number < limit + 1
    by_row None at there =
        let old : Contains (queue_at e other) number = subst (λ o. Contains (queue_in (rows_with o)) number) at there in omega (arith, below other number old)
    by_row (Some r) at there = in_row r at (subst (λ o. Contains (queue_in (rows_with o)) number) at there)

idle_queue : (n e : ℕ) (r : EntityRow) → r.queue ≡ [] → option_map_or (λ (q : EntityRow). q.queue) (slice_get (replicate n r) e) [] ≡ []
idle_queue zero e r idle = refl
idle_queue (suc n) zero r idle = idle
idle_queue (suc n) (suc e) r idle = idle_queue n e r idle
