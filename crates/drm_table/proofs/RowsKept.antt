-- The rows of rings go on to stand.
use Rattle.std.proofs.Common.{◌≡◌, ℕ, Bool, true, false, not, List, set, length, Some, sym, ap, subst, ◌∙◌, inl, inr, arith, slice_get, refl, [], ◌+◌, ◌-◌, ◌<◌, ◌≤◌, ◌++◌, ◌∷◌, min, get_or}
use Rattle.std.specs.Option.{option_map_or}
use Rattle.std.proofs.lemmas.Bool.{cases_eq, ltb-false}
use Rattle.std.proofs.lemmas.Option.{slice_get_within}
use Rattle.std.proofs.lemmas.List.{length-map}
use Rattle.drm_fence.specs.declared.phase.Phase.TheVariants.{Scheduled}
use Rattle.drm_state.specs.declared.journal.JobRecord.{JobRecord}
use Rattle.drm_ring.specs.RingRows.{RingRow, pending_at, passed_at}
use Rattle.drm_table.specs.declared.table.Table.{Table}
use Rattle.drm_state.specs.State.{RingState, DeviceState}
use Rattle.drm_state.specs.Journal.{is_complete}
use Rattle.drm_state.specs.Ring.{pending_of, credits_of, credit_limit_of, free_credits}
use Rattle.drm_state.specs.Rows.{is_open, RowStands, RowsStand, passed_of, ring_state_of}
use Rattle.drm_table.specs.Tables.{state_of, IsWhole}
use Rattle.drm_table.proofs.TableFacts.{row_found}
use Rattle.drm_state.proofs.Records.{at_test}
use Rattle.drm_state.proofs.Passing.{passed_same}
use Rattle.std.specs.Prelude.{sum_by, nat_lt, IfSome}
use Rattle.std.proofs.lemmas.List.Sums.{sum_by-cons, sum_by_push}
use Rattle.drm_lists.proofs.Places.{at_index, contains_at, to_map}
use Rattle.drm_lists.proofs.Changed.{get_set_same, get_set_other, get_set_cases}
use Rattle.drm_ring.specs.Counted.{Counted, need_of, free_of, taken, given_back}
use Rattle.drm_types.specs.declared.spec.DeviceSpec.{DeviceSpec}
use Rattle.drm_types.specs.declared.spec.RingSpec.{RingSpec}
use Rattle.drm_job.specs.declared.Draft.{Draft}
use Rattle.drm_state.specs.Grows.{Grows}
use Rattle.drm_state.proofs.ArmLawful.{sum_by_agree_in}

-- what is open is as it was where one record changed that is as complete as it was
pub open_set : (js : List JobRecord) (f : ℕ) (r new : JobRecord) → slice_get js f ≡ Some r → is_complete new ≡ is_complete r → (g : ℕ) → is_open (set js f new) g ≡ is_open js g
open_set js f r new at same g =
    let test : JobRecord → Bool = λ r. not (is_complete r) in
    elim (cases_eq g f) [
      | inl g_is ↦
          subst (λ n. is_open (set js f new) n ≡ is_open js n) (sym g_is)
          (at_test (set js f new) f new test (get_set_same js f r new at) ∙ (ap not same ∙ sym (at_test js f r test at)))
      | inr apart ↦ ap (λ o. option_map_or test o false) (get_set_other js f g new apart)
    ]

-- a record that is complete stays so
pub done_set : (js : List JobRecord) (f : ℕ) (r new : JobRecord) → slice_get js f ≡ Some r → (is_complete r ≡ true → is_complete new ≡ true)
    → (g : ℕ) → is_open js g ≡ false → is_open (set js f new) g ≡ false
done_set js f r new at stays g done =
    let test : JobRecord → Bool = λ r. not (is_complete r) in
    elim (cases_eq g f) [
      | inl g_is ↦
          let was : not (is_complete r) ≡ false = sym (at_test js f r test at) ∙ subst (λ n. is_open js n ≡ false) g_is done in
          subst (λ n. is_open (set js f new) n ≡ false) (sym g_is)
          (at_test (set js f new) f new test (get_set_same js f r new at) ∙ ap not (stays (is_done (is_complete r) was)))
      | inr apart ↦ ap (λ o. option_map_or test o false) (get_set_other js f g new apart) ∙ done
    ]
  where
    is_done : (b : Bool) → not b ≡ false → b ≡ true
    is_done true is = refl
    is_done false is = absurd (let never : true ≡ false = is in cc (never))

-- what a ring has pending is scheduled there
pub row_job : (t : Table) (ring : ℕ) (row : RingRow) → IsWhole t → slice_get t.rings ring ≡ Some row → (k f : ℕ) → slice_get row.state.pending k ≡ Some f
    → (r : JobRecord) × (slice_get t.journal.items f ≡ Some r) × (r.phase ≡ Scheduled) × (r.ring ≡ ring)
row_job t ring row w at k f at_k =
    let count : length t.rings ≡ length t.spec.rings = sym (length-map t.rings ring_state_of) ∙ w.steady.lawful.ring_count in
    let within = slice_get_within t.rings ring row at in
    let pends : pending_of (state_of t) ring ≡ row.state.pending =
    ap (λ o. option_map_or (λ (r : RingState). r.pending) o []) (to_map ring_state_of t.rings ring row at) in
    ((w.steady.lawful.rings ring (omega (arith, within, count))).pending f).0
    (contains_at (pending_of (state_of t) ring) k f (subst (λ ns. slice_get ns k ≡ Some f) (sym pends) at_k))

-- how many a ring has passed over where none of its jobs changed
pub passed_alike : (t : Table) (ring : ℕ) (row : RingRow) (js : List JobRecord) → IsWhole t → slice_get t.rings ring ≡ Some row
    → ((f : ℕ) (r : JobRecord) → slice_get t.journal.items f ≡ Some r → r.phase ≡ Scheduled → r.ring ≡ ring → is_open js f ≡ is_open t.journal.items f)
    → row.passed ≡ passed_of (is_open js) row.state.pending
passed_alike t ring row js w at alike =
    (w.rows ring row at).passed ∙ passed_same (is_open t.journal.items) (is_open js) row.state.pending (λ k f at_k.
    let r = row_job t ring row w at k f at_k in sym (alike f r.0 r.1 r.2 r.3))

-- a job counts with the same credits while the device grows
pub credits_grown : (o d : DeviceState) (ring f : ℕ) (r : JobRecord) → Grows o d → slice_get o.journal f ≡ Some r → credits_of d ring f ≡ credits_of o ring f
credits_grown o d ring f r grows at =
    let new = grows.journal f r at in
    ap (λ x. option_map_or (λ (z : JobRecord). min z.job.credits (credit_limit_of d ring)) x 0) new.1
    ∙ (ap (λ (j : Draft). min j.credits (credit_limit_of d ring)) new.2.job
    ∙ (ap (λ (s : DeviceSpec). min r.job.credits (option_map_or (λ (l : RingSpec). l.credit_limit) (slice_get s.rings ring) 0)) grows.spec
    ∙ sym (ap (λ x. option_map_or (λ (z : JobRecord). min z.job.credits (credit_limit_of o ring)) x 0) at)))

limit_grown : (o d : DeviceState) (ring : ℕ) → Grows o d → credit_limit_of d ring ≡ credit_limit_of o ring
limit_grown o d ring grows = ap (λ (s : DeviceSpec). option_map_or (λ (l : RingSpec). l.credit_limit) (slice_get s.rings ring) 0) grows.spec

-- so do all that a ring has pending
pub sums_grown : (t : Table) (ring : ℕ) (row : RingRow) (d : DeviceState) → IsWhole t → slice_get t.rings ring ≡ Some row → Grows (state_of t) d
    → sum_by (credits_of d ring) row.state.pending ≡ sum_by (credits_of (state_of t) ring) row.state.pending
sums_grown t ring row d w at grows =
    sum_by_agree_in (credits_of d ring) (credits_of (state_of t) ring) row.state.pending 0 (λ k f at_k.
    let r = row_job t ring row w at k f at_k in credits_grown (state_of t) d ring f r.0 grows r.1)

-- the credits of a ring of which no job came or left
pub credits_alike : (t : Table) (ring : ℕ) (row : RingRow) (d : DeviceState) → IsWhole t → slice_get t.rings ring ≡ Some row → Grows (state_of t) d
    → row.credits ≡ record { limit = credit_limit_of d ring; count = sum_by (credits_of d ring) row.state.pending }
credits_alike t ring row d w at grows =
    (w.rows ring row at).credits
    ∙ (ap (λ n. let c : Counted = record { limit = n; count = sum_by (credits_of (state_of t) ring) row.state.pending } in c) (sym (limit_grown (state_of t) d ring grows))
    ∙ ap (λ n. let c : Counted = record { limit = credit_limit_of d ring; count = n } in c) (sym (sums_grown t ring row d w at grows)))

-- what a job needs of a ring, and what is free there
pub need_is : (t : Table) (ring f : ℕ) (r : JobRecord) (row : RingRow) → IsWhole t → slice_get t.rings ring ≡ Some row → slice_get t.journal.items f ≡ Some r
    → need_of row.credits r.job.credits ≡ credits_of (state_of t) ring f
need_is t ring f r row w at at_f =
    ap (λ (c : Counted). min r.job.credits c.limit) (w.rows ring row at).credits
    ∙ sym (ap (λ x. option_map_or (λ (z : JobRecord). min z.job.credits (credit_limit_of (state_of t) ring)) x 0) at_f)

pub free_is : (t : Table) (ring : ℕ) (row : RingRow) → IsWhole t → slice_get t.rings ring ≡ Some row → free_of row.credits ≡ free_credits (state_of t) ring
free_is t ring row w at =
    ap free_of (w.rows ring row at).credits
    ∙ ap (λ ns. credit_limit_of (state_of t) ring - sum_by (credits_of (state_of t) ring) ns)
    (sym (ap (λ o. option_map_or (λ (r : RingState). r.pending) o []) (to_map ring_state_of t.rings ring row at)))

-- the credits with one job more
pub credits_put : (t : Table) (ring f : ℕ) (r : JobRecord) (row new : RingRow) (d : DeviceState) → IsWhole t → slice_get t.rings ring ≡ Some row → slice_get t.journal.items f ≡ Some r
    → Grows (state_of t) d → new.state.pending ≡ row.state.pending ++ f ∷ []
    → new.credits ≡ taken r.job.credits row.credits
    → new.credits ≡ record { limit = credit_limit_of d ring; count = sum_by (credits_of d ring) new.state.pending }
credits_put t ring f r row new d w at at_f grows pending more =
    let old = credits_alike t ring row d w at grows in
    let need : need_of row.credits r.job.credits ≡ credits_of d ring f = need_is t ring f r row w at at_f ∙ sym (credits_grown (state_of t) d ring f r grows at_f) in
    let count : row.credits.count + need_of row.credits r.job.credits ≡ sum_by (credits_of d ring) new.state.pending =
    ap (λ n. row.credits.count + n) need ∙ (ap (λ (c : Counted). c.count + credits_of d ring f) old
    ∙ (sym (sum_by_push (credits_of d ring) row.state.pending f) ∙ ap (sum_by (credits_of d ring)) (sym pending))) in
    more
    ∙ (ap (λ n. let c : Counted = record { limit = row.credits.limit; count = n } in c) count
    ∙ ap (λ (z : Counted). let c : Counted = record { limit = z.limit; count = sum_by (credits_of d ring) new.state.pending } in c) old)

-- and with the first one less, which counted at most what all did
pub credits_popped : (t : Table) (ring f : ℕ) (rest : List ℕ) (r : JobRecord) (row new : RingRow) (d : DeviceState) → IsWhole t → slice_get t.rings ring ≡ Some row → slice_get t.journal.items f ≡ Some r
    → Grows (state_of t) d → row.state.pending ≡ f ∷ rest → new.state.pending ≡ rest
    → new.credits ≡ given_back r.job.credits row.credits
    → new.credits ≡ record { limit = credit_limit_of d ring; count = sum_by (credits_of d ring) new.state.pending }
credits_popped t ring f rest r row new d w at at_f grows was pending less =
    let old = credits_alike t ring row d w at grows in
    let need : need_of row.credits r.job.credits ≡ credits_of d ring f = need_is t ring f r row w at at_f ∙ sym (credits_grown (state_of t) d ring f r grows at_f) in
    let cons = sum_by-cons (credits_of d ring) f rest in
    let all : row.credits.count ≡ sum_by (credits_of d ring) (f ∷ rest) = ap (λ (c : Counted). c.count) old ∙ ap (sum_by (credits_of d ring)) was in
    let left : row.credits.count - need_of row.credits r.job.credits ≡ sum_by (credits_of d ring) rest = omega (arith, need, cons, all) in
    less
    ∙ (ap (λ n. let c : Counted = record { limit = row.credits.limit; count = n } in c) (left ∙ ap (sum_by (credits_of d ring)) (sym pending))
    ∙ ap (λ (z : Counted). let c : Counted = record { limit = z.limit; count = sum_by (credits_of d ring) new.state.pending } in c) old)

pub need_counted : (t : Table) (ring f : ℕ) (rest : List ℕ) (r : JobRecord) (row : RingRow) → IsWhole t → slice_get t.rings ring ≡ Some row → slice_get t.journal.items f ≡ Some r
    → row.state.pending ≡ f ∷ rest → need_of row.credits r.job.credits ≤ row.credits.count
need_counted t ring f rest r row w at at_f was =
    let need = need_is t ring f r row w at at_f in
    let cons = sum_by-cons (credits_of (state_of t) ring) f rest in
    let all : row.credits.count ≡ sum_by (credits_of (state_of t) ring) (f ∷ rest) =
    ap (λ (c : Counted). c.count) (w.rows ring row at).credits ∙ ap (sum_by (credits_of (state_of t) ring)) was in
    omega (arith, need, cons, all)

-- the row of a ring of which no job changed
pub row_alike : (t : Table) (ring : ℕ) (row : RingRow) (d : DeviceState) → IsWhole t → Grows (state_of t) d → slice_get t.rings ring ≡ Some row
    → ((f : ℕ) (r : JobRecord) → slice_get t.journal.items f ≡ Some r → r.phase ≡ Scheduled → r.ring ≡ ring → is_open d.journal f ≡ is_open t.journal.items f)
    → RowStands d ring row
row_alike t ring row d w grows at alike = record { passed = passed_alike t ring row d.journal w at alike; credits = credits_alike t ring row d w at grows }

-- all rows, where none changed
pub rows_same : (t : Table) (rows : List RingRow) (d : DeviceState) → IsWhole t → Grows (state_of t) d → rows ≡ t.rings
    → ((f : ℕ) (r : JobRecord) → slice_get t.journal.items f ≡ Some r → r.phase ≡ Scheduled → is_open d.journal f ≡ is_open t.journal.items f)
    → RowsStand d rows
rows_same t rows d w grows same alike ring row at =
    row_alike t ring row d w grows (ap (λ rs. slice_get rs ring) (sym same) ∙ at) (λ f r at_f scheduled on_ring. alike f r at_f scheduled)

-- and where one did
pub rows_changed : (t : Table) (ring : ℕ) (row new : RingRow) (rows : List RingRow) (d : DeviceState) → IsWhole t → Grows (state_of t) d → slice_get t.rings ring ≡ Some row
    → rows ≡ set t.rings ring new → RowStands d ring new
    → ((f : ℕ) (r : JobRecord) → slice_get t.journal.items f ≡ Some r → r.phase ≡ Scheduled → (r.ring ≡ ring → ⊥) → is_open d.journal f ≡ is_open t.journal.items f)
    → RowsStand d rows
rows_changed t ring row new rows d w grows at rows_is stands alike k x at_k =
    elim (get_set_cases t.rings ring k row new x at (ap (λ rs. slice_get rs k) (sym rows_is) ∙ at_k)) [
      | inl here ↦ subst (λ n. RowStands d n x) (sym here.0) (subst (RowStands d ring) (sym here.1) stands)
      | inr there ↦
          row_alike t k x d w grows there.1 (λ f r at_f scheduled on_ring. alike f r at_f scheduled (λ is. there.0 (sym on_ring ∙ is)))
    ]

-- the credits that a ring has left, as its list tells them
pub free_told : (t : Table) (ring : ℕ) (credits : Counted) → IsWhole t → ring < length t.spec.rings → IfSome (slice_get t.rings ring) (λ (r : RingRow). credits ≡ r.credits)
    → free_of credits ≡ free_credits (state_of t) ring
free_told t ring credits w there lent =
    let row = row_found t ring w there in
    let here : credits ≡ row.0.credits = subst (λ o. IfSome o (λ (r : RingRow). credits ≡ r.credits)) row.1 lent in
    ap free_of here ∙ free_is t ring row.0 w row.1

-- a ring that may pass over what it is done with
pub passes_at_row : (rings : List RingRow) (ring : ℕ) (row : RingRow) (test : ℕ → Bool) → slice_get rings ring ≡ Some row → row.passed ≤ passed_of test row.state.pending
    → passed_at rings ring ≤ passed_of test (pending_at rings ring)
passes_at_row rings ring row test at passes =
    subst (λ o. option_map_or (λ (r : RingRow). r.passed) o 0 ≤ passed_of test (option_map_or (λ (r : RingRow). r.state.pending) o [])) (sym at) passes

-- the credits of the job that an index finds
pub credits_told : (js : List JobRecord) (f n : ℕ) (r x : JobRecord) → slice_get js f ≡ Some r → x ≡ get_or js f x → n ≡ x.job.credits → n ≡ r.job.credits
credits_told js f n r x at x_is told =
    let here = at_index js f x x_is (slice_get_within js f r at) in
    let same : x ≡ r = cc (here, at) in
    told ∙ ap (λ (z : JobRecord). z.job.credits) same

-- a job that fits
pub need_fits : (t : Table) (ring f n : ℕ) (r : JobRecord) (row : RingRow) → IsWhole t → slice_get t.rings ring ≡ Some row → slice_get t.journal.items f ≡ Some r
    → n ≡ r.job.credits → nat_lt (free_credits (state_of t) ring) (credits_of (state_of t) ring f) ≡ false → need_of row.credits n ≤ free_of row.credits
need_fits t ring f n r row w at at_f told fits =
    let le = ltb-false (free_credits (state_of t) ring) (credits_of (state_of t) ring f) fits in
    let need = ap (need_of row.credits) told ∙ need_is t ring f r row w at at_f in
    let free = free_is t ring row w at in
    omega (arith, le, need, free)

-- what the job needs, as the ring's list tells it
pub need_told : (t : Table) (ring f n : ℕ) (r : JobRecord) (credits : Counted) → IsWhole t → ring < length t.spec.rings → slice_get t.journal.items f ≡ Some r
    → IfSome (slice_get t.rings ring) (λ (z : RingRow). credits ≡ z.credits) → n ≡ r.job.credits → need_of credits n ≡ credits_of (state_of t) ring f
need_told t ring f n r credits w there at lent told =
    let row = row_found t ring w there in
    let here : credits ≡ row.0.credits = subst (λ o. IfSome o (λ (z : RingRow). credits ≡ z.credits)) row.1 lent in
    ap (λ (z : Counted). need_of z n) here ∙ (ap (need_of row.0.credits) told ∙ need_is t ring f r row.0 w row.1 at)
