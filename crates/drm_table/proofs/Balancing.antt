-- The ring of an entity's next job, by its last job and by the loads that are kept.
use Rattle.std.proofs.Common.{◌≡◌, ℕ, ◌<◌, ◌≤◌, Bool, true, false, not, ◌==◌, ◌+◌, drop, slice_index_or, List, length, map, Some, None, refl, sym, ap, subst, ◌∙◌, inl, inr, arith, slice_get}
use Rattle.std.specs.Prelude.{find, fold, option_map, nat_le, Contains}
use Rattle.std.proofs.lemmas.Option.{slice_get_within, slice_get-get_or}
use Rattle.std.proofs.lemmas.List.{length-map, drop_more}
use Rattle.std.proofs.lemmas.Bool.{both_ways, and_parts, and_from, cases_lt, eqb-true, eq-eqb, leb-true}
use Rattle.drm_lists.proofs.Searches.{find_first}
use Rattle.drm_lists.proofs.Places.{stands_within, contains_at, to_map}
use Rattle.drm_types.specs.declared.spec.DeviceSpec.{DeviceSpec}
use Rattle.drm_types.specs.Limits.{spec_fault, spec_tests, whole, is_between}
use Rattle.drm_types.proofs.Firsts.{none_at, none_when}
use Rattle.drm_fence.specs.Phases.{has_ended}
use Rattle.drm_state.specs.declared.journal.JobRecord.{JobRecord}
use Rattle.drm_table.specs.declared.table.Table.{Table}
use Rattle.drm_state.specs.Arming.{load, is_live, less_loaded, live_ring, rings_of}
use Rattle.drm_state.specs.Loads.{owner_of}
use Rattle.drm_table.specs.Tables.{state_of, IsWhole}
use Rattle.drm_table.proofs.ArmDone.{ring_of_entity_there}
use Rattle.drm_state.proofs.Homes.{one_ring, none_passes}
use Rattle.drm_state.proofs.LoadsKept.{load_is, few_live, few_ended}

-- the jobs of a device can be counted in 16 bits
few_jobs : (spec : DeviceSpec) → spec_fault spec ≡ None → spec.max_jobs ≤ 65535
few_jobs spec none =
    let count : is_between 1 65535 spec.max_jobs ≡ true =
    none_when (is_between 1 65535 spec.max_jobs) (record { part = 8; index = 0 })
    (none_at (spec_tests spec) 8 (whole 8 (is_between 1 65535 spec.max_jobs)) none refl) in
    leb-true spec.max_jobs 65535 (and_parts (nat_le 1 spec.max_jobs) (nat_le spec.max_jobs 65535) count).1

-- so can those that a ring has
pub little_load : (t : Table) (ring n : ℕ) → IsWhole t → slice_get t.loads.live.items ring ≡ Some n → n < 65536
little_load t ring n w at =
    let few = few_jobs t.spec w.limits in
    let live = few_live t.spec t.journal.items t.loads ring n w.loads at in
    let count = w.count in
    omega (arith, few, live, count)

-- and those that have outcomes
pub few_outcomes : (t : Table) → IsWhole t → t.loads.ended < 65536
few_outcomes t w =
    let few = few_jobs t.spec w.limits in
    let ended = few_ended t.spec t.journal.items t.loads w.loads in
    let count = w.count in
    omega (arith, few, ended, count)

-- a load that is kept is that of the journal
pub load_kept : (t : Table) (ring n : ℕ) → IsWhole t → slice_get t.loads.live.items ring ≡ Some n → n ≡ load t.journal.items ring
load_kept t ring n w at = w.loads.live ring n at ∙ sym (load_is t.journal.items ring)

-- a ring of the description has a load
pub load_there : (t : Table) (ring : ℕ) → IsWhole t → ring < length t.spec.rings → ring < length t.loads.live.items
load_there t ring w there = subst (λ n. ring < n) (sym w.loads.rings) there

-- and an entity a last job
pub last_there : (t : Table) (entity : ℕ) → IsWhole t → entity < length t.spec.entities → entity < length t.loads.last.items
last_there t entity w there = subst (λ n. entity < n) (sym w.loads.entities) there

-- an entity all of whose jobs have outcomes is on no ring
none_live : (journal : List JobRecord) (entity : ℕ)
    → ((i : ℕ) (x : JobRecord) → slice_get journal i ≡ Some x → x.job.entity ≡ entity → has_ended x.phase ≡ true) → live_ring journal entity ≡ None
none_live journal entity ended =
    elim (find (is_live entity) journal) as (λ o. find (is_live entity) journal ≡ o → option_map (λ (r : JobRecord). r.ring) o ≡ None) [
      | None ↦ λ none. refl
      | Some x ↦ λ some.
          let found = find_first (is_live entity) journal x some in
          let parts = and_parts (x.job.entity == entity) (not (has_ended x.phase)) found.2 in
          let never : not (has_ended x.phase) ≡ false = ap not (ended found.0 x found.1 (eqb-true x.job.entity entity parts.0)) in
          absurd (both_ways (not (has_ended x.phase)) never parts.1)
    ] refl

-- an entity with no job is on none
pub live_of_none : (t : Table) (entity : ℕ) → IsWhole t → slice_get t.loads.last.items entity ≡ Some None → live_ring t.journal.items entity ≡ None
live_of_none t entity w at =
    none_live t.journal.items entity (λ i x at_x of_it.
    absurd (w.loads.last entity None at i (to_map owner_of t.journal.items i x at_x ∙ ap (λ e. Some e) of_it)))

-- the last job of an entity is there
pub last_is : (t : Table) (entity n : ℕ) → IsWhole t → slice_get t.loads.last.items entity ≡ Some (Some n)
    → (r : JobRecord) × (slice_get t.journal.items n ≡ Some r) × (r.job.entity ≡ entity)
last_is t entity n w at =
    let there = (w.loads.last entity (Some n) at).0 in
    let within = subst (λ k. n < k) (length-map t.journal.items owner_of) (slice_get_within (map owner_of t.journal.items) n entity there) in
    let r = stands_within t.journal.items n within in
    let same : Some r.0.job.entity ≡ Some entity = sym (to_map owner_of t.journal.items n r.0 r.1) ∙ there in
    (r.0, r.1, cc (same))

-- where it has its outcome, they all have
pub live_of_ended : (t : Table) (entity n : ℕ) (r : JobRecord) → IsWhole t → slice_get t.loads.last.items entity ≡ Some (Some n) → slice_get t.journal.items n ≡ Some r
    → has_ended r.phase ≡ true → live_ring t.journal.items entity ≡ None
live_of_ended t entity n r w at at_r ended = none_live t.journal.items entity all
  where
    of_entity : r.job.entity ≡ entity
    of_entity =
        let last = last_is t entity n w at in
        let same : last.0 ≡ r = cc (last.1, at_r) in
        ap (λ (x : JobRecord). x.job.entity) (sym same) ∙ last.2

    all : (i : ℕ) (x : JobRecord) → slice_get t.journal.items i ≡ Some x → x.job.entity ≡ entity → has_ended x.phase ≡ true
    all i x at_x of_it =
        elim (cases_lt i n) [
          | inl before ↦ (w.steady.lawful.entities i n x r before at_x at_r).ended (of_it ∙ sym of_entity) ended
          | inr not_before ↦ elim (cases_lt n i) [
            | inl behind ↦ absurd ((w.loads.last entity (Some n) at).1 i behind (to_map owner_of t.journal.items i x at_x ∙ ap (λ e. Some e) of_it))
            | inr not_behind ↦
                let place : i ≡ n = omega (arith, not_before, not_behind) in
                let same : x ≡ r = cc (at_x, at_r, place) in
                ap (λ (z : JobRecord). has_ended z.phase) same ∙ ended
          ]
        ]

-- else they stand on its ring
pub live_of_last : (t : Table) (entity n : ℕ) (r : JobRecord) → IsWhole t → slice_get t.loads.last.items entity ≡ Some (Some n) → slice_get t.journal.items n ≡ Some r
    → has_ended r.phase ≡ false → live_ring t.journal.items entity ≡ Some r.ring
live_of_last t entity n r w at at_r going =
    elim (find (is_live entity) t.journal.items) as (λ o. find (is_live entity) t.journal.items ≡ o → option_map (λ (x : JobRecord). x.ring) o ≡ Some r.ring) [
      | None ↦ λ none. absurd (both_ways (is_live entity r) (none_passes (is_live entity) t.journal.items none n r at_r) live)
      | Some x ↦ λ some.
          let found = find_first (is_live entity) t.journal.items x some in
          let parts = and_parts (x.job.entity == entity) (not (has_ended x.phase)) found.2 in
          ap (λ k. Some k) (one_ring (state_of t) found.0 n x r w.steady found.1 at_r
          (eqb-true x.job.entity entity parts.0 ∙ sym of_entity) (not_true (has_ended x.phase) parts.1) going)
    ] refl
  where
    of_entity : r.job.entity ≡ entity
    of_entity =
        let last = last_is t entity n w at in
        let same : last.0 ≡ r = cc (last.1, at_r) in
        ap (λ (x : JobRecord). x.job.entity) (sym same) ∙ last.2

    live : is_live entity r ≡ true
    live = and_from (r.job.entity == entity) (not (has_ended r.phase)) (eq-eqb r.job.entity entity of_entity) (ap not going)

    not_true : (b : Bool) → not b ≡ true → b ≡ false
    not_true true is = sym is
    not_true false is = refl

-- the least loaded of a list, by one ring of it
pub least_step : (journal : List JobRecord) (best : ℕ) (rings : List ℕ) (k : ℕ) → k < length rings
    → fold (less_loaded journal) best (drop k rings) ≡ fold (less_loaded journal) (less_loaded journal best (slice_index_or rings k 0)) (drop (k + 1) rings)
least_step journal best rings k lt = ap (fold (less_loaded journal) best) (drop_more rings k 0 lt)

-- each ring of an entity's list is there
pub listed_at : (t : Table) (entity k : ℕ) (rings : List ℕ) → IsWhole t → entity < length t.spec.entities → rings ≡ rings_of t.spec entity → k < length rings
    → slice_index_or rings k 0 < length t.spec.rings
listed_at t entity k rings w there is lt =
    ring_of_entity_there t entity (slice_index_or rings k 0) w there (inr (subst (λ xs. Contains xs (slice_index_or rings k 0)) is (contains_at rings k (slice_index_or rings k 0) (slice_get-get_or rings k 0 lt))))
