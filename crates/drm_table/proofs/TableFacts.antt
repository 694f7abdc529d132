-- What is known of the jobs in a device's tables, and how the tables stay whole when they change.
use Rattle.std.proofs.Common.{◌≡◌, ℕ, zero, suc, ◌<◌, ◌≤◌, Bool, true, false, not, ◌||◌, List, [], ◌∷◌, length, get_or, set, map, Some, refl, sym, ap, subst, ◌∙◌, arith, set-set, slice_get}
use Rattle.std.specs.Prelude.{IsTrue, nat_le, nat_lt, vec_capacity, vec_len, Contains, Vec}
use Rattle.std.specs.Option.{option_map_or}
use Rattle.std.proofs.lemmas.Bool.{leb-false, ltb-false, ltb-true}
use Rattle.std.proofs.lemmas.Option.{slice_get_within, slice_get-get_or}
use Rattle.std.proofs.lemmas.List.{map-set, length-map}
use Rattle.std.proofs.lemmas.List.Elements.{All-contains, All-weaker}
use Rattle.drm_lists.proofs.Places.{stands_within, at_index, contains_at, to_map}
use Rattle.drm_lists.proofs.Changed.{get_set_same}
use Rattle.drm_types.specs.declared.spec.DeviceSpec.{DeviceSpec}
use Rattle.drm_types.specs.Firsts.{when}
use Rattle.drm_types.specs.Limits.{spec_fault}
use Rattle.drm_buffer.specs.Memory.{sizes_of}
use Rattle.drm_packet.specs.declared.Packet.{Packet}
use Rattle.drm_packet.specs.Touches.{is_in_range}
use Rattle.drm_job.specs.declared.Draft.{Draft}
use Rattle.drm_job.specs.declared.DraftList.TheVariants.{Packets}
use Rattle.drm_job.specs.declared.JobFault.TheVariants.{NoEntity, TooMany}
use Rattle.drm_job.specs.Fault.{job_tests, IsJob}
use Rattle.drm_types.proofs.Firsts.{none_at, none_when, false_where}
use Rattle.drm_job.proofs.InRange.{runs_in}
use Rattle.drm_fence.specs.declared.phase.Phase.{Phase}
use Rattle.drm_fence.specs.declared.phase.Phase.TheVariants.{Queued, Scheduled, Ended}
use Rattle.drm_fence.specs.Phases.{has_ended}
use Rattle.drm_state.specs.declared.journal.JobRecord.{JobRecord}
use Rattle.drm_table.specs.declared.table.Table.{Table}
use Rattle.drm_ring.specs.RingRows.{RingRow, pending_at, ring_row_changed}
use Rattle.drm_state.specs.State.{RingState, DeviceState}
use Rattle.drm_state.specs.Ring.{current_of, pending_of, ring_changed}
use Rattle.drm_state.specs.Grows.{Grows, RecordGrows, GoesOn, EachInPlace}
use Rattle.drm_state.specs.Order.{comes_after}
use Rattle.drm_state.specs.Waits.{DepsStand, IsDependency}
use Rattle.drm_table.specs.Plain.{marks_of, WaitsStand, QueuesStand}
use Rattle.drm_state.specs.Loads.{LoadsOf}
use Rattle.drm_state.specs.Rows.{RowsStand, ring_state_of}
use Rattle.drm_state.specs.Records.{fence_state_of}
use Rattle.drm_table.specs.Tables.{state_of, IsWhole, HasRooms}
use Rattle.drm_state.proofs.RingChange.{ring_changed_is}
use Rattle.drm_state.proofs.RanLawful.{IsCurrent, current_is}
use Rattle.drm_state.specs.Events.{IsKept}

-- neither part of a choice that fails holds
pub neither : (a b : Bool) → (a || b) ≡ false → (a ≡ false) × (b ≡ false)
neither true b is = absurd (let never : true ≡ false = is in cc (never))
neither false b is = (refl, is)

-- a ring of the description has a row
pub row_there : (t : Table) (ring : ℕ) → IsWhole t → ring < length t.spec.rings → ring < length t.rings
row_there t ring w there =
    let count : length t.rings ≡ length t.spec.rings = sym (length-map t.rings ring_state_of) ∙ w.steady.lawful.ring_count in
    omega (arith, there, count)

-- so has an entity
pub entity_row_there : (t : Table) (entity : ℕ) → IsWhole t → entity < length t.spec.entities → entity < length t.entities.rows
entity_row_there t entity w there =
    let count : length t.entities.rows ≡ length t.spec.entities = sym (length-map t.entities.rows marks_of) ∙ w.steady.lawful.entity_count in
    omega (arith, there, count)

-- the job's entity is there
pub entity_there : (t : Table) (f : ℕ) (r : JobRecord) → IsWhole t → slice_get t.journal.items f ≡ Some r → r.job.entity < length t.entities.rows
entity_there t f r w at =
    let job : IsJob t.spec r.job = (w.steady.lawful.records f r at).job in
    let within = none_when (nat_lt r.job.entity (length t.spec.entities)) NoEntity
    (none_at (job_tests t.spec r.job) 0 (when (not (nat_lt r.job.entity (length t.spec.entities))) NoEntity) job refl) in
    entity_row_there t r.job.entity w (ltb-true r.job.entity (length t.spec.entities) within)

-- a job has at most 64 packets
pub few_packets : (spec : DeviceSpec) (job : Draft) → IsJob spec job → length job.packets ≤ 64
few_packets spec job is =
    ltb-false 64 (length job.packets) (false_where (nat_lt 64 (length job.packets)) (TooMany Packets)
    (none_at (job_tests spec job) 4 (when (nat_lt 64 (length job.packets)) (TooMany Packets)) is refl))

-- what is known of the job that a step runs
pub record IsRunning (t : Table) (ring f : ℕ) (r : JobRecord) : Type 0 where
  pub current : IsCurrent (state_of t) ring f r
  pub left : r.ran < length r.job.packets
  pub job : IsJob t.spec r.job
  pub fence : slice_get t.fences.list f ≡ Some (fence_state_of r)

-- the fence of a job that is there
pub fence_there : (t : Table) (f : ℕ) (r : JobRecord) → IsWhole t → slice_get t.journal.items f ≡ Some r → slice_get t.fences.list f ≡ Some (fence_state_of r)
fence_there t f r w at = ap (λ fs. slice_get fs f) w.fences ∙ to_map fence_state_of t.journal.items f r at

pub running_at : (t : Table) (ring f : ℕ) → IsWhole t → ring < length t.spec.rings → current_of (state_of t) ring ≡ Some f → (r : JobRecord) × IsRunning t ring f r
running_at t ring f w there is =
    let c = current_is (state_of t) ring f w.steady.lawful there is in (
      c.0,
      record {
        current = c.1;
        left = leb-false (length c.0.job.packets) c.0.ran (neither c.0.is_skipped (nat_le (length c.0.job.packets) c.0.ran) c.1.going).1;
        job = (w.steady.lawful.records f c.0 c.1.at).job;
        fence = fence_there t f c.0 w c.1.at;
      },
    )

-- an index finds that job
pub running_found : (t : Table) (ring f : ℕ) (y : JobRecord) → IsWhole t → ring < length t.spec.rings → current_of (state_of t) ring ≡ Some f
    → y ≡ get_or t.journal.items f y → IsRunning t ring f y
running_found t ring f y w there is y_is =
    let c = running_at t ring f w there is in
    let at = at_index t.journal.items f y y_is (slice_get_within t.journal.items f c.0 c.1.current.at) in
    let same : c.0 ≡ y = cc (at, c.1.current.at) in
    subst (IsRunning t ring f) same c.1

-- its next packet finds its ranges in the memory
pub next_in_range : (t : Table) (ring f : ℕ) (r : JobRecord) (p : Packet) → IsWhole t → IsRunning t ring f r → slice_get r.job.packets r.ran ≡ Some p → IsTrue (is_in_range p t.memory.bytes)
next_in_range t ring f r p w run at =
    All-contains (λ q. IsTrue (is_in_range q t.memory.bytes)) r.job.packets p (runs_in t.spec r.job t.memory.bytes run.job w.sizes) (contains_at r.job.packets r.ran p at)

-- what stands in the new journal stood in the old one
pub grew_from : (old new : List JobRecord) (i : ℕ) (x : JobRecord) → EachInPlace RecordGrows old new → length new ≡ length old → slice_get new i ≡ Some x
    → (o : JobRecord) × (slice_get old i ≡ Some o) × RecordGrows o x
grew_from old new i x grows count at =
    let lt : i < length old = subst (λ n. i < n) count (slice_get_within new i x at) in
    let at_old = slice_get-get_or old i x lt in
    let there = grows i (get_or old i x) at_old in
    let same : there.0 ≡ x = cc (there.1, at) in
    (get_or old i x, at_old, subst (RecordGrows (get_or old i x)) same there.2)

-- a phase that has not ended had not
pub had_not_ended : (old new : Phase) → GoesOn old new → has_ended new ≡ false → has_ended old ≡ false
had_not_ended Queued new goes is = refl
had_not_ended Scheduled new goes is = refl
had_not_ended (Ended o) new goes is = let never : true ≡ false = sym (ap has_ended goes) ∙ is in absurd (cc (never))

-- dependencies stand while the journal grows
pub stand_kept : (old new : List JobRecord) (j : ℕ) (job : Draft) (deps : List (ℕ × ℕ)) → DepsStand old j job deps → EachInPlace RecordGrows old new
    → length new ≡ length old → DepsStand new j job deps
stand_kept old new j job deps stand grows count = record {
  covers = λ i x lt at comes going.
      let o = grew_from old new i x grows count at in
      let cover = stand.covers i o.0 lt o.1 (subst (λ (z : Draft). comes_after job i z ≡ true) o.2.job comes) (had_not_ended o.0.phase x.phase o.2.phase going) in
      (cover.0, subst (λ (z : Draft). Contains deps (z.entity, cover.0)) (sym o.2.job) cover.1, cover.2);
  of_jobs = All-weaker (IsDependency old j job) (IsDependency new j job) (λ d is.
      let x = grows d.1 is.0 is.1 in
      (x.0, x.1, ap (λ (z : Draft). z.entity) x.2.job ∙ is.2, is.3, subst (λ (z : Draft). comes_after job d.1 z ≡ true) (sym x.2.job) is.4)) deps stand.of_jobs;
}

-- so do those of all jobs
pub waits_kept : (old new : DeviceState) (waits : List (List (ℕ × ℕ))) → WaitsStand old.journal waits → Grows old new → length new.journal ≡ length old.journal → WaitsStand new.journal waits
waits_kept old new waits stand grows count = record {
  count = stand.count ∙ sym count;
  stand = λ j r deps at going at_deps.
      let o = grew_from old.journal new.journal j r grows.journal count at in
      subst (λ (z : Draft). DepsStand new.journal j z deps) (sym o.2.job)
      (stand_kept old.journal new.journal j o.0.job deps (stand.stand j o.0 deps o.1 (had_not_ended o.0.phase r.phase o.2.phase going) at_deps) grows.journal count);
}

-- tables stay whole when their device is kept and their parts go on with it
pub whole_kept : (t u : Table) → IsWhole t → IsKept (state_of t) (state_of u) → u.fences.list ≡ map fence_state_of u.journal.items → u.waits.lists ≡ t.waits.lists
    → QueuesStand u.journal.items u.entities → LoadsOf u.spec u.journal.items u.loads → RowsStand (state_of u) u.rings → sizes_of u.memory.bytes ≡ sizes_of t.memory.bytes → HasRooms u → IsWhole u
whole_kept t u w kept fences waits queues loads rows sizes rooms =
    let spec : u.spec ≡ t.spec = kept.grows.spec in
    record {
      steady = kept.steady;
      limits = ap spec_fault spec ∙ w.limits;
      count = subst (λ n. n ≤ u.spec.max_jobs) (sym kept.count) (subst (λ (s : DeviceSpec). length t.journal.items ≤ s.max_jobs) (sym spec) w.count);
      fences = fences;
      waits = subst (λ ws. WaitsStand u.journal.items ws) (sym waits) (waits_kept (state_of t) (state_of u) t.waits.lists w.waits kept.grows kept.count);
      queues = queues;
      loads = loads;
      rows = rows;
      sizes = sizes ∙ (w.sizes ∙ ap (λ (s : DeviceSpec). sizes_of s.buffers) (sym spec));
      rooms = rooms;
    }

-- an index of a list that has something there is an index of its vector
pub vec_holds : {X Z : Type 0} (v : Vec X Z) (i : ℕ) (x : X) → slice_get v.items i ≡ Some x → i < vec_len v
vec_holds v i x at = subst (λ n. i < n) (sym v.ok.0) (slice_get_within v.items i x at)

-- the rows of which one changed
pub row_changed_is : (rows : List RingRow) (ring : ℕ) (row : RingRow) (change : RingRow → RingRow) → slice_get rows ring ≡ Some row
    → ring_row_changed rows ring change ≡ set rows ring (change row)
row_changed_is rows ring row change at = ap (λ o. option_map_or (λ (r : RingRow). set rows ring (change r)) o rows) at

-- what stands there then
pub row_after : (rows now : List RingRow) (ring : ℕ) (row : RingRow) (change : RingRow → RingRow) → slice_get rows ring ≡ Some row → now ≡ ring_row_changed rows ring change
    → slice_get now ring ≡ Some (change row)
row_after rows now ring row change at changed =
    ap (λ rs. slice_get rs ring) (changed ∙ row_changed_is rows ring row change at) ∙ get_set_same rows ring row (change row) at

-- and after a second change
pub row_changed_twice : (rows now last : List RingRow) (ring : ℕ) (row : RingRow) (first second : RingRow → RingRow) → slice_get rows ring ≡ Some row
    → now ≡ ring_row_changed rows ring first → last ≡ ring_row_changed now ring second → last ≡ set rows ring (second (first row))
row_changed_twice rows now last ring row first second at once twice =
    let now_is = once ∙ row_changed_is rows ring row first at in
    twice ∙ (row_changed_is now ring (first row) second (row_after rows now ring row first at once)
    ∙ (ap (λ rs. set rs ring (second (first row))) now_is ∙ set-set rows ring (first row) (second (first row))))

-- the ring states after one row changed
pub rings_tie : (rows : List RingRow) (ring : ℕ) (row new : RingRow) (change : RingState → RingState) → slice_get rows ring ≡ Some row
    → ring_state_of new ≡ change (ring_state_of row) → map ring_state_of (set rows ring new) ≡ ring_changed (map ring_state_of rows) ring change
rings_tie rows ring row new change at is =
    map-set ring_state_of rows ring new ∙ (ap (set (map ring_state_of rows) ring) is
    ∙ sym (ring_changed_is (map ring_state_of rows) ring (ring_state_of row) change (to_map ring_state_of rows ring row at)))

-- the pending jobs of a ring that is there
pub row_pending : (t : Table) (ring : ℕ) (row : RingRow) → slice_get t.rings ring ≡ Some row → pending_of (state_of t) ring ≡ row.state.pending
row_pending t ring row at = ap (λ o. option_map_or (λ (r : RingState). r.pending) o []) (to_map ring_state_of t.rings ring row at)

-- those of any ring
pub pending_told : (rows : List RingRow) (ring : ℕ) → pending_at rows ring ≡ option_map_or (λ (s : RingState). s.pending) (slice_get (map ring_state_of rows) ring) []
pending_told [] ring = refl
pending_told (row ∷ rows) zero = refl
pending_told (row ∷ rows) (suc ring) = pending_told rows ring

-- the row of a ring
pub row_found : (t : Table) (ring : ℕ) → IsWhole t → ring < length t.spec.rings → (row : RingRow) × (slice_get t.rings ring ≡ Some row)
row_found t ring w there = stands_within t.rings ring (row_there t ring w there)

-- room stays where the parts kept theirs
pub rooms_kept : (t u : Table) → HasRooms t → u.spec ≡ t.spec → vec_capacity u.journal ≡ vec_capacity t.journal → u.waits.places ≡ t.waits.places
    → u.fences.places ≡ t.fences.places → u.entities.places ≡ t.entities.places → HasRooms u
rooms_kept t u rooms spec jobs waits places queues = record {
  jobs = subst (λ n. u.spec.max_jobs ≤ n) (sym jobs) (subst (λ (s : DeviceSpec). s.max_jobs ≤ vec_capacity t.journal) (sym spec) rooms.jobs);
  waits = subst (λ n. u.spec.max_jobs ≤ n) (sym waits) (subst (λ (s : DeviceSpec). s.max_jobs ≤ t.waits.places) (sym spec) rooms.waits);
  places = places ∙ (rooms.places ∙ ap (λ (s : DeviceSpec). s.max_jobs) (sym spec));
  queues = queues ∙ (rooms.queues ∙ ap (λ (s : DeviceSpec). s.max_jobs) (sym spec));
}
