-- A step that ran its packet is the step of its definition, and keeps the tables whole.
use Rattle.std.proofs.Common.{◌≡◌, ℕ, ◌+◌, ◌<◌, false, List, length, map, get_or, set, Some, refl, ap, subst, ◌∙◌, slice_get, true, not, sym, inl, inr, arith, ◌≤◌}
use Rattle.std.specs.Vec.{with_item}
use Rattle.drm_buffer.specs.Memory.{sizes_of}
use Rattle.drm_buffer.specs.Stored.{Stored}
use Rattle.drm_packet.specs.declared.Packet.{Packet}
use Rattle.drm_packet.specs.Effect.{effect}
use Rattle.drm_fence.specs.Fences.{Fences, with_one_packet_more}
use Rattle.drm_state.specs.declared.journal.JobRecord.{JobRecord}
use Rattle.drm_table.specs.declared.table.Table.{Table}
use Rattle.drm_state.specs.declared.answer.Answer.TheVariants as answer
use Rattle.drm_state.specs.Ring.{current_of}
use Rattle.drm_state.specs.Outcomes.{must_stall, step_outcome}
use Rattle.drm_state.specs.Records.{fence_state_of}
use Rattle.drm_table.specs.Tables.{state_of, IsWhole}
use Rattle.drm_state.specs.Events.{IsKept}
use Rattle.drm_state.proofs.DeviceSteps.{step_kept}
use Rattle.drm_state.proofs.Alike.{fence_tie}
use Rattle.drm_table.proofs.TableFacts.{IsRunning, row_found, row_changed_is, whole_kept, rooms_kept}
use Rattle.drm_state.proofs.LoadsKept.{loads_set, map_set_same}
use Rattle.drm_state.proofs.CallsAre.{Left, step_runs}
use Rattle.drm_table.proofs.Queues.{stands_set}
use Rattle.std.proofs.lemmas.Option.{slice_get_within}
use Rattle.drm_ring.specs.RingRows.{RingRow, pending_at, passed_at, ring_row_changed}
use Rattle.drm_state.specs.Rows.{is_open, passed_of, passed_row, ring_state_of}
use Rattle.drm_table.proofs.RowsKept.{done_set, passes_at_row, rows_changed, credits_alike}
use Rattle.drm_state.proofs.Passing.{passed_grows}
use Rattle.std.proofs.lemmas.Bool.{or_cases, or_left, or_right, leb-true, le-leb}
use Rattle.std.specs.Prelude.{nat_le}
use Rattle.std.specs.Option.{option_map_or}
use Rattle.drm_lists.proofs.Places.{at_index}
use Rattle.drm_lists.proofs.Changed.{get_set_other}
use Rattle.drm_state.specs.Journal.{is_complete}

-- the tables after the step
abbrev pub ran_tables : Table → ℕ → JobRecord → ℕ → Stored → Fences → List RingRow → Table
ran_tables t f x ran memory fences rings =
    record t { memory = memory; journal = with_item t.journal f (record x { ran = ran + 1 }); fences = fences; rings = rings }

-- the ring has passed over what it had before, when its job has run one packet more
pub ran_passes : (t : Table) (ring f : ℕ) (x y : JobRecord) → IsWhole t → ring < length t.spec.rings → slice_get t.journal.items f ≡ Some y → x ≡ get_or t.journal.items f x
    → passed_at t.rings ring ≤ passed_of (is_open (set t.journal.items f (record x { ran = y.ran + 1 }))) (pending_at t.rings ring)
ran_passes t ring f x y w there at x_is =
    let row = row_found t ring w there in
    let at_x = at_index t.journal.items f x x_is (slice_get_within t.journal.items f y at) in
    let same : y ≡ x = cc (at_x, at) in
    let is = (w.rows ring row.0 row.1).passed in
    let more = passed_grows (is_open t.journal.items) (is_open (set t.journal.items f (record y { ran = y.ran + 1 }))) row.0.state.pending
    (λ k g at_k. done_set t.journal.items f y (record y { ran = y.ran + 1 }) at stays g) in
    passes_at_row t.rings ring row.0 (is_open (set t.journal.items f (record x { ran = y.ran + 1 }))) row.1
    (subst (λ z. row.0.passed ≤ passed_of (is_open (set t.journal.items f (record z { ran = y.ran + 1 }))) row.0.state.pending) same (omega (arith, is, more)))
  where
    stays : is_complete y ≡ true → is_complete (record y { ran = y.ran + 1 }) ≡ true
    stays done =
        elim (or_cases y.is_skipped (nat_le (length y.job.packets) y.ran) done) [
          | inl skipped ↦ or_left y.is_skipped (nat_le (length y.job.packets) (y.ran + 1)) skipped
          | inr all ↦
              let le = leb-true (length y.job.packets) y.ran all in
              or_right y.is_skipped (nat_le (length y.job.packets) (y.ran + 1)) (le-leb (length y.job.packets) (y.ran + 1) (omega (arith, le)))
        ]

pub step_done : (t : Table) (ring f : ℕ) (x y : JobRecord) (p : Packet) (memory : Stored) (fences : Fences) (rows : List RingRow) → IsWhole t → ring < length t.spec.rings
    → current_of (state_of t) ring ≡ Some f → IsRunning t ring f y → x ≡ get_or t.journal.items f x → slice_get y.job.packets y.ran ≡ Some p → must_stall p y.karma.resets ≡ false
    → memory.bytes ≡ effect p t.memory.bytes → sizes_of memory.bytes ≡ sizes_of t.memory.bytes → fences.list ≡ with_one_packet_more t.fences.list f → fences.places ≡ t.fences.places
    → rows ≡ ring_row_changed t.rings ring (passed_row (set t.journal.items f (record x { ran = y.ran + 1 })))
    → (step_outcome (state_of t) ring ≡ (answer.Ran f y.ran, state_of (ran_tables t f x y.ran memory fences rows))) × IsWhole (ran_tables t f x y.ran memory fences rows)
step_done t ring f x y p memory fences rows w there is run x_is next going ran sizes list places passed =
    let row = row_found t ring w there in
    let at_x = at_index t.journal.items f x x_is (slice_get_within t.journal.items f y run.current.at) in
    let same : y ≡ x = cc (at_x, run.current.at) in
    let left_by : JobRecord → Left = λ z. (answer.Ran f y.ran, record (state_of t) { memory = memory.bytes; journal = set t.journal.items f (record z { ran = y.ran + 1 }) }) in
    let after = set t.journal.items f (record x { ran = y.ran + 1 }) in
    let new : RingRow = passed_row after row.0 in
    let rows_are : rows ≡ set t.rings ring new = passed ∙ row_changed_is t.rings ring row.0 (passed_row after) row.1 in
    let rings : map ring_state_of rows ≡ map ring_state_of t.rings = ap (map ring_state_of) rows_are ∙ map_set_same ring_state_of t.rings ring row.0 new row.1 refl in
    let outcome : step_outcome (state_of t) ring ≡ (answer.Ran f y.ran, state_of (ran_tables t f x y.ran memory fences rows)) =
    subst (λ z. step_outcome (state_of t) ring ≡ left_by z) same (step_runs (state_of t) ring f y p memory.bytes is run.current.at next going ran)
    ∙ ap (λ rs. let q : Left = (answer.Ran f y.ran, record (state_of t) { memory = memory.bytes; journal = after; rings = rs }) in q) (sym rings) in
    let tie : fences.list ≡ map fence_state_of (set t.journal.items f (record x { ran = y.ran + 1 })) =
    list ∙ fence_tie t.journal.items t.fences.list f y (record x { ran = y.ran + 1 }) (λ s. record s { ran = s.ran + 1 }) w.fences run.current.at
    (ap (λ (z : JobRecord). fence_state_of (record z { ran = y.ran + 1 })) same) in
    let kept : IsKept (state_of t) (state_of (ran_tables t f x y.ran memory fences rows)) =
    subst (λ (q : Left). IsKept (state_of t) q.1) outcome (step_kept (state_of t) ring w.steady there) in (
      outcome,
      whole_kept t (ran_tables t f x y.ran memory fences rows) w kept
          tie refl (stands_set t.journal.items f x (record x { ran = y.ran + 1 }) t.entities at_x refl refl w.queues)
          (loads_set t.spec t.journal.items f x (record x { ran = y.ran + 1 }) t.loads w.loads at_x refl refl)
          (rows_changed t ring row.0 new rows (state_of (ran_tables t f x y.ran memory fences rows)) w kept.grows row.1 rows_are
          (record { passed = refl; credits = credits_alike t ring row.0 (state_of (ran_tables t f x y.ran memory fences rows)) w row.1 kept.grows })
          (λ g r at_g scheduled apart.
          ap (λ o. option_map_or (λ (z : JobRecord). not (is_complete z)) o false)
          (get_set_other t.journal.items f g (record x { ran = y.ran + 1 }) (λ g_is. apart (same_ring g r at_g g_is))))) sizes
          (rooms_kept t (ran_tables t f x y.ran memory fences rows) w.rooms refl refl refl places refl),
    )
  where
    same_ring : (g : ℕ) (r : JobRecord) → slice_get t.journal.items g ≡ Some r → g ≡ f → r.ring ≡ ring
    same_ring g r at_g g_is =
        let here : slice_get t.journal.items f ≡ Some r = subst (λ n. slice_get t.journal.items n ≡ Some r) g_is at_g in
        let is_y : r ≡ y = cc (here, run.current.at) in
        ap (λ (z : JobRecord). z.ring) is_y ∙ run.current.on_ring
