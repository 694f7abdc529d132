-- A finish of a complete head is the finish of its definition, and keeps the tables whole.
use Rattle.std.proofs.Common.{◌≡◌, ℕ, ◌+◌, set, ◌<◌, true, not, cond, List, ◌∷◌, length, map, Some, None, refl, sym, ap, subst, ◌∙◌, inl, inr, arith, slice_get, suc, drop, ◌-◌}
use Rattle.std.specs.declared.alloc.Global.{Global}
use Rattle.std.specs.Prelude.{vec_capacity, Vec}
use Rattle.std.specs.Option.{option_map_or}
use Rattle.std.proofs.lemmas.Bool.{cases_Bool}
use Rattle.drm_types.specs.declared.outcome.Outcome.{Outcome}
use Rattle.drm_fence.specs.Fences.{Fences}
use Rattle.drm_fence.specs.declared.phase.Phase.TheVariants.{Ended}
use Rattle.drm_fence.specs.Phases.{is_queued, has_ended}
use Rattle.drm_state.specs.declared.journal.JobRecord.{JobRecord}
use Rattle.drm_state.specs.declared.loads.Loads.{Loads}
use Rattle.drm_ring.specs.RingRows.{RingRow, ring_row_changed, popped_at, popped_row}
use Rattle.drm_table.specs.declared.table.Table.{Table}
use Rattle.drm_state.specs.declared.answer.Answer.TheVariants as answer
use Rattle.drm_state.specs.Journal.{is_at, is_complete}
use Rattle.drm_state.specs.Ring.{head_of, ring_changed}
use Rattle.drm_state.specs.Refusals.{finish_refusal}
use Rattle.drm_state.specs.Outcomes.{final_outcome, ended_at, finish_outcome, finished_device}
use Rattle.drm_table.specs.Plain.{QueuesStand}
use Rattle.drm_state.specs.Loads.{LoadsOf}
use Rattle.drm_state.specs.Records.{fence_state_of, ending}
use Rattle.drm_table.specs.Tables.{state_of, IsWhole}
use Rattle.drm_state.proofs.Records.{at_test, changed_is}
use Rattle.drm_table.proofs.Queues.{stands_set}
use Rattle.drm_state.proofs.FinishLawful.{IsHead, head_is}
use Rattle.drm_state.specs.Events.{IsKept}
use Rattle.drm_state.proofs.DeviceSteps.{finish_kept}
use Rattle.drm_state.proofs.LoadsKept.{loads_ended}
use Rattle.drm_table.proofs.TableFacts.{rings_tie, rooms_kept, row_found, row_pending, row_changed_is, whole_kept}
use Rattle.drm_state.proofs.CallsAre.{Left, finish_may, finish_ends}
use Rattle.drm_state.specs.Rows.{is_open, passed_of, ring_state_of}
use Rattle.drm_table.proofs.RowsKept.{open_set, rows_changed, credits_popped}
use Rattle.drm_state.proofs.Passing.{passed_rest, passed_same}
use Rattle.drm_ring.specs.Counted.{given_back}

-- what is known of a head that may end
pub record MayEnd (t : Table) (ring f : ℕ) (outcome : Outcome) (r : JobRecord) : Type 0 where
  pub head : IsHead (state_of t) ring f r
  pub complete : is_complete r ≡ true
  pub ends : outcome ≡ final_outcome r

pub may_end : (t : Table) (ring f : ℕ) (outcome : Outcome) → IsWhole t → ring < length t.spec.rings → head_of (state_of t) ring ≡ Some f
    → option_map_or ending (slice_get t.journal.items f) None ≡ Some outcome → (r : JobRecord) × MayEnd t ring f outcome r
may_end t ring f outcome w there is ends =
    let h = head_is (state_of t) ring f w.steady.lawful there is in
    let ends_so : ending h.0 ≡ Some outcome = sym (ap (λ o. option_map_or ending o None) h.1.at) ∙ ends in
    elim (cases_Bool (is_complete h.0)) [
      | inl complete ↦
          let same : Some (final_outcome h.0) ≡ Some outcome = sym (ap (λ b. cond b (Some (final_outcome h.0)) None) complete) ∙ ends_so in
          let is_same : final_outcome h.0 ≡ outcome = cc (same) in
          (h.0, record { head = h.1; complete = complete; ends = sym is_same })
      | inr going ↦
          let never : None ≡ Some outcome = sym (ap (λ b. cond b (Some (final_outcome h.0)) None) going) ∙ ends_so in absurd (cc (never))
    ]

-- it is still going in the eyes of its fence
pub not_ended_yet : (t : Table) (ring f : ℕ) (r : JobRecord) → IsHead (state_of t) ring f r → is_at t.journal.items f (λ r. not (has_ended r.phase)) ≡ true
not_ended_yet t ring f r h = at_test t.journal.items f r (λ r. not (has_ended r.phase)) h.at ∙ ap (λ p. not (has_ended p)) h.phase

-- the head was passed over
head_passed : (t : Table) (ring f : ℕ) (outcome : Outcome) (r : JobRecord) (row : RingRow) → IsWhole t → slice_get t.rings ring ≡ Some row → (may : MayEnd t ring f outcome r)
    → row.passed ≡ suc (passed_of (is_open t.journal.items) may.head.rest)
head_passed t ring f outcome r row w at may =
    let stands : row.state.pending ≡ f ∷ may.head.rest = sym (row_pending t ring row at) ∙ may.head.stands in
    (w.rows ring row at).passed ∙ (ap (passed_of (is_open t.journal.items)) stands
    ∙ passed_rest (is_open t.journal.items) f may.head.rest (at_test t.journal.items f r (λ z. not (is_complete z)) may.head.at ∙ ap not may.complete))

-- the others go on to be passed over
behind_head : (t : Table) (ring f : ℕ) (r : JobRecord) (journal : List JobRecord) (outcome : Outcome) (row : RingRow) → IsWhole t → slice_get t.rings ring ≡ Some row
    → MayEnd t ring f outcome r → journal ≡ ended_at t.journal.items f outcome → row.passed - 1 ≡ passed_of (is_open journal) (drop 1 row.state.pending)
behind_head t ring f r journal outcome row w at may items =
    let stands : row.state.pending ≡ f ∷ may.head.rest = sym (row_pending t ring row at) ∙ may.head.stands in
    let head = head_passed t ring f outcome r row w at may in
    let left : row.passed - 1 ≡ passed_of (is_open t.journal.items) may.head.rest = omega (arith, head) in
    let same = items ∙ changed_is t.journal.items f r (λ r. record r { phase = Ended outcome }) may.head.at in
    left
    ∙ (passed_same (is_open t.journal.items) (is_open journal) may.head.rest (λ k g at_k.
    sym (ap (λ js. is_open js g) same ∙ open_set t.journal.items f r (record r { phase = Ended outcome }) may.head.at refl g))
    ∙ sym (ap (λ ns. passed_of (is_open journal) (drop 1 ns)) stands))

-- the tables after the finish
abbrev pub finished_tables : Table → Vec JobRecord Global → Fences → List RingRow → Loads → Table
finished_tables t journal fences rings loads = record t { journal = journal; fences = fences; rings = rings; loads = loads }

pub finish_done : (t : Table) (ring now f credits : ℕ) (outcome : Outcome) (r : JobRecord) (journal : Vec JobRecord Global) (fences : Fences) (rows : List RingRow) (loads : Loads) → IsWhole t
    → ring < length t.spec.rings → head_of (state_of t) ring ≡ Some f → MayEnd t ring f outcome r → journal.items ≡ ended_at t.journal.items f outcome
    → fences.list ≡ map fence_state_of journal.items → vec_capacity journal ≡ vec_capacity t.journal → fences.places ≡ t.fences.places
    → credits ≡ r.job.credits → rows ≡ ring_row_changed t.rings ring (popped_row credits now)
    → ((n : ℕ) → slice_get t.loads.live.items ring ≡ Some (n + 1) → loads.live.items ≡ set t.loads.live.items ring n) → loads.last ≡ t.loads.last → loads.ended ≡ t.loads.ended + 1
    → (finish_refusal (state_of t) ring ≡ None)
    × (finish_outcome (state_of t) ring now ≡ (answer.Finished f outcome, state_of (finished_tables t journal fences rows loads)))
    × IsWhole (finished_tables t journal fences rows loads)
finish_done t ring now f credits outcome r journal fences rows loads w there is may items tied room places told one_less live last one_more =
    let d = state_of t in
    let row = row_found t ring w there in
    let new : RingRow = popped_row credits now row.0 in
    let rows_are : rows ≡ set t.rings ring new = one_less ∙ row_changed_is t.rings ring row.0 (popped_row credits now) row.1 in
    let rings : map ring_state_of rows ≡ ring_changed d.rings ring (popped_at now) = ap (map ring_state_of) rows_are ∙ rings_tie t.rings ring row.0 new (popped_at now) row.1 refl in
    let left : Left = (answer.Finished f outcome, state_of (finished_tables t journal fences rows loads)) in
    let ended : JobRecord = record r { phase = Ended outcome } in
    let changed : journal.items ≡ set t.journal.items f ended = items ∙ changed_is t.journal.items f r (λ r. record r { phase = Ended outcome }) may.head.at in
    let queues : QueuesStand journal.items t.entities =
    subst (λ js. QueuesStand js t.entities) (sym (items ∙ changed_is t.journal.items f r (λ r. record r { phase = Ended outcome }) may.head.at))
    (stands_set t.journal.items f r ended t.entities may.head.at refl (sym (ap is_queued may.head.phase)) w.queues) in
    let loaded : LoadsOf t.spec journal.items loads =
    subst (λ js. LoadsOf t.spec js loads) (sym (items ∙ changed_is t.journal.items f r (λ r. record r { phase = Ended outcome }) may.head.at))
    (loads_ended t.spec t.journal.items f r ended t.loads loads w.loads may.head.at (ap has_ended may.head.phase) refl refl refl
    (subst (λ k. k < length t.spec.rings) (sym may.head.on_ring) there)
    (subst (λ k. (n : ℕ) → slice_get t.loads.live.items k ≡ Some (n + 1) → loads.live.items ≡ set t.loads.live.items k n) (sym may.head.on_ring) live) last one_more) in
    let ends : finish_outcome d ring now ≡ left =
    finish_ends d ring now f r is may.head.at
    ∙ (ap (λ o. let q : Left = (answer.Finished f o, finished_device d ring now f o) in q) (sym may.ends)
    ∙ (ap (λ j. let q : Left = (answer.Finished f outcome, record d { journal = j; rings = ring_changed d.rings ring (popped_at now) }) in q) (sym items)
    ∙ ap (λ rs. let q : Left = (answer.Finished f outcome, record d { journal = journal.items; rings = rs }) in q) (sym rings))) in
    let kept : IsKept d (state_of (finished_tables t journal fences rows loads)) =
    subst (λ (q : Left). IsKept d q.1) ends (finish_kept d ring now w.steady there (finish_may d ring f r is may.head.at may.complete)) in
    let stands : row.0.state.pending ≡ f ∷ may.head.rest = sym (row_pending t ring row.0 row.1) ∙ may.head.stands in (
      finish_may d ring f r is may.head.at may.complete,
      ends,
      whole_kept t (finished_tables t journal fences rows loads) w
          kept
          tied refl queues loaded
          (rows_changed t ring row.0 new rows (state_of (finished_tables t journal fences rows loads)) w kept.grows row.1 rows_are
          (record {
            passed = behind_head t ring f r journal.items outcome row.0 w row.1 may items;
            credits = credits_popped t ring f may.head.rest r row.0 new (state_of (finished_tables t journal fences rows loads)) w row.1 may.head.at kept.grows stands (ap (drop 1) stands)
                (ap (λ n. given_back n row.0.credits) told);
          })
          (λ g x at_g scheduled apart. ap (λ js. is_open js g) changed ∙ open_set t.journal.items f r ended may.head.at refl g)) refl
          (rooms_kept t (finished_tables t journal fences rows loads) w.rooms refl room refl places refl),
    )
