-- A pick of a choice that fits is the pick of its definition, and keeps the tables whole.
use Rattle.std.proofs.Common.{◌≡◌, ℕ, zero, suc, ◌<◌, ◌≤◌, Bool, true, false, not, ◌||◌, List, [], ◌∷◌, length, get_or, map, set, min, Some, None, Option, refl, sym, ap, subst, ◌∙◌, inl, inr, ◌⊎◌, arith, slice_get, ◌++◌}
use Rattle.std.specs.declared.alloc.Global.{Global}
use Rattle.std.specs.Prelude.{vec_capacity, Vec, sum_by, nat_lt, nat_le, ◌||◌, ◌==◌, IfSome, IfNone}
use Rattle.std.specs.Option.{option_map_or}
use Rattle.std.proofs.lemmas.Option.{slice_get_within, slice_get-get_or}
use Rattle.std.proofs.lemmas.List.Sums.{sum_by-cons}
use Rattle.std.proofs.lemmas.Bool.{cases_Bool, and_parts, leb-true, ltb-false, ltb-true, lt-ltb, eqb-false}
use Rattle.drm_lists.proofs.Places.{at_index, contains_at}
use Rattle.drm_lists.proofs.Changed.{get_set_other}
use Rattle.drm_types.specs.declared.spec.DeviceSpec.{DeviceSpec}
use Rattle.drm_types.specs.declared.spec.RingSpec.{RingSpec}
use Rattle.drm_types.specs.declared.spec.EntitySpec.{EntitySpec}
use Rattle.drm_types.specs.Firsts.{when}
use Rattle.drm_types.specs.Limits.{spec_fault, spec_tests, each, is_between, are_rings}
use Rattle.drm_job.specs.declared.Draft.{Draft}
use Rattle.drm_job.specs.declared.JobFault.TheVariants.{NoCredits}
use Rattle.drm_job.specs.Fault.{job_tests, IsJob}
use Rattle.drm_types.proofs.Firsts.{none_at, passes_at, false_where}
use Rattle.drm_fence.specs.declared.phase.Phase.TheVariants.{Scheduled}
use Rattle.drm_fence.specs.Fences.{Fences}
use Rattle.drm_fence.specs.Phases.{is_queued}
use Rattle.drm_entity.specs.Rows.{EntityRows, queue_at, popped}
use Rattle.drm_state.specs.declared.journal.JobRecord.{JobRecord}
use Rattle.drm_ring.specs.RingRows.{RingRow, pending_at, passed_at, ring_row_changed, put_in, put_row}
use Rattle.drm_table.specs.declared.table.Table.{Table}
use Rattle.drm_state.specs.declared.answer.Refusal.TheVariants.{Idle, NoCredit}
use Rattle.drm_state.specs.declared.answer.Answer.TheVariants as answer
use Rattle.drm_state.specs.Journal.{changed_at, is_complete}
use Rattle.drm_state.specs.Choice.{choice}
use Rattle.drm_state.specs.Ring.{credits_of, free_credits, credit_limit_of, pending_of, is_guilty, ring_changed}
use Rattle.drm_state.specs.State.{DeviceState}
use Rattle.drm_state.specs.Refusals.{pick_refusal}
use Rattle.drm_state.specs.Outcomes.{pick_outcome, picked_device}
use Rattle.drm_state.specs.Loads.{Standing, LoadsOf}
use Rattle.drm_state.specs.Records.{fence_state_of}
use Rattle.drm_table.specs.Tables.{state_of, IsWhole}
use Rattle.drm_state.proofs.Records.{changed_is}
use Rattle.drm_state.specs.Events.{IsKept}
use Rattle.drm_state.proofs.DeviceSteps.{pick_kept}
use Rattle.drm_state.proofs.ChoiceIs.{IsChosen, choice_is}
use Rattle.drm_table.proofs.Candidates.{head_number, queued_goes_on}
use Rattle.drm_state.proofs.LoadsKept.{loads_set}
use Rattle.drm_table.proofs.TableFacts.{entity_there, rings_tie, rooms_kept, row_found, row_pending, row_after, row_changed_twice, whole_kept}
use Rattle.drm_state.proofs.CallsAre.{Left, pick_may, pick_takes}
use Rattle.drm_table.proofs.Queues.{head_numbered, stands_popped, IsPopped}
use Rattle.drm_state.specs.Rows.{is_open, passed_of, passed_row, ring_state_of}
use Rattle.drm_table.proofs.RowsKept.{rows_changed, row_job, passes_at_row, credits_put}
use Rattle.drm_state.proofs.Passing.{passed_same, passed_longer}
use Rattle.drm_ring.specs.Counted.{Counted, taken}

-- a ring of a device has a credit at least
pub some_limit : (spec : DeviceSpec) (ring : ℕ) → spec_fault spec ≡ None → ring < length spec.rings → 0 < option_map_or (λ (r : RingSpec). r.credit_limit) (slice_get spec.rings ring) 0
some_limit spec ring none there =
    let blank : RingSpec = record { credit_limit = 0; timeout = 0; hang_limit = 0 } in
    let r = get_or spec.rings ring blank in
    let at = slice_get-get_or spec.rings ring blank there in
    let passes : is_between 1 65535 r.credit_limit ≡ true =
    passes_at (λ (x : RingSpec). is_between 1 65535 x.credit_limit) spec.rings (λ i. record { part = 3; index = i }) ring r
    (none_at (spec_tests spec) 3 (each 3 (λ ring. is_between 1 65535 ring.credit_limit) spec.rings) none refl) at in
    let least = leb-true 1 r.credit_limit (and_parts (nat_le 1 r.credit_limit) (nat_le r.credit_limit 65535) passes).0 in
    subst (λ o. 0 < option_map_or (λ (x : RingSpec). x.credit_limit) o 0) (sym at) least

-- the rings of an entity are there
pub rings_there : (spec : DeviceSpec) (entity : ℕ) (e : EntitySpec) → spec_fault spec ≡ None → slice_get spec.entities entity ≡ Some e
    → are_rings (length spec.rings) e.rings ≡ true
rings_there spec entity e none at =
    let is_there : EntitySpec → Bool = λ x. are_rings (length spec.rings) x.rings in
    passes_at is_there spec.entities (λ i. record { part = 7; index = i }) entity e
    (none_at (spec_tests spec) 7 (each 7 is_there spec.entities) none refl) at

-- a job counts a credit at least
pub some_credits : (spec : DeviceSpec) (job : Draft) → IsJob spec job → 0 < job.credits
some_credits spec job is =
    let no_zero = false_where (job.credits == 0) NoCredits (none_at (job_tests spec job) 1 (when (job.credits == 0) NoCredits) is refl) in
    let ne = eqb-false job.credits 0 no_zero in
    elim (zero_or_more job.credits) [
      | inl none ↦ absurd (ne none)
      | inr some ↦ some
    ]
  where
    zero_or_more : (n : ℕ) → (n ≡ 0) ⊎ (0 < n)
    zero_or_more zero = inl refl
    zero_or_more (suc n) = inr (omega arith)

-- where each counts a credit at least, they are no more than their credits
pub few_pending : (f : ℕ → ℕ) (xs : List ℕ) → ((k x : ℕ) → slice_get xs k ≡ Some x → 0 < f x) → length xs ≤ sum_by f xs
few_pending f [] each = omega arith
few_pending f (x ∷ xs) each =
    let rest = few_pending f xs (λ k y at. each (suc k) y at) in
    let one = each 0 x refl in
    let cons = sum_by-cons f x xs in
    omega (arith, rest, one, cons)

-- a pending job counts a credit at least
pub each_counts : (t : Table) (ring : ℕ) → IsWhole t → ring < length t.spec.rings → (k f : ℕ) → slice_get (pending_of (state_of t) ring) k ≡ Some f → 0 < credits_of (state_of t) ring f
each_counts t ring w there k f at =
    let r = ((w.steady.lawful.rings ring there).pending f).0 (contains_at (pending_of (state_of t) ring) k f at) in
    let limit = some_limit t.spec ring w.limits there in
    let credits = some_credits t.spec r.0.job (w.steady.lawful.records f r.0 r.1).job in
    subst (λ o. 0 < option_map_or (λ (x : JobRecord). min x.job.credits (credit_limit_of (state_of t) ring)) o 0) (sym r.1) (omega (arith, limit, credits))

-- one more job that fits finds room
pub room_for_one : (t : Table) (ring f : ℕ) (r : JobRecord) (row : RingRow) → IsWhole t → ring < length t.spec.rings → slice_get t.journal.items f ≡ Some r
    → slice_get t.rings ring ≡ Some row → nat_lt (free_credits (state_of t) ring) (credits_of (state_of t) ring f) ≡ false
    → length row.state.pending < row.credits.limit
room_for_one t ring f r row w there at at_row fits =
    let d = state_of t in
    let le = ltb-false (free_credits d ring) (credits_of d ring f) fits in
    let limit = some_limit t.spec ring w.limits there in
    let credits = some_credits t.spec r.job (w.steady.lawful.records f r at).job in
    let one : 0 < credits_of d ring f = subst (λ o. 0 < option_map_or (λ (x : JobRecord). min x.job.credits (credit_limit_of d ring)) o 0) (sym at) (omega (arith, limit, credits)) in
    let few = few_pending (credits_of d ring) (pending_of d ring) (each_counts t ring w there) in
    let used = (w.steady.lawful.rings ring there).credits in
    let room : row.credits.limit ≡ credit_limit_of d ring = ap (λ (c : Counted). c.limit) (w.rows ring row at_row).credits in
    let same : length (pending_of d ring) ≡ length row.state.pending = ap length (row_pending t ring row at_row) in
    omega (arith, le, one, few, used, room, same)

-- what is known of the entity of the job that is taken next
pub record IsTaken (t : Table) (f : ℕ) (r : JobRecord) (entity : ℕ) : Type 0 where
  pub of_entity : r.job.entity ≡ entity
  pub there : entity < length t.entities.rows
  pub head : head_number t.journal.items entity ≡ Some f

pub is_taken : (t : Table) (ring f : ℕ) (r x : JobRecord) (entity : ℕ) → IsWhole t → IsChosen (state_of t) ring f r → x ≡ get_or t.journal.items f x → entity ≡ x.job.entity
    → IsTaken t f r entity
is_taken t ring f r x entity w chosen x_is entity_is =
    let at_x = at_index t.journal.items f x x_is (slice_get_within t.journal.items f r chosen.at) in
    let same : r ≡ x = cc (chosen.at, at_x) in
    let of_entity : r.job.entity ≡ entity = ap (λ (z : JobRecord). z.job.entity) same ∙ sym entity_is in
    record {
      of_entity = of_entity;
      there = subst (λ n. n < length t.entities.rows) of_entity (entity_there t f r w chosen.at);
      head = subst (λ e. head_number t.journal.items e ≡ Some f) of_entity (head_numbered t.journal.items r.job.entity f chosen.is_head);
    }

-- the entities after it was given to its ring
pub taken_popped : (t : Table) (ring f : ℕ) (r : JobRecord) (entity : ℕ) (skipped : Bool) (items : List JobRecord) (new : EntityRows) (result : Option ℕ) → IsWhole t
    → IsChosen (state_of t) ring f r → IsTaken t f r entity
    → items ≡ changed_at t.journal.items f (λ r. record r { phase = Scheduled; is_skipped = skipped || r.is_skipped })
    → IfSome result (λ n. (rest : List ℕ) × (queue_at t.entities entity ≡ n ∷ rest) × (new ≡ popped t.entities entity rest))
    → IfNone result ((queue_at t.entities entity ≡ []) × (new ≡ t.entities)) → IsPopped items t.entities new
taken_popped t ring f r entity skipped items new result w chosen taken given some none =
    let begin : JobRecord → JobRecord = λ r. record r { phase = Scheduled; is_skipped = skipped || r.is_skipped } in
    subst (λ js. IsPopped js t.entities new) (sym (given ∙ changed_is t.journal.items f r begin chosen.at))
    (stands_popped t.journal.items t.entities new entity f r (begin r) result chosen.at taken.of_entity chosen.queued refl taken.head taken.there some none w.queues)

-- a job that was given to a ring before is open as it was
pub open_elsewhere : (t : Table) (f g : ℕ) (r x : JobRecord) (skipped : Bool) (journal : List JobRecord)
    → journal ≡ changed_at t.journal.items f (λ r. record r { phase = Scheduled; is_skipped = skipped || r.is_skipped })
    → slice_get t.journal.items f ≡ Some r → is_queued r.phase ≡ true → slice_get t.journal.items g ≡ Some x → x.phase ≡ Scheduled
    → is_open journal g ≡ is_open t.journal.items g
open_elsewhere t f g r x skipped journal items at queued at_g scheduled =
    let begin : JobRecord → JobRecord = λ r. record r { phase = Scheduled; is_skipped = skipped || r.is_skipped } in
    ap (λ js. is_open js g) (items ∙ changed_is t.journal.items f r begin at)
    ∙ ap (λ o. option_map_or (λ (z : JobRecord). not (is_complete z)) o false) (get_set_other t.journal.items f g (begin r) (λ g_is.
    let here : slice_get t.journal.items f ≡ Some x = subst (λ n. slice_get t.journal.items n ≡ Some x) g_is at_g in
    let same : x ≡ r = cc (here, at) in
    let never : false ≡ true = ap is_queued (sym scheduled) ∙ (ap (λ (z : JobRecord). is_queued z.phase) same ∙ queued) in cc (never)))

-- so the ring has passed over what it had, in the longer list too
pub put_passes : (t : Table) (ring f credits now : ℕ) (r : JobRecord) (skipped : Bool) (journal : List JobRecord) (put : List RingRow) → IsWhole t → ring < length t.spec.rings
    → journal ≡ changed_at t.journal.items f (λ r. record r { phase = Scheduled; is_skipped = skipped || r.is_skipped })
    → slice_get t.journal.items f ≡ Some r → is_queued r.phase ≡ true → put ≡ ring_row_changed t.rings ring (put_row f credits now)
    → passed_at put ring ≤ passed_of (is_open journal) (pending_at put ring)
put_passes t ring f credits now r skipped journal put w there items at queued one_more =
    let row = row_found t ring w there in
    let old = (w.rows ring row.0 row.1).passed in
    let same = passed_same (is_open t.journal.items) (is_open journal) row.0.state.pending (λ k g at_k.
    let x = row_job t ring row.0 w row.1 k g at_k in
    sym (open_elsewhere t f g r x.0 skipped journal items at queued x.1 x.2)) in
    let longer = passed_longer (is_open journal) row.0.state.pending f in
    let passes : row.0.passed ≤ passed_of (is_open journal) (row.0.state.pending ++ f ∷ []) = omega (arith, old, same, longer) in
    passes_at_row put ring (put_row f credits now row.0) (is_open journal) (row_after t.rings put ring row.0 (put_row f credits now) row.1 one_more) passes

-- the tables after the pick
abbrev pub picked_tables : Table → Vec JobRecord Global → Fences → List RingRow → EntityRows → Table
picked_tables t journal fences rings entities = record t { journal = journal; fences = fences; rings = rings; entities = entities }

pub pick_done : (t : Table) (ring now f credits : ℕ) (r : JobRecord) (skipped : Bool) (journal : Vec JobRecord Global) (fences : Fences) (put rows : List RingRow) (entities : EntityRows) → IsWhole t
    → ring < length t.spec.rings → choice (state_of t) ring ≡ Some f → nat_lt (free_credits (state_of t) ring) (credits_of (state_of t) ring f) ≡ false
    → slice_get t.journal.items f ≡ Some r → skipped ≡ is_guilty (state_of t) r.job.entity
    → journal.items ≡ changed_at t.journal.items f (λ r. record r { phase = Scheduled; is_skipped = skipped || r.is_skipped })
    → fences.list ≡ map fence_state_of journal.items → vec_capacity journal ≡ vec_capacity t.journal → fences.places ≡ t.fences.places
    → credits ≡ r.job.credits → put ≡ ring_row_changed t.rings ring (put_row f credits now) → rows ≡ ring_row_changed put ring (passed_row journal.items)
    → IsPopped journal.items t.entities entities
    → (pick_refusal (state_of t) ring ≡ None)
    × (pick_outcome (state_of t) ring now ≡ (answer.Picked f skipped, state_of (picked_tables t journal fences rows entities)))
    × IsWhole (picked_tables t journal fences rows entities)
pick_done t ring now f credits r skipped journal fences put rows entities w there is fits at guilt items tied room places told one_more passed left_queue =
    let d = state_of t in
    let row = row_found t ring w there in
    let new : RingRow = passed_row journal.items (put_row f credits now row.0) in
    let rows_are : rows ≡ set t.rings ring new = row_changed_twice t.rings put rows ring row.0 (put_row f credits now) (passed_row journal.items) row.1 one_more passed in
    let rings : map ring_state_of rows ≡ ring_changed d.rings ring (put_in f now) = ap (map ring_state_of) rows_are ∙ rings_tie t.rings ring row.0 new (put_in f now) row.1 refl in
    let left : Left = (answer.Picked f skipped, state_of (picked_tables t journal fences rows entities)) in
    let given : journal.items ≡ (picked_device d ring now f).journal =
    items ∙ (changed_is t.journal.items f r (λ r. record r { phase = Scheduled; is_skipped = skipped || r.is_skipped }) at
    ∙ (ap (λ b. set t.journal.items f (record r { phase = Scheduled; is_skipped = b || r.is_skipped })) guilt
    ∙ sym (changed_is t.journal.items f r (λ r. record r { phase = Scheduled; is_skipped = is_guilty d r.job.entity || r.is_skipped }) at))) in
    let takes : pick_outcome d ring now ≡ left =
    pick_takes d ring now f r is at
    ∙ (ap (λ b. let q : Left = (answer.Picked f b, picked_device d ring now f) in q) (sym guilt)
    ∙ (ap (λ j. let q : Left = (answer.Picked f skipped, record d { journal = j; rings = ring_changed d.rings ring (put_in f now) }) in q) (sym given)
    ∙ (ap (λ rs. let q : Left = (answer.Picked f skipped, record d { journal = journal.items; rings = rs }) in q) (sym rings)
    ∙ ap (λ es. let q : Left = (answer.Picked f skipped, record d { journal = journal.items; rings = map ring_state_of rows; entities = es }) in q) (sym left_queue.marks_same)))) in
    let chosen = choice_is d ring f is in
    let same : chosen.0 ≡ r = cc (chosen.1.at, at) in
    let queued : is_queued r.phase ≡ true = ap (λ (x : JobRecord). is_queued x.phase) (sym same) ∙ chosen.1.queued in
    let begun : JobRecord = record r { phase = Scheduled; is_skipped = skipped || r.is_skipped } in
    let loads : LoadsOf t.spec journal.items t.loads =
    subst (λ js. LoadsOf t.spec js t.loads) (sym (items ∙ changed_is t.journal.items f r (λ x. record x { phase = Scheduled; is_skipped = skipped || x.is_skipped }) at))
    (loads_set t.spec t.journal.items f r begun t.loads w.loads at (ap (λ b. let s : Standing = record { ring = r.ring; ended = b } in s) (sym (queued_goes_on r.phase queued))) refl) in
    let may = pick_may d ring f is fits in
    let kept : IsKept d (state_of (picked_tables t journal fences rows entities)) = subst (λ (q : Left). IsKept d q.1) takes (pick_kept d ring now w.steady there may) in (
      may,
      takes,
      whole_kept t (picked_tables t journal fences rows entities) w
          kept
          tied refl left_queue.stand loads
          (rows_changed t ring row.0 new rows (state_of (picked_tables t journal fences rows entities)) w kept.grows row.1 rows_are
          (record {
            passed = refl;
            credits = credits_put t ring f r row.0 new (state_of (picked_tables t journal fences rows entities)) w row.1 at kept.grows refl (ap (λ n. taken n row.0.credits) told);
          })
          (λ g x at_g scheduled apart. open_elsewhere t f g r x skipped journal.items items at queued at_g scheduled)) refl
          (rooms_kept t (picked_tables t journal fences rows entities) w.rooms refl room refl places left_queue.places),
    )

-- a pick of a choice that does not fit
pub pick_short : (d : DeviceState) (ring f need free : ℕ) → choice d ring ≡ Some f → need ≡ credits_of d ring f → free ≡ free_credits d ring → free < need
    → pick_refusal d ring ≡ Some (NoCredit need free)
pick_short d ring f need free is need_is free_is short =
    ap (λ o. option_map_or (λ f. when (nat_lt (free_credits d ring) (credits_of d ring f)) (NoCredit (credits_of d ring f) (free_credits d ring))) o (Some Idle)) is
    ∙ (ap (λ k. when (nat_lt (free_credits d ring) k) (NoCredit k (free_credits d ring))) (sym need_is)
    ∙ (ap (λ k. when (nat_lt k need) (NoCredit need k)) (sym free_is) ∙ ap (λ b. when b (NoCredit need free)) (lt-ltb free need short)))

-- numbers as tests
pub not_less : (a b x y : ℕ) → b ≤ a → x ≡ a → y ≡ b → nat_lt x y ≡ false
not_less a b x y le x_is y_is =
    elim (cases_Bool (nat_lt x y)) [
      | inl less ↦ let lt = ltb-true x y less in absurd (omega (arith, le, lt, x_is, y_is))
      | inr no_less ↦ no_less
    ]
