-- A timeout of the tables is that of its definition, and keeps the tables whole.
use Rattle.std.proofs.Common.{◌≡◌, ℕ, ◌-◌, ◌<◌, Bool, true, false, cond, List, [], ◌∷◌, length, map, get_or, set, None, Some, Option, refl, sym, ap, subst, ◌∙◌, slice_get, ◌≤◌, ◌&&◌, ◌||◌, ◌==◌, not, inl, inr, arith, zero, suc}
use Rattle.std.specs.declared.alloc.Global.{Global}
use Rattle.std.specs.Prelude.{nat_lt, option_map, vec_capacity, Vec, nat_le}
use Rattle.std.specs.Option.{option_map_or}
use Rattle.std.proofs.lemmas.Option.{slice_get_within}
use Rattle.std.proofs.lemmas.List.{map-set}
use Rattle.drm_types.specs.declared.spec.RingSpec.{RingSpec}
use Rattle.drm_types.specs.declared.spec.EntitySpec.{EntitySpec}
use Rattle.drm_types.specs.declared.spec.Priority.{Priority}
use Rattle.drm_reset.specs.Blame.{blamed}
use Rattle.drm_entity.specs.Rows.{EntityRow, EntityRows, row_changed}
use Rattle.drm_reset.specs.declared.verdict.Verdict.{Verdict}
use Rattle.drm_reset.specs.declared.verdict.Verdict.TheVariants as verdict
use Rattle.drm_state.specs.declared.answer.Answer.TheVariants as answer
use Rattle.drm_state.specs.declared.journal.JobRecord.{JobRecord}
use Rattle.drm_ring.specs.RingRows.{RingRow, pending_at, passed_at, ring_row_changed, since_row}
use Rattle.drm_table.specs.declared.table.Table.{Table}
use Rattle.drm_state.specs.Journal.{is_at, is_complete, changed_at}
use Rattle.drm_state.specs.Outcomes.{hung, hung_device, condemned, condemned_device, is_too_much, hang_outcome, timeout_at, timeout_outcome}
use Rattle.drm_state.specs.Recovery.{verdict_at, blamed_by, all_skipped}
use Rattle.drm_table.specs.Plain.{marks, QueuesStand}
use Rattle.drm_state.specs.Lawful.{IsPendingList}
use Rattle.drm_state.specs.Ring.{pending_of, head_of, limit_of, age_of, ring_changed, entity_changed}
use Rattle.drm_state.specs.State.{EntityState, RingState, DeviceState}
use Rattle.drm_state.specs.Loads.{standing_of, owner_of, LoadsOf}
use Rattle.drm_state.specs.Records.{fence_state_of}
use Rattle.drm_table.specs.Tables.{state_of, IsWhole}
use Rattle.drm_state.proofs.CallsAre.{Left, at_record_there}
use Rattle.drm_state.specs.Events.{IsKept}
use Rattle.drm_state.proofs.DeviceSteps.{timeout_kept}
use Rattle.drm_state.proofs.FinishLawful.{IsHead, head_is}
use Rattle.drm_state.proofs.Records.{at_test, changed_is}
use Rattle.drm_state.proofs.Pending.{pending_kept}
use Rattle.drm_state.proofs.Condemning.{condemned_among}
use Rattle.drm_state.proofs.LoadsKept.{loads_same, loads_set}
use Rattle.drm_table.proofs.TableFacts.{rings_tie, rooms_kept, row_found, row_after, row_changed_is, row_changed_twice, row_pending, entity_there, whole_kept}
use Rattle.drm_table.proofs.Queues.{marks_changed, stands_set, stands_map, stands_marked}
use Rattle.drm_state.specs.Rows.{is_open, passed_of, passed_row, ring_state_of}
use Rattle.drm_table.proofs.RowsKept.{open_set, rows_changed, passes_at_row, passed_alike, credits_alike}
use Rattle.drm_state.proofs.Passing.{passed_grows}
use Rattle.std.proofs.lemmas.Bool.{cases_eq, ne_eqb}
use Rattle.drm_lists.proofs.Places.{stands_within, at_index, to_map}
use Rattle.drm_lists.proofs.Changed.{get_set_same, get_set_other, set_same}
use Rattle.drm_fence.specs.Phases.{is_scheduled}

-- the outcome of a timeout, by what it finds of the head
abbrev pub by_verdict : DeviceState → ℕ → ℕ → ℕ → JobRecord → Verdict → Left
by_verdict d ring now f r verdict.Empty = (answer.Empty, d)
by_verdict d ring now f r (verdict.NotYet due_in) = (answer.NotYet due_in, d)
by_verdict d ring now f r verdict.Complete = (answer.Complete, d)
by_verdict d ring now f r verdict.Hang = hang_outcome d ring now f r

pub timeout_finds : (d : DeviceState) (ring now f : ℕ) (r : JobRecord) → head_of d ring ≡ Some f → slice_get d.journal f ≡ Some r
    → timeout_outcome d ring now ≡ by_verdict d ring now f r (verdict_at d ring f now)
timeout_finds d ring now f r is at =
    let limit = limit_of (λ l. l.timeout) d ring in
    let found : Bool → Verdict = λ b. cond b verdict.Complete verdict.Hang in
    let left : Bool → Left = λ b. cond b (answer.Complete, d) (hang_outcome d ring now f r) in
    at_record_there d (timeout_at d ring now) (answer.Empty, d) (head_of d ring) f r is at
    ∙ (ap (λ b. cond {A = Left} (nat_lt (age_of d ring now) limit) (answer.NotYet (limit - age_of d ring now), d) (left b)) (sym (at_test d.journal f r is_complete at))
    ∙ by_age (nat_lt (age_of d ring now) limit) (is_at d.journal f is_complete))
  where
    by_age : (young complete : Bool)
        → cond {A = Left} young (answer.NotYet (limit_of (λ l. l.timeout) d ring - age_of d ring now), d) (cond {A = Left} complete (answer.Complete, d) (hang_outcome d ring now f r))
        ≡ by_verdict d ring now f r (cond young (verdict.NotYet (limit_of (λ l. l.timeout) d ring - age_of d ring now)) (cond complete verdict.Complete verdict.Hang))
    by_age true complete = refl
    by_age false true = refl
    by_age false false = refl

-- where this verdict was found
pub timeout_by : (t : Table) (ring now f : ℕ) (v : Verdict) → IsWhole t → ring < length t.spec.rings → head_of (state_of t) ring ≡ Some f → verdict_at (state_of t) ring f now ≡ v
    → (r : JobRecord) × IsHead (state_of t) ring f r × (timeout_outcome (state_of t) ring now ≡ by_verdict (state_of t) ring now f r v)
timeout_by t ring now f v w there is found =
    let h = head_is (state_of t) ring f w.steady.lawful there is in
    (h.0, h.1, timeout_finds (state_of t) ring now f h.0 is h.1.at ∙ ap (by_verdict (state_of t) ring now f h.0) found)

-- a head that hangs: the journal where it is blamed, the row of its ring, the rows from now on, and whether that is too
-- much
pub record IsBlamed (t : Table) (ring now f : ℕ) (r : JobRecord) (journal : Vec JobRecord Global) (row : RingRow) (since : List RingRow) (guilty : Bool) : Type 0 where
  pub head : IsHead (state_of t) ring f r
  pub hangs : timeout_outcome (state_of t) ring now ≡ hang_outcome (state_of t) ring now f r
  pub items : journal.items ≡ set t.journal.items f (hung (state_of t) r)
  pub room : vec_capacity journal ≡ vec_capacity t.journal
  pub row_at : slice_get t.rings ring ≡ Some row
  pub since_is : since ≡ ring_row_changed t.rings ring (since_row now)
  pub much : is_too_much (state_of t) ring r ≡ guilty

pub is_blamed : (t : Table) (ring now f : ℕ) (r : JobRecord) (entity : ℕ) (priority : Priority) (journal : Vec JobRecord Global) (since : List RingRow) (limits : RingSpec) (guilty : Bool)
    → (w : IsWhole t) → (there : ring < length t.spec.rings) → head_of (state_of t) ring ≡ Some f → verdict_at (state_of t) ring f now ≡ verdict.Hang → r ≡ get_or t.journal.items f r → entity ≡ r.job.entity
    → option_map (λ (e : EntitySpec). e.priority) (slice_get t.spec.entities entity) ≡ Some priority → journal.items ≡ changed_at t.journal.items f (blamed_by priority)
    → vec_capacity journal ≡ vec_capacity t.journal → since ≡ ring_row_changed t.rings ring (since_row now)
    → guilty ≡ is_at journal.items f (λ r. nat_lt limits.hang_limit r.karma.karma) → slice_get t.spec.rings ring ≡ Some limits
    → IsBlamed t ring now f r journal (row_found t ring w there).0 since guilty
is_blamed t ring now f r entity priority journal since limits guilty w there is hangs r_is of_entity priority_is items room since_is guilty_is limits_at =
    let d = state_of t in
    let h = timeout_by t ring now f verdict.Hang w there is hangs in
    let at = at_index t.journal.items f r r_is (slice_get_within t.journal.items f h.0 h.1.at) in
    let same : h.0 ≡ r = cc (h.1.at, at) in
    let hung_is : hung d r ≡ blamed_by priority r =
    by_entity (slice_get t.spec.entities r.job.entity) (ap (λ n. option_map (λ (e : EntitySpec). e.priority) (slice_get t.spec.entities n)) (sym of_entity) ∙ priority_is) in
    let items_are : journal.items ≡ set t.journal.items f (hung d r) =
    items ∙ (changed_is t.journal.items f r (blamed_by priority) at ∙ ap (set t.journal.items f) (sym hung_is)) in
    let test : JobRecord → Bool = λ r. nat_lt limits.hang_limit r.karma.karma in
    let told : guilty ≡ test (hung d r) =
    guilty_is ∙ (ap (λ js. is_at js f test) items_are ∙ at_test (set t.journal.items f (hung d r)) f (hung d r) test (get_set_same t.journal.items f r (hung d r) at)) in
    record {
      head = subst (IsHead d ring f) same h.1;
      hangs = subst (λ z. timeout_outcome d ring now ≡ hang_outcome d ring now f z) same h.2;
      items = items_are;
      room = room;
      row_at = (row_found t ring w there).1;
      since_is = since_is;
      much = ap (λ o. nat_lt (option_map_or (λ (l : RingSpec). l.hang_limit) o 0) (hung d r).karma.karma) limits_at ∙ sym told;
    }
  where
    by_entity : (o : Option EntitySpec) → option_map (λ (e : EntitySpec). e.priority) o ≡ Some priority
        → (let s : JobRecord = record r { karma = option_map_or (λ (e : EntitySpec). blamed e.priority r.karma) o r.karma } in s) ≡ blamed_by priority r
    by_entity None none = absurd (cc (none))
    by_entity (Some e) some = let same : e.priority ≡ priority = cc (some) in ap (λ p. blamed_by p r) same

-- the tables after the blame
abbrev pub blamed_tables : Table → Vec JobRecord Global → List RingRow → Table
blamed_tables t journal rings = record t { journal = journal; rings = rings }

-- and after the entity is guilty too
abbrev pub guilty_tables : Table → Vec JobRecord Global → List RingRow → EntityRows → Table
guilty_tables t journal rings entities = record t { journal = journal; rings = rings; entities = entities }

-- the rows from now on
since_set : {t : Table} {ring now f : ℕ} {r : JobRecord} {journal : Vec JobRecord Global} {row : RingRow} {since : List RingRow} {guilty : Bool} → IsBlamed t ring now f r journal row since guilty
    → since ≡ set t.rings ring (since_row now row)
since_set {t} {ring} {now} {f} {r} {journal} {row} b = b.since_is ∙ row_changed_is t.rings ring row (since_row now) b.row_at

since_at : {t : Table} {ring now f : ℕ} {r : JobRecord} {journal : Vec JobRecord Global} {row : RingRow} {since : List RingRow} {guilty : Bool} → IsBlamed t ring now f r journal row since guilty
    → slice_get since ring ≡ Some (since_row now row)
since_at {t} {ring} {now} {f} {r} {journal} {row} {since} b = row_after t.rings since ring row (since_row now) b.row_at b.since_is

pub rows_there : {t : Table} {ring now f : ℕ} {r : JobRecord} {journal : Vec JobRecord Global} {row : RingRow} {since : List RingRow} {guilty : Bool} → IsBlamed t ring now f r journal row since guilty
    → ring < length since
rows_there {t} {ring} {now} {f} {r} {journal} {row} {since} b = slice_get_within since ring (since_row now row) (since_at b)

-- the device of the blamed tables
blamed_state : {t : Table} {ring now f : ℕ} {r : JobRecord} {journal : Vec JobRecord Global} {row : RingRow} {since : List RingRow} {guilty : Bool} → IsBlamed t ring now f r journal row since guilty → state_of (blamed_tables t journal since) ≡ hung_device (state_of t) ring now f
blamed_state {t} {ring} {now} {f} {r} {journal} {row} {since} b =
    let d = state_of t in
    let change : RingState → RingState = λ s. record s { since = now } in
    let rings : map ring_state_of since ≡ ring_changed d.rings ring change = ap (map ring_state_of) (since_set b) ∙ rings_tie t.rings ring row (since_row now row) change b.row_at refl in
    let items : journal.items ≡ changed_at t.journal.items f (hung d) = b.items ∙ sym (changed_is t.journal.items f r (hung d) b.head.at) in
    ap (λ js. let s : DeviceState = record d { journal = js; rings = map ring_state_of since } in s) items
    ∙ ap (λ rs. let s : DeviceState = record d { journal = changed_at t.journal.items f (hung d); rings = rs } in s) rings

-- the fences of the jobs stay
blamed_fences : (js : List JobRecord) (f : ℕ) (r new : JobRecord) → slice_get js f ≡ Some r → fence_state_of new ≡ fence_state_of r → map fence_state_of (set js f new) ≡ map fence_state_of js
blamed_fences js f r new at same =
    map-set fence_state_of js f new ∙ (ap (set (map fence_state_of js) f) same ∙ set_same (map fence_state_of js) f (fence_state_of r) (to_map fence_state_of js f r at))

condemned_fences : (ring entity : ℕ) (js : List JobRecord) → map fence_state_of (map (condemned ring entity) js) ≡ map fence_state_of js
condemned_fences ring entity [] = refl
condemned_fences ring entity (r ∷ rs) = ap (λ fs. fence_state_of r ∷ fs) (condemned_fences ring entity rs)

condemned_standings : (ring entity : ℕ) (js : List JobRecord) → map standing_of (map (condemned ring entity) js) ≡ map standing_of js
condemned_standings ring entity [] = refl
condemned_standings ring entity (r ∷ rs) = ap (λ ss. standing_of r ∷ ss) (condemned_standings ring entity rs)

condemned_owners : (ring entity : ℕ) (js : List JobRecord) → map owner_of (map (condemned ring entity) js) ≡ map owner_of js
condemned_owners ring entity [] = refl
condemned_owners ring entity (r ∷ rs) = ap (λ os. owner_of r ∷ os) (condemned_owners ring entity rs)

-- so do the queues
blamed_queues : {t : Table} {ring now f : ℕ} {r : JobRecord} {journal : Vec JobRecord Global} {row : RingRow} {since : List RingRow} {guilty : Bool} → IsWhole t → IsBlamed t ring now f r journal row since guilty → QueuesStand journal.items t.entities
blamed_queues {t} {ring} {now} {f} {r} w b =
    subst (λ js. QueuesStand js t.entities) (sym b.items) (stands_set t.journal.items f r (hung (state_of t) r) t.entities b.head.at refl refl w.queues)

-- and the loads
blamed_loads : {t : Table} {ring now f : ℕ} {r : JobRecord} {journal : Vec JobRecord Global} {row : RingRow} {since : List RingRow} {guilty : Bool} → IsWhole t → IsBlamed t ring now f r journal row since guilty → LoadsOf t.spec journal.items t.loads
blamed_loads {t} {ring} {now} {f} {r} w b =
    subst (λ js. LoadsOf t.spec js t.loads) (sym b.items) (loads_set t.spec t.journal.items f r (hung (state_of t) r) t.loads w.loads b.head.at refl refl)

-- and the pending list of its ring, which is what is lent of it
pub since_pending : {t : Table} {ring now f : ℕ} {r : JobRecord} {journal : Vec JobRecord Global} {row : RingRow} {since : List RingRow} {guilty : Bool} → IsBlamed t ring now f r journal row since guilty
    → (numbers : List ℕ) → numbers ≡ pending_at since ring → numbers ≡ row.state.pending
since_pending b numbers lent = lent ∙ ap (λ o. option_map_or (λ (z : RingRow). z.state.pending) o []) (since_at b)

pub blamed_pending : {t : Table} {ring now f : ℕ} {r : JobRecord} {journal : Vec JobRecord Global} {row : RingRow} {since : List RingRow} {guilty : Bool} → IsWhole t → ring < length t.spec.rings
    → IsBlamed t ring now f r journal row since guilty → IsPendingList journal.items ring row.state.pending
blamed_pending {t} {ring} {now} {f} {r} {journal} {row} w there b =
    let d = state_of t in
    subst (λ ns. IsPendingList journal.items ring ns) (row_pending t ring row b.row_at)
    (subst (λ js. IsPendingList js ring (pending_of d ring)) (sym b.items)
    (pending_kept t.journal.items f r (hung d r) ring (pending_of d ring) b.head.at refl refl (w.steady.lawful.rings ring there).pending))

-- and what is open
blamed_open : {t : Table} {ring now f : ℕ} {r : JobRecord} {journal : Vec JobRecord Global} {row : RingRow} {since : List RingRow} {guilty : Bool} → IsBlamed t ring now f r journal row since guilty
    → (g : ℕ) → is_open journal.items g ≡ is_open t.journal.items g
blamed_open {t} {ring} {now} {f} {r} b g =
    ap (λ js. is_open js g) b.items ∙ open_set t.journal.items f r (hung (state_of t) r) b.head.at refl g

-- a job stays on its ring
blamed_there : {t : Table} {ring now f : ℕ} {r : JobRecord} {journal : Vec JobRecord Global} {row : RingRow} {since : List RingRow} {guilty : Bool} → IsBlamed t ring now f r journal row since guilty
    → (g : ℕ) (x : JobRecord) → slice_get t.journal.items g ≡ Some x → (y : JobRecord) × (slice_get journal.items g ≡ Some y) × (y.ring ≡ x.ring)
blamed_there {t} {ring} {now} {f} {r} b g x at =
    elim (cases_eq g f) [
      | inl g_is ↦
          let same : x ≡ r = (let here : slice_get t.journal.items f ≡ Some x = subst (λ n. slice_get t.journal.items n ≡ Some x) g_is at in cc (here, b.head.at)) in (
            hung (state_of t) r,
            ap (λ js. slice_get js g) b.items ∙ subst (λ n. slice_get (set t.journal.items f (hung (state_of t) r)) n ≡ Some (hung (state_of t) r)) (sym g_is)
                (get_set_same t.journal.items f r (hung (state_of t) r) b.head.at),
            ap (λ (z : JobRecord). z.ring) (sym same),
          )
      | inr apart ↦ (x, ap (λ js. slice_get js g) b.items ∙ (get_set_other t.journal.items f g (hung (state_of t) r) apart ∙ at), refl)
    ]

blamed_row : {t : Table} {ring now f : ℕ} {r : JobRecord} {journal : Vec JobRecord Global} {row : RingRow} {since : List RingRow} {guilty : Bool} → IsWhole t → IsBlamed t ring now f r journal row since guilty
    → row.passed ≡ passed_of (is_open journal.items) row.state.pending
blamed_row {t} {ring} {now} {f} {r} {journal} {row} w b = passed_alike t ring row journal.items w b.row_at (λ g x at_g scheduled on_ring. blamed_open b g)

-- a job that is skipped is done with, and the others are as they were
condemned_done : (ring entity : ℕ) (js : List JobRecord) (g : ℕ) → is_open js g ≡ false → is_open (map (condemned ring entity) js) g ≡ false
condemned_done ring entity [] g done = refl
condemned_done ring entity (r ∷ rs) zero done =
    elim (is_scheduled r.phase && (r.ring == ring) && (r.job.entity == entity)) as (λ b. not ((b || r.is_skipped) || nat_le (length r.job.packets) r.ran) ≡ false) [ true ↦ refl | false ↦ done ]
condemned_done ring entity (r ∷ rs) (suc g) done = condemned_done ring entity rs g done

condemned_elsewhere : (ring entity : ℕ) (js : List JobRecord) (g : ℕ) (x : JobRecord) → slice_get js g ≡ Some x → (x.ring ≡ ring → ⊥)
    → is_open (map (condemned ring entity) js) g ≡ is_open js g
condemned_elsewhere ring entity js g x at apart =
    let test : JobRecord → Bool = λ r. not (is_complete r) in
    at_test (map (condemned ring entity) js) g (condemned ring entity x) test (to_map (condemned ring entity) js g x at)
    ∙ (ap (λ b. not (((is_scheduled x.phase && b && (x.job.entity == entity)) || x.is_skipped) || nat_le (length x.job.packets) x.ran)) (ne_eqb x.ring ring apart)
    ∙ (ap (λ b. not ((b || x.is_skipped) || nat_le (length x.job.packets) x.ran)) (none_of (is_scheduled x.phase))
    ∙ sym (at_test js g x test at)))
  where
    none_of : (b : Bool) → (b && false && (x.job.entity == entity)) ≡ false
    none_of true = refl
    none_of false = refl

-- so the ring has passed over them, when its entity is guilty too
pub guilty_passes : {t : Table} {ring now f : ℕ} {r : JobRecord} {journal : Vec JobRecord Global} {row : RingRow} {since : List RingRow} {guilty : Bool} → (entity : ℕ) (last : List JobRecord) → IsWhole t → ring < length t.spec.rings
    → IsBlamed t ring now f r journal row since guilty → last ≡ all_skipped entity journal.items row.state.pending
    → passed_at since ring ≤ passed_of (is_open last) (pending_at since ring)
guilty_passes {t} {ring} {now} {f} {r} {journal} {row} {since} entity last w there b skipped =
    let items : last ≡ map (condemned ring entity) journal.items = skipped ∙ condemned_among journal.items ring entity row.state.pending (blamed_pending w there b) in
    let is = blamed_row w b in
    let more = passed_grows (is_open journal.items) (is_open last) row.state.pending (λ k g at_k done. ap (λ js. is_open js g) items ∙ condemned_done ring entity journal.items g done) in
    let passes : row.passed ≤ passed_of (is_open last) row.state.pending = omega (arith, is, more) in
    passes_at_row since ring (since_row now row) (is_open last) (since_at b) passes

-- the head goes on
pub resumed_done : {t : Table} {ring now f : ℕ} {r : JobRecord} {journal : Vec JobRecord Global} {row : RingRow} {since : List RingRow} {guilty : Bool} → IsWhole t → ring < length t.spec.rings → IsBlamed t ring now f r journal row since guilty → guilty ≡ false
    → (timeout_outcome (state_of t) ring now ≡ (answer.Resumed, state_of (blamed_tables t journal since))) × IsWhole (blamed_tables t journal since)
resumed_done {t} {ring} {now} {f} {r} {journal} {row} {since} w there b little =
    let d = state_of t in
    let u = blamed_tables t journal since in
    let ends : timeout_outcome d ring now ≡ (answer.Resumed, state_of u) =
    b.hangs
    ∙ (ap (λ x. cond {A = Left} x (answer.Guilty r.job.entity, condemned_device (hung_device d ring now f) ring r.job.entity) (answer.Resumed, hung_device d ring now f)) (b.much ∙ little)
    ∙ ap (λ s. let left : Left = (answer.Resumed, s) in left) (sym (blamed_state b))) in
    let tied : t.fences.list ≡ map fence_state_of journal.items =
    w.fences ∙ sym (ap (map fence_state_of) b.items ∙ blamed_fences t.journal.items f r (hung d r) b.head.at refl) in
    let kept : IsKept d (state_of u) = subst (λ (q : Left). IsKept d q.1) ends (timeout_kept d ring now w.steady there) in (
      ends,
      whole_kept t u w kept tied refl (blamed_queues w b) (blamed_loads w b)
          (rows_changed t ring row (since_row now row) since (state_of u) w kept.grows b.row_at (since_set b) (record { passed = blamed_row w b; credits = credits_alike t ring row (state_of u) w b.row_at kept.grows })
          (λ g x at_g scheduled apart. blamed_open b g)) refl
          (rooms_kept t u w.rooms refl b.room refl refl refl),
    )

-- the entity is guilty
pub guilty_done : {t : Table} {ring now f : ℕ} {r : JobRecord} {journal : Vec JobRecord Global} {row : RingRow} {since : List RingRow} {guilty : Bool}
    → (entity : ℕ) (last : Vec JobRecord Global) (rows : List RingRow) (entities : EntityRows) → IsWhole t → ring < length t.spec.rings → IsBlamed t ring now f r journal row since guilty
    → guilty ≡ true → entity ≡ r.job.entity → last.items ≡ all_skipped entity journal.items row.state.pending → vec_capacity last ≡ vec_capacity journal
    → rows ≡ ring_row_changed since ring (passed_row last.items) → entities ≡ row_changed t.entities entity (λ r. record r { is_guilty = true })
    → (timeout_outcome (state_of t) ring now ≡ (answer.Guilty entity, state_of (guilty_tables t last rows entities)))
    × IsWhole (guilty_tables t last rows entities)
guilty_done {t} {ring} {now} {f} {r} {journal} {row} {since} entity last rows entities w there b more of_entity skipped room passed marked_by =
    let d = state_of t in
    let items : last.items ≡ map (condemned ring entity) journal.items = skipped ∙ condemned_among journal.items ring entity row.state.pending (blamed_pending w there b) in
    let u = guilty_tables t last rows entities in
    let new : RingRow = passed_row last.items (since_row now row) in
    let rows_are : rows ≡ set t.rings ring new = row_changed_twice t.rings since rows ring row (since_row now) (passed_row last.items) b.row_at b.since_is passed in
    let rings = map ring_state_of rows in
    let rings_same : map ring_state_of since ≡ rings =
    ap (map ring_state_of) (since_set b) ∙ (map-set ring_state_of t.rings ring (since_row now row) ∙ (sym (map-set ring_state_of t.rings ring new) ∙ ap (map ring_state_of) (sym rows_are))) in
    let blame : EntityRow → EntityRow = λ r. record r { is_guilty = true } in
    let mark : EntityState → EntityState = λ e. record e { is_guilty = true } in
    let guilty_marks = entity_changed (marks t.entities) entity mark in
    let entity_row = stands_within t.entities.rows entity (subst (λ n. n < length t.entities.rows) (sym of_entity) (entity_there t f r w b.head.at)) in
    let marked : marks entities ≡ guilty_marks = ap marks marked_by ∙ marks_changed t.entities entity entity_row.0 blame mark entity_row.1 refl in
    let queues : QueuesStand last.items entities =
    subst (QueuesStand last.items) (sym marked_by)
    (stands_marked last.items t.entities entity entity_row.0 blame entity_row.1 refl
    (subst (λ js. QueuesStand js t.entities) (sym items) (stands_map journal.items (condemned ring entity) t.entities (λ e x. refl) (blamed_queues w b)))) in
    let loads : LoadsOf t.spec last.items t.loads =
    subst (λ js. LoadsOf t.spec js t.loads) (sym items)
    (loads_same t.spec journal.items (map (condemned ring entity) journal.items) t.loads (blamed_loads w b)
    (condemned_standings ring entity journal.items) (condemned_owners ring entity journal.items)) in
    let ends : timeout_outcome d ring now ≡ (answer.Guilty entity, state_of u) =
    b.hangs
    ∙ (ap (λ x. cond {A = Left} x (answer.Guilty r.job.entity, condemned_device (hung_device d ring now f) ring r.job.entity) (answer.Resumed, hung_device d ring now f)) (b.much ∙ more)
    ∙ (ap (λ e. let left : Left = (answer.Guilty e, condemned_device (hung_device d ring now f) ring e) in left) (sym of_entity)
    ∙ (ap (λ s. let left : Left = (answer.Guilty entity, condemned_device s ring entity) in left) (sym (blamed_state b))
    ∙ (ap (λ rs. let left : Left = (answer.Guilty entity, record d { journal = map (condemned ring entity) journal.items; rings = rs; entities = guilty_marks }) in left) rings_same
    ∙ (ap (λ js. let left : Left = (answer.Guilty entity, record d { journal = js; rings = rings; entities = guilty_marks }) in left) (sym items)
    ∙ ap (λ es. let left : Left = (answer.Guilty entity, record d { journal = last.items; rings = rings; entities = es }) in left) (sym marked)))))) in
    let tied : t.fences.list ≡ map fence_state_of last.items =
    w.fences ∙ sym (ap (map fence_state_of) items ∙ (condemned_fences ring entity journal.items ∙ (ap (map fence_state_of) b.items ∙ blamed_fences t.journal.items f r (hung d r) b.head.at refl))) in
    let kept : IsKept d (state_of u) = subst (λ (q : Left). IsKept d q.1) ends (timeout_kept d ring now w.steady there) in (
      ends,
      whole_kept t u w kept tied refl queues loads
          (rows_changed t ring row new rows (state_of u) w kept.grows b.row_at rows_are
          (record { passed = refl; credits = credits_alike t ring row (state_of u) w b.row_at kept.grows })
          (λ g x at_g scheduled apart.
          let kept = blamed_there b g x at_g in
          ap (λ js. is_open js g) items ∙ (condemned_elsewhere ring entity journal.items g kept.0 kept.1 (λ is. apart (sym kept.2 ∙ is)) ∙ blamed_open b g))) refl
          (rooms_kept t u w.rooms refl (room ∙ b.room) refl refl (ap (λ (e : EntityRows). e.places) marked_by)),
    )
