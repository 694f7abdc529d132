-- The jobs of an entity that is guilty are found among the pending ones of its ring.
use Rattle.std.proofs.Common.{◌≡◌, ℕ, zero, suc, ◌<◌, Bool, true, false, ◌&&◌, ◌||◌, ◌==◌, List, [], ◌∷◌, length, map, set, Some, None, Option, refl, sym, ap, subst, ◌∙◌, inl, inr, slice_get}
use Rattle.std.specs.Prelude.{Contains}
use Rattle.std.specs.List.{list_any}
use Rattle.std.specs.Option.{option_map_or}
use Rattle.std.proofs.lemmas.Bool.{cases_eq, ne_eqb, eq-eqb, eqb-true, and_parts, and_from, or_left, or_right}
use Rattle.std.proofs.lemmas.List.{length-map}
use Rattle.std.proofs.lemmas.Option.{slice_get_within}
use Rattle.drm_lists.proofs.Searches.{any_at}
use Rattle.drm_lists.proofs.Places.{stands_within, contains_at, place_of, to_map, list_ext}
use Rattle.drm_lists.proofs.Changed.{get_set_same, get_set_other}
use Rattle.drm_fence.specs.Phases.{is_scheduled}
use Rattle.drm_fence.specs.declared.phase.Phase.{Phase}
use Rattle.drm_fence.specs.declared.phase.Phase.TheVariants.{Queued, Scheduled, Ended}
use Rattle.drm_state.specs.declared.journal.JobRecord.{JobRecord}
use Rattle.drm_state.specs.Journal.{changed_at}
use Rattle.drm_state.specs.Lawful.{IsPendingList}
use Rattle.drm_state.specs.Outcomes.{condemned}
use Rattle.drm_state.specs.Recovery.{skipped_of, all_skipped}
use Rattle.drm_state.proofs.Records.{changed_is}
use Rattle.drm_state.proofs.DeviceSteps.{changed_count}
use Rattle.drm_state.proofs.LatestStands.{same_test}

-- a record whose mark is set where this holds
abbrev marked : Bool → JobRecord → JobRecord
marked b r = record r { is_skipped = b || r.is_skipped }

pub skipped_count : (entity : ℕ) (journal : List JobRecord) (numbers : List ℕ) → length (all_skipped entity journal numbers) ≡ length journal
skipped_count entity journal [] = refl
skipped_count entity journal (f ∷ numbers) = skipped_count entity (changed_at journal f (skipped_of entity)) numbers ∙ changed_count journal f (skipped_of entity)

-- what stands at a number after one record was marked
marked_at : (entity : ℕ) (journal : List JobRecord) (f k : ℕ) (r : JobRecord) → slice_get journal k ≡ Some r
    → slice_get (changed_at journal f (skipped_of entity)) k ≡ Some (marked ((f == k) && (r.job.entity == entity)) r)
marked_at entity journal f k r at =
    elim (cases_eq k f) [
      | inl same ↦
          let there : slice_get journal f ≡ Some r = subst (λ n. slice_get journal n ≡ Some r) same at in
          ap (λ js. slice_get js k) (changed_is journal f r (skipped_of entity) there)
          ∙ (ap (slice_get (set journal f (skipped_of entity r))) same
          ∙ (get_set_same journal f r (skipped_of entity r) there ∙ ap (λ b. Some (marked (b && (r.job.entity == entity)) r)) (sym (eq-eqb f k (sym same)))))
      | inr apart ↦
          let other : (f == k) ≡ false = ne_eqb f k (λ e. apart (sym e)) in
          by_record (slice_get journal f) apart ∙ (at ∙ ap (λ b. Some (marked (b && (r.job.entity == entity)) r)) (sym other))
    ]
  where
    by_record : (o : Option JobRecord) → ((k ≡ f) → ⊥) → slice_get (option_map_or (λ r. set journal f (skipped_of entity r)) o journal) k ≡ slice_get journal k
    by_record None apart = refl
    by_record (Some x) apart = get_set_other journal f k (skipped_of entity x) apart

-- and after all were
all_marked_at : (entity : ℕ) (numbers : List ℕ) (journal : List JobRecord) (k : ℕ) (r : JobRecord) → slice_get journal k ≡ Some r
    → slice_get (all_skipped entity journal numbers) k ≡ Some (marked (list_any (λ f. f == k) numbers && (r.job.entity == entity)) r)
all_marked_at entity [] journal k r at = at
all_marked_at entity (f ∷ numbers) journal k r at =
    all_marked_at entity numbers (changed_at journal f (skipped_of entity)) k (marked ((f == k) && (r.job.entity == entity)) r) (marked_at entity journal f k r at)
    ∙ ap (λ b. let x : JobRecord = record r { is_skipped = b } in Some x) (both (f == k) (list_any (λ f. f == k) numbers) (r.job.entity == entity) r.is_skipped)
  where
    both : (a b e s : Bool) → ((b && e) || ((a && e) || s)) ≡ (((a || b) && e) || s)
    both true true true s = refl
    both true true false s = refl
    both true false true s = refl
    both true false false s = refl
    both false true true s = refl
    both false true false s = refl
    both false false true s = refl
    both false false false s = refl

-- the entity's pending jobs are those that a guilty entity's ring skips
pub condemned_among : (journal : List JobRecord) (ring entity : ℕ) (pending : List ℕ) → IsPendingList journal ring pending
    → all_skipped entity journal pending ≡ map (condemned ring entity) journal
condemned_among journal ring entity pending lists =
    list_ext (all_skipped entity journal pending) (map (condemned ring entity) journal)
    (skipped_count entity journal pending ∙ sym (length-map journal (condemned ring entity))) each
  where
    is_pending : (k : ℕ) (r : JobRecord) → slice_get journal k ≡ Some r → list_any (λ f. f == k) pending ≡ (is_scheduled r.phase && (r.ring == ring))
    is_pending k r at =
        same_test (list_any (λ f. f == k) pending) (is_scheduled r.phase && (r.ring == ring))
        (λ some.
        let place = any_at (λ f. f == k) pending some in
        let number : place.1 ≡ k = eqb-true place.1 k place.3 in
        let x = (lists k).0 (subst (λ n. Contains pending n) number (contains_at pending place.0 place.1 place.2)) in
        let same : x.0 ≡ r = cc (x.1, at) in
        and_from (is_scheduled r.phase) (r.ring == ring)
        (ap (λ (z : JobRecord). is_scheduled z.phase) (sym same) ∙ ap is_scheduled x.2)
        (eq-eqb r.ring ring (ap (λ (z : JobRecord). z.ring) (sym same) ∙ x.3)))
        (λ both.
        let parts = and_parts (is_scheduled r.phase) (r.ring == ring) both in
        let place = place_of pending k ((lists k).1 (r, at, scheduled_is r.phase parts.0, eqb-true r.ring ring parts.1)) in
        found (λ f. f == k) pending place.0 k place.1 (eq-eqb k k refl))
      where
        scheduled_is : (p : Phase) → is_scheduled p ≡ true → p ≡ Scheduled
        scheduled_is Queued is = absurd (let never : false ≡ true = is in cc (never))
        scheduled_is Scheduled is = refl
        scheduled_is (Ended o) is = absurd (let never : false ≡ true = is in cc (never))

        found : (p : ℕ → Bool) (xs : List ℕ) (i x : ℕ) → slice_get xs i ≡ Some x → p x ≡ true → list_any p xs ≡ true
        found p [] i x at is = absurd (cc (at))
        found p (y ∷ ys) zero x at is = let same : y ≡ x = cc (at) in or_left (p y) (list_any p ys) (ap p same ∙ is)
        found p (y ∷ ys) (suc i) x at is = or_right (p y) (list_any p ys) (found p ys i x at is)

    regroup : (a b e : Bool) → ((a && b) && e) ≡ (a && b && e)
    regroup true b e = refl
    regroup false b e = refl

    each : (k : ℕ) (x : JobRecord) → slice_get (all_skipped entity journal pending) k ≡ Some x → slice_get (map (condemned ring entity) journal) k ≡ Some x
    each k x at =
        let lt : k < length journal = subst (λ n. k < n) (skipped_count entity journal pending) (slice_get_within (all_skipped entity journal pending) k x at) in
        let old = stands_within journal k lt in
        let new = all_marked_at entity pending journal k old.0 old.1 in
        let mark = ap (λ b. b && (old.0.job.entity == entity)) (is_pending k old.0 old.1) in
        to_map (condemned ring entity) journal k old.0 old.1
        ∙ (ap (λ b. let z : JobRecord = record old.0 { is_skipped = b || old.0.is_skipped } in Some z) (sym mark) ∙ (sym new ∙ at))
