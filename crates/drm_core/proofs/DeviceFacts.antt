-- What is known of a device and of one that it grew to.
use Rattle.std.proofs.Common.{◌≡◌, ℕ, zero, suc, List, [], ◌∷◌, map, refl, ap, ◌∙◌, set, length, Some, None, slice_get, sym, subst, true, arith, Bool, not, ◌<◌, false, get_or}
use Rattle.drm_fence.specs.declared.timeline.FenceState.{FenceState}
use Rattle.drm_fence.specs.Fences.{has_ended_at}
use Rattle.drm_state.specs.declared.journal.JobRecord.{JobRecord}
use Rattle.drm_state.specs.Reservation.{is_signaled}
use Rattle.drm_state.specs.Records.{fence_state_of}
use Rattle.drm_state.specs.declared.answer.Answer.{Answer}
use Rattle.drm_state.specs.State.{DeviceState, EntityState}
use Rattle.std.specs.Option.{option_map_or}
use Rattle.std.proofs.lemmas.List.{length-set}
use Rattle.drm_state.specs.Journal.{changed_at, is_at, is_complete}
use Rattle.drm_state.specs.Outcomes.{at_record}
use Rattle.std.proofs.lemmas.Bool.{not-true}
use Rattle.drm_fence.specs.declared.phase.Phase.{Phase}
use Rattle.drm_fence.specs.declared.phase.Phase.TheVariants.{Queued, Scheduled, Ended}
use Rattle.drm_state.specs.Grows.{GoesOn, RecordGrows, EntityGrows, EachInPlace, Grows}
use Rattle.drm_state.specs.Ring.{pending_of, current_of}
use Rattle.drm_state.specs.Lawful.{IsLawfulDevice}
use Rattle.std.proofs.lemmas.Option.{slice_get_within, slice_get-get_or}
use Rattle.drm_fence.specs.Phases.{has_ended}
use Rattle.drm_lists.proofs.Places.{contains_at}
use Rattle.drm_lists.proofs.Searches.{find_first}
use Rattle.drm_core.proofs.Lists.{at_test}

-- whether a fence has an outcome, by the timeline and by the journal
pub ended_alike : (js : List JobRecord) (fs : List FenceState) → fs ≡ map fence_state_of js → has_ended_at fs ≡ is_signaled js
ended_alike js fs tie = ap has_ended_at tie ∙ (λ i f. by_map js f i)
  where
    by_map : (js : List JobRecord) (f : ℕ) → has_ended_at (map fence_state_of js) f ≡ is_signaled js f
    by_map [] f = refl
    by_map (r ∷ js) zero = refl
    by_map (r ∷ js) (suc f) = by_map js f

-- a change of one record keeps their number
pub changed_count : (journal : List JobRecord) (f : ℕ) (change : JobRecord → JobRecord) → length (changed_at journal f change) ≡ length journal
changed_count journal f change =
    elim (slice_get journal f) as (λ o. length (option_map_or (λ r. set journal f (change r)) o journal) ≡ length journal) [
      | None ↦ refl
      | Some r ↦ length-set journal f (change r)
    ]

-- what is done at a record that is there
pub at_record_is : (P : Answer × DeviceState → Type 0) (d : DeviceState) (F : ℕ → JobRecord → Answer × DeviceState) (none : Answer × DeviceState) (f : ℕ) (r : JobRecord)
    → slice_get d.journal f ≡ Some r → P (F f r) → P (at_record d F none (Some f))
at_record_is P d F none f r at holds = subst (λ o. P (option_map_or (F f) o none)) (sym at) holds

pub goes_on_itself : (phase : Phase) → GoesOn phase phase
goes_on_itself Queued = tt
goes_on_itself Scheduled = tt
goes_on_itself (Ended o) = refl

pub record_grows_itself : (r : JobRecord) → RecordGrows r r
record_grows_itself r = record {
  job = refl;
  ring = refl;
  phase = goes_on_itself r.phase;
  ran = omega arith;
  resets = omega arith;
  karma = omega arith;
  skipped = λ s. s;
  kept = λ k. refl;
}

pub entity_grows_itself : (e : EntityState) → EntityGrows e e
entity_grows_itself e = record { stopped = λ s. s; guilty = λ g. g }

pub each_itself : {X : Type 0} (R : X → X → Type 0) (xs : List X) → ((z : X) → R z z) → EachInPlace R xs xs
each_itself R xs same i old is = (old, is, same old)

pub grows_itself : (d : DeviceState) → Grows d d
grows_itself d = record {
  spec = refl;
  journal = each_itself RecordGrows d.journal record_grows_itself;
  entities = each_itself EntityGrows d.entities entity_grows_itself;
}

-- whether a pending job is not complete
abbrev pub is_going : List JobRecord → ℕ → Bool
is_going journal f = is_at journal f (λ r. not (is_complete r))

-- the ring runs this record, which stands at this place, and all before it are complete
pub record IsCurrent (d : DeviceState) (ring f : ℕ) (r : JobRecord) : Type 0 where
  pub at : slice_get d.journal f ≡ Some r
  pub phase : r.phase ≡ Scheduled
  pub on_ring : r.ring ≡ ring
  pub going : is_complete r ≡ false
  pub place : ℕ
  pub stands : slice_get (pending_of d ring) place ≡ Some f
  pub before : (a g : ℕ) → a < place → slice_get (pending_of d ring) a ≡ Some g → is_going d.journal g ≡ false

pub current_is : (d : DeviceState) (ring f : ℕ) → IsLawfulDevice d → ring < length d.spec.rings → current_of d ring ≡ Some f
    → (r : JobRecord) × IsCurrent d ring f r
current_is d ring f law here some =
    let found = find_first (is_going d.journal) (pending_of d ring) f some in
    let r = ((law.rings ring here).pending f).0 (contains_at (pending_of d ring) found.0 f found.1) in (
      r.0,
      record {
        at = r.1;
        phase = r.2;
        on_ring = r.3;
        going = not-true (is_complete r.0) (sym (at_test d.journal f r.0 (λ r. not (is_complete r)) r.1) ∙ found.2);
        place = found.0;
        stands = found.1;
        before = found.3;
      },
    )

-- what stands in the new journal stood in the old one
pub grew_from : (old new : List JobRecord) (i : ℕ) (x : JobRecord) → EachInPlace RecordGrows old new → length new ≡ length old → slice_get new i ≡ Some x
    → (o : JobRecord) × (slice_get old i ≡ Some o) × RecordGrows o x
grew_from old new i x grows count at =
    let lt : i < length old = subst (λ n. i < n) count (slice_get_within new i x at) in
    let at_old = slice_get-get_or old i x lt in
    let there = grows i (get_or old i x) at_old in
    let same : there.0 ≡ x = cc (there.1, at) in
    (get_or old i x, at_old, subst (RecordGrows (get_or old i x)) same there.2)

-- a phase that has not ended had not
pub had_not_ended : (old new : Phase) → GoesOn old new → has_ended new ≡ false → has_ended old ≡ false
had_not_ended Queued new goes is = refl
had_not_ended Scheduled new goes is = refl
had_not_ended (Ended o) new goes is = let never : true ≡ false = sym (ap has_ended goes) ∙ is in absurd (cc (never))
