-- The head of a ring goes on: it ends, runs a packet, or hangs.
use Rattle.std.proofs.Common.{◌≡◌, ℕ, ◌<◌, ◌≤◌, Bool, true, false, not, cond, ◌||◌, List, [], ◌∷◌, Some, None, refl, sym, ap, subst, ◌∙◌, inl, inr, ◌⊎◌, arith, length, slice_get}
use Rattle.std.specs.Prelude.{IsTrue, nat_lt, nat_le, is_none, find}
use Rattle.std.specs.Option.{option_map_or}
use Rattle.std.proofs.lemmas.Bool.{cases_Bool, and_from, lt-ltb, ltb-true}
use Rattle.drm_lists.proofs.Places.{stands_within}
use Rattle.drm_types.specs.Firsts.{when, first}
use Rattle.drm_packet.specs.declared.Packet.{Packet}
use Rattle.drm_packet.specs.declared.Packet.TheVariants.{Fill, Copy, Add, Stall}
use Rattle.drm_fence.specs.declared.phase.Phase.TheVariants.{Scheduled}
use Rattle.drm_state.specs.declared.journal.JobRecord.{JobRecord}
use Rattle.drm_state.specs.declared.answer.Answer.{Answer}
use Rattle.drm_state.specs.declared.answer.Answer.TheVariants as answer
use Rattle.drm_state.specs.declared.answer.Refusal.TheVariants.{Idle, NotComplete}
use Rattle.drm_state.specs.State.{DeviceState}
use Rattle.drm_state.specs.Journal.{is_at, is_complete}
use Rattle.drm_state.specs.Lawful.{IsLawfulDevice}
use Rattle.drm_state.specs.Ring.{head_of, pending_of, current_of}
use Rattle.drm_state.specs.Refusals.{finish_refusal}
use Rattle.drm_state.specs.Outcomes.{at_record, must_stall, ran_device, step_outcome, stepped_by}
use Rattle.drm_progress.specs.Going.{Going, may_come, runs_packet, waits_for_reset, is_late, AskFewResets, FindsAllLate}
use Rattle.drm_progress.proofs.Lists.{first_contained, or_true}

-- the record of the head
pub record IsHead (d : DeviceState) (ring head : ℕ) (r : JobRecord) : Type 0 where
  pub leads : head_of d ring ≡ Some head
  pub at : slice_get d.journal head ≡ Some r
  pub phase : r.phase ≡ Scheduled

pub head_there : (d : DeviceState) (ring head : ℕ) → IsLawfulDevice d → ring < length d.spec.rings → head_of d ring ≡ Some head
    → (r : JobRecord) × IsHead d ring head r
head_there d ring head lawful here is =
    let (r, at, phase, on) = ((lawful.rings ring here).pending head).0 (first_contained (pending_of d ring) head is) in
    (r, record { leads = is; at = at; phase = phase })

-- what is not complete has a packet to run
packet_left : (r : JobRecord) → is_complete r ≡ false → (p : Packet) × (slice_get r.job.packets r.ran ≡ Some p)
packet_left r incomplete = stands_within r.job.packets r.ran (by_size (cases_Bool (nat_le (length r.job.packets) r.ran)))
  where
    by_size : (nat_le (length r.job.packets) r.ran ≡ true) ⊎ (nat_le (length r.job.packets) r.ran ≡ false) → r.ran < length r.job.packets
    by_size (inl all) = absurd (let never : true ≡ false = sym (or_true r.is_skipped) ∙ sym (ap (λ b. r.is_skipped || b) all) ∙ incomplete in cc (never))
    by_size (inr some) = grind (arith, some)

-- a packet that stalls asks for more resets than its job has had
pub stalls_below : (p : Packet) (resets most : ℕ) → must_stall p resets ≡ true → ((k : ℕ) → p ≡ Stall k → k ≤ most) → resets < most
stalls_below (Fill buffer offset len byte) resets most stalls few = absurd (cc (stalls))
stalls_below (Copy source source_offset target target_offset len) resets most stalls few = absurd (cc (stalls))
stalls_below (Add source source_offset target target_offset len) resets most stalls few = absurd (cc (stalls))
stalls_below (Stall k) resets most stalls few = omega (arith, ltb-true resets k stalls, few k refl)

module _ (d : DeviceState) (now ring head : ℕ) (r : JobRecord) (is : IsHead d ring head r) (here : ring < length d.spec.rings) where
  there : nat_lt ring (length d.spec.rings) ≡ true
  there = lt-ltb ring (length d.spec.rings) here

  -- a complete head ends
  ends : is_complete r ≡ true → may_come d now (Going.Finish ring) ≡ true
  ends complete = and_from _ _ there (ap is_none free)
    where
      free : finish_refusal d ring ≡ None
      free =
          ap (λ o. option_map_or (λ f. when (not (is_at d.journal f is_complete)) NotComplete) o (Some Idle)) is.leads
          ∙ ap (λ o. when (not (option_map_or is_complete o false)) NotComplete) is.at
          ∙ ap (λ b. when (not b) NotComplete) complete

  -- one that is not complete is what the ring runs
  is_current : is_complete r ≡ false → current_of d ring ≡ Some head
  is_current incomplete = by_pending (pending_of d ring) refl
    where
      passes : is_at d.journal head (λ q. not (is_complete q)) ≡ true
      passes = ap (λ o. option_map_or (λ q. not (is_complete q)) o false) is.at ∙ ap not incomplete

      by_pending : (ps : List ℕ) → pending_of d ring ≡ ps → find (λ f. is_at d.journal f (λ q. not (is_complete q))) (pending_of d ring) ≡ Some head
      by_pending [] none = absurd (let never : None ≡ Some head = sym (ap first none) ∙ is.leads in cc (never))
      by_pending (x ∷ rest) pending =
          let same : x ≡ head = (let it : Some x ≡ Some head = sym (ap first pending) ∙ is.leads in cc (it)) in
          ap (λ ps. find (λ f. is_at d.journal f (λ q. not (is_complete q))) ps) pending
          ∙ ap (λ b. cond b (Some x) (find (λ f. is_at d.journal f (λ q. not (is_complete q))) rest)) (subst (λ y. is_at d.journal y (λ q. not (is_complete q)) ≡ true) (sym same) passes)
          ∙ ap (λ y. Some y) same

  -- its next packet runs, where it does not stall
  runs : (p : Packet) → is_complete r ≡ false → slice_get r.job.packets r.ran ≡ Some p → must_stall p r.karma.resets ≡ false
      → may_come d now (Going.Step ring) ≡ true
  runs p incomplete has free = and_from _ _ there answered
    where
      told : Bool → Answer × DeviceState
      told b = cond b (answer.Stalled head, d) (answer.Ran head (option_map_or (λ q. q.ran) (slice_get d.journal head) 0), ran_device d head p)

      answered : runs_packet (step_outcome d ring).0 ≡ true
      answered =
          ap (λ o. runs_packet (at_record d (λ number q. option_map_or (stepped_by d number) (slice_get q.job.packets q.ran) (answer.Ok, d)) (answer.Ok, d) o).0) (is_current incomplete)
          ∙ ap (λ o. runs_packet (option_map_or (λ q. option_map_or (stepped_by d head) (slice_get q.job.packets q.ran) (answer.Ok, d)) o (answer.Ok, d)).0) is.at
          ∙ ap (λ o. runs_packet (option_map_or (stepped_by d head) o (answer.Ok, d)).0) has
          ∙ ap (λ o. runs_packet (told (option_map_or (λ q. must_stall p q.karma.resets) o false)).0) is.at
          ∙ ap (λ b. runs_packet (told b).0) free

  -- and where it stalls the head hangs, if it is late
  hangs : (p : Packet) → is_complete r ≡ false → slice_get r.job.packets r.ran ≡ Some p → must_stall p r.karma.resets ≡ true → r.karma.resets < 65535
      → is_late d ring now ≡ true → may_come d now (Going.Hang ring) ≡ true
  hangs p incomplete has stalls few late = and_from _ _ (and_from _ _ there late) waits
    where
      next : option_map_or (λ packet. must_stall packet r.karma.resets) (slice_get r.job.packets r.ran) false ≡ true
      next = ap (λ o. option_map_or (λ packet. must_stall packet r.karma.resets) o false) has ∙ stalls

      record_waits : waits_for_reset r ≡ true
      record_waits = and_from _ _ (and_from _ _ (ap not incomplete) (lt-ltb r.karma.resets 65535 few)) next

      waits : option_map_or (λ f. is_at d.journal f waits_for_reset) (head_of d ring) false ≡ true
      waits =
          ap (λ o. option_map_or (λ f. is_at d.journal f waits_for_reset) o false) is.leads
          ∙ (ap (λ o. option_map_or waits_for_reset o false) is.at ∙ record_waits)

  -- so something comes
  goes_on : AskFewResets d.journal → FindsAllLate d now → (going : Going) × IsTrue (may_come d now going)
  goes_on few late = by_complete (is_complete r) refl
    where
      by_stall : (p : Packet) (b : Bool) → must_stall p r.karma.resets ≡ b → is_complete r ≡ false → slice_get r.job.packets r.ran ≡ Some p
          → (going : Going) × IsTrue (may_come d now going)
      by_stall p true stalls incomplete has =
          let below = stalls_below p r.karma.resets 65535 stalls (λ k same. few head r.ran k r is.at (has ∙ ap (λ q. Some q) same)) in
          (Going.Hang ring, hangs p incomplete has stalls below (late ring))
      by_stall p false free incomplete has = (Going.Step ring, runs p incomplete has free)

      by_complete : (b : Bool) → is_complete r ≡ b → (going : Going) × IsTrue (may_come d now going)
      by_complete true complete = (Going.Finish ring, ends complete)
      by_complete false incomplete =
          let (p, has) = packet_left r incomplete in by_stall p (must_stall p r.karma.resets) refl incomplete has

-- a head that is there goes on
pub head_goes_on : (d : DeviceState) (now ring head : ℕ) → IsLawfulDevice d → AskFewResets d.journal → FindsAllLate d now → ring < length d.spec.rings
    → head_of d ring ≡ Some head → (going : Going) × IsTrue (may_come d now going)
head_goes_on d now ring head lawful few late here is =
    let (r, head_is) = head_there d ring head lawful here is in goes_on d now ring head r head_is here few late
