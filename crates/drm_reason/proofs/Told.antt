-- What stands in a device is told as the reason.
use Rattle.std.proofs.Common.{◌≡◌, ℕ, ◌<◌, Bool, true, false, cond, Some, None, Option, refl, sym, ap, subst, ◌∙◌, inl, inr, arith, length, slice_get}
use Rattle.std.specs.Prelude.{option_map, unwrap_or}
use Rattle.std.specs.Option.{option_map_or}
use Rattle.std.proofs.lemmas.Bool.{eq-eqb, le-ltb, lt-ltb, ne_eqb}
use Rattle.drm_fence.specs.declared.phase.Phase.{Phase}
use Rattle.drm_fence.specs.declared.phase.Phase.TheVariants.{Queued, Scheduled, Ended}
use Rattle.drm_fence.specs.Phases.{is_queued}
use Rattle.drm_state.specs.declared.journal.JobRecord.{JobRecord}
use Rattle.drm_state.specs.State.{DeviceState}
use Rattle.drm_state.specs.Journal.{is_complete}
use Rattle.drm_state.specs.Choice.{choice}
use Rattle.drm_state.specs.Chosen.{ChoiceIsLeast, GoesBefore, IsFirstQueued, IsLeast, MayBegin, rank_at}
use Rattle.drm_state.specs.Lawful.{IsLawfulDevice}
use Rattle.drm_state.specs.Order.{is_ready}
use Rattle.drm_state.specs.Ring.{credits_of, current_of, free_credits, head_of, is_stopped, pending_of}
use Rattle.drm_state.specs.Steady.{IsSteady}
use Rattle.drm_lists.proofs.Searches.{find_first}
use Rattle.drm_lists.proofs.Places.{contains_at}
use Rattle.drm_state.proofs.RanLawful.{IsCurrent, current_is, is_going}
use Rattle.drm_state.proofs.RingChange.{first_is}
use Rattle.drm_reason.specs.declared.reason.How.{How}
use Rattle.drm_reason.specs.declared.reason.Reason.{Reason}
use Rattle.drm_reason.specs.declared.reason.Reason.TheVariants as reason
use Rattle.drm_reason.specs.Reasons.{fit_reason, front_reason, head_reason, least_going, line_reason, packet_reason, phase_reason, queue_head, ready_reason, reason_of, stalls, turn_reason, unmet_reason}
use Rattle.drm_reason.specs.Standing.{HasReason, IsBehindQueueHead, IsBehindRingHead, IsCurrentAt, IsDone, IsInLine, IsNext, IsOfStopped, IsPendingBehind, LacksCredits, WaitsForFence}
use Rattle.drm_reason.proofs.Finds.{queue_begins}
use Rattle.drm_reason.proofs.There.{pending_there}
use Rattle.drm_reason.proofs.Unmet.{going_is, none_where_ready, unmet_is}

pub queued_from : (p : Phase) → is_queued p ≡ true → p ≡ Queued
queued_from Queued is = refl
queued_from Scheduled is = absurd (let never : false ≡ true = is in cc (never))
queued_from (Ended o) is = absurd (let never : false ≡ true = is in cc (never))

module _ (d : DeviceState) (n : ℕ) where
  -- ---- step by step

  pub none_told : slice_get d.journal n ≡ None → reason_of d n ≡ reason.NotArmed
  unfolding reason_of
  none_told none = ap (λ o. option_map_or (λ (q : JobRecord). phase_reason d n q q.phase) o reason.NotArmed) none

  pub armed_told : (job : JobRecord) (p : Phase) → slice_get d.journal n ≡ Some job → job.phase ≡ p → reason_of d n ≡ phase_reason d n job p
  unfolding reason_of
  armed_told job p at is =
      ap (λ o. option_map_or (λ (q : JobRecord). phase_reason d n q q.phase) o reason.NotArmed) at ∙ ap (phase_reason d n job) is

  line_told : (job : JobRecord) (h : ℕ) → IsInLine d n job → queue_head d job.job.entity ≡ Some h → reason_of d n ≡ line_reason d n job h
  line_told job h line head =
      armed_told job Queued line.at (queued_from job.phase line.queued)
      ∙ (ap (λ b. cond b (reason.Stopped (least_going d.journal n job)) (line_reason d n job (unwrap_or (queue_head d job.job.entity) n))) line.active
      ∙ ap (λ o. line_reason d n job (unwrap_or o n)) head)

  head_told : (job : JobRecord) → IsInLine d n job → IsFirstQueued d.journal job.job.entity n job → reason_of d n ≡ head_reason d n job
  head_told job line first =
      line_told job n line (ap (option_map (λ (m : ℕ × JobRecord). m.0)) (queue_begins d.journal job.job.entity n job first))
      ∙ ap (λ b. cond b (head_reason d n job) (reason.BehindQueueHead n)) (eq-eqb n n refl)

  ready_told : (ring entity : ℕ) → MayBegin d ring entity n → reason_of d n ≡ ready_reason d ring n
  ready_told ring entity may =
      head_told may.head line first
      ∙ (ap (λ o. option_map_or (unmet_reason may.head) o (ready_reason d may.head.ring n)) (none_where_ready d.journal n may.head may.ready)
      ∙ ap (λ k. ready_reason d k n) may.on_ring)
    where
      line : IsInLine d n may.head
      line = record {
        at = may.first.at;
        queued = may.first.queued;
        active = subst (λ e. is_stopped d e ≡ false) (sym may.first.of_entity) may.active;
      }

      first : IsFirstQueued d.journal may.head.job.entity n may.head
      first = subst (λ e. IsFirstQueued d.journal e n may.head) (sym may.first.of_entity) may.first

  turn_told : (ring entity g : ℕ) → MayBegin d ring entity n → choice d ring ≡ Some g → reason_of d n ≡ turn_reason d ring n g
  turn_told ring entity g may is = ready_told ring entity may ∙ ap (λ o. turn_reason d ring n (unwrap_or o n)) is

  next_told : ChoiceIsLeast → IsSteady d → (ring : ℕ) → IsLeast d ring n → reason_of d n ≡ fit_reason d ring n
  next_told choices steady ring least =
      turn_told ring least.entity n least.may (((choices d ring steady).some n).1 least)
      ∙ ap (λ b. cond b (fit_reason d ring n) (reason.BehindRingHead ring n)) (eq-eqb n n refl)

  -- so of a job that its ring takes next: it is the first in its queue, and waits for no fence
  pub chosen_told : ChoiceIsLeast → IsSteady d → (job : JobRecord) → slice_get d.journal n ≡ Some job → choice d job.ring ≡ Some n
      → head_reason d n job ≡ fit_reason d job.ring n
  chosen_told choices steady job at is =
      let least = ((choices d job.ring steady).some n).0 is in
      let same : least.may.head ≡ job = cc (least.may.first.at, at) in
      let ready = subst (λ (q : JobRecord). is_ready d.journal n q ≡ true) same least.may.ready in
      ap (λ o. option_map_or (unmet_reason job) o (ready_reason d job.ring n)) (none_where_ready d.journal n job ready)
      ∙ (ap (λ o. turn_reason d job.ring n (unwrap_or o n)) is
      ∙ ap (λ b. cond b (fit_reason d job.ring n) (reason.BehindRingHead job.ring n)) (eq-eqb n n refl))

  pending_told : (job : JobRecord) (b : Bool) → slice_get d.journal n ≡ Some job → job.phase ≡ Scheduled → is_complete job ≡ b
      → reason_of d n
      ≡ cond b (front_reason job.ring n (head_of d job.ring) (reason.Complete job.ring)) (front_reason job.ring n (current_of d job.ring) (packet_reason job))
  pending_told job b at scheduled is =
      armed_told job Scheduled at scheduled
      ∙ ap (λ c. cond c (front_reason job.ring n (head_of d job.ring) (reason.Complete job.ring)) (front_reason job.ring n (current_of d job.ring) (packet_reason job))) is

  -- ---- queued

  pub behind_queue_told : (h : ℕ) → IsBehindQueueHead d n h → reason_of d n ≡ reason.BehindQueueHead h
  behind_queue_told h is =
      line_told is.job h is.line (ap (option_map (λ (m : ℕ × JobRecord). m.0)) (queue_begins d.journal is.job.job.entity h is.ahead is.first))
      ∙ ap (λ b. cond b (head_reason d n is.job) (reason.BehindQueueHead h)) (ne_eqb h n (λ same. omega (arith, same, is.earlier)))

  pub waits_told : (f : ℕ) (how : How) (ring : ℕ) (queued : Bool) → WaitsForFence d n f how ring queued → reason_of d n ≡ reason.Waits f how ring queued
  waits_told f how ring queued is =
      head_told is.job is.line is.first
      ∙ (ap (λ o. option_map_or (unmet_reason is.job) o (ready_reason d is.job.ring n))
      (unmet_is d.journal n is.job f is.earlier (record { unmet = is.unmet; least = is.least }))
      ∙ (ap (λ h. reason.Waits f h is.earlier.ring (is_queued is.earlier.phase)) (sym is.held)
      ∙ (ap (λ k. reason.Waits f how k (is_queued is.earlier.phase)) (sym is.place) ∙ ap (λ q. reason.Waits f how ring q) (sym is.phase))))

  -- of two jobs one goes before the other, and none before itself
  before_itself : (e g f : ℕ) → e ≡ g → GoesBefore d e f g f → ⊥
  before_itself e g f same (inl higher) = let rank = ap (rank_at d) same in omega (arith, higher, rank)
  before_itself e g f same (inr alike) = omega (arith, alike.1)

  pub behind_ring_told : ChoiceIsLeast → IsSteady d → (ring head : ℕ) → IsBehindRingHead d n ring head → reason_of d n ≡ reason.BehindRingHead ring head
  behind_ring_told choices steady ring head is =
      turn_told ring is.entity head is.may (((choices d ring steady).some head).1 is.ahead)
      ∙ ap (λ b. cond b (fit_reason d ring n) (reason.BehindRingHead ring head)) (ne_eqb head n apart)
    where
      apart : head ≡ n → ⊥
      apart same =
          let there : slice_get d.journal n ≡ Some is.ahead.may.head = subst (λ k. slice_get d.journal k ≡ Some is.ahead.may.head) same is.ahead.may.first.at in
          let one : is.ahead.may.head ≡ is.may.head = cc (there, is.may.first.at) in
          let entities : is.ahead.entity ≡ is.entity =
          sym is.ahead.may.first.of_entity ∙ (ap (λ (q : JobRecord). q.job.entity) one ∙ is.may.first.of_entity) in
          before_itself is.ahead.entity is.entity n entities (subst (λ k. GoesBefore d is.ahead.entity k is.entity n) same is.before)

  pub lacks_told : ChoiceIsLeast → IsSteady d → (ring need free : ℕ) → LacksCredits d n ring need free → reason_of d n ≡ reason.NoCredits ring need free
  lacks_told choices steady ring need free is =
      next_told choices steady ring is.next
      ∙ (ap (λ b. cond b (reason.NoCredits ring (credits_of d ring n) (free_credits d ring)) (reason.Next ring))
      (lt-ltb (free_credits d ring) (credits_of d ring n) (subst (λ k. k < credits_of d ring n) is.left (subst (λ k. free < k) is.counts is.short)))
      ∙ (ap (λ k. reason.NoCredits ring k (free_credits d ring)) (sym is.counts) ∙ ap (λ k. reason.NoCredits ring need k) (sym is.left)))

  pub fits_told : ChoiceIsLeast → IsSteady d → (ring : ℕ) → IsNext d n ring → reason_of d n ≡ reason.Next ring
  fits_told choices steady ring is =
      next_told choices steady ring is.next
      ∙ ap (λ b. cond b (reason.NoCredits ring (credits_of d ring n) (free_credits d ring)) (reason.Next ring))
      (le-ltb (free_credits d ring) (credits_of d ring n) is.fits)

  pub stopped_told : (behind : Option ℕ) → IsOfStopped d n behind → reason_of d n ≡ reason.Stopped behind
  stopped_told behind is =
      armed_told is.job Queued is.at (queued_from is.job.phase is.queued)
      ∙ (ap (λ b. cond b (reason.Stopped (least_going d.journal n is.job)) (line_reason d n is.job (unwrap_or (queue_head d is.job.job.entity) n))) is.stopped
      ∙ ap (λ o. reason.Stopped o) (going_is d.journal n is.job behind is.least))

  -- ---- pending

  pub behind_front_told : IsLawfulDevice d → (ring front : ℕ) → IsPendingBehind d n ring front → reason_of d n ≡ reason.Pending ring front
  behind_front_told lawful ring front is = by_complete (is_complete is.job) refl is.leads
    where
      apart : front ≡ n → ⊥
      apart same =
          let here = pending_there d ring is.place front lawful is.stands in
          let places : is.place ≡ is.later =
          (lawful.rings ring here).once is.place is.later front is.stands (subst (λ k. slice_get (pending_of d ring) is.later ≡ Some k) (sym same) is.waits) in
          omega (arith, places, is.order)

      told : (o : Option ℕ) (itself : Reason) → o ≡ Some front → front_reason is.job.ring n o itself ≡ reason.Pending ring front
      told o itself some =
          ap (λ f. front_reason is.job.ring n f itself) some
          ∙ (ap (λ b. cond b itself (reason.Pending is.job.ring front)) (ne_eqb front n apart) ∙ ap (λ k. reason.Pending k front) is.on_ring)

      by_complete : (b : Bool) → is_complete is.job ≡ b → cond b (head_of d ring) (current_of d ring) ≡ Some front → reason_of d n ≡ reason.Pending ring front
      by_complete true complete leads =
          pending_told is.job true is.at is.scheduled complete
          ∙ told (head_of d is.job.ring) (reason.Complete is.job.ring) (ap (head_of d) is.on_ring ∙ leads)
      by_complete false left leads =
          pending_told is.job false is.at is.scheduled left
          ∙ told (current_of d is.job.ring) (packet_reason is.job) (ap (current_of d) is.on_ring ∙ leads)

  -- the job that the ring runs has the reason of its packet
  current_told : IsLawfulDevice d → (ring packet : ℕ) (job : JobRecord) → IsCurrentAt d n ring packet job → (reason_of d n ≡ packet_reason job) × (job.ring ≡ ring)
  current_told lawful ring packet job is = (told, on_ring)
    where
      here : ring < length d.spec.rings
      here = let found = find_first (is_going d.journal) (pending_of d ring) n is.current in pending_there d ring found.0 n lawful found.1

      now : (r : JobRecord) × IsCurrent d ring n r
      now = current_is d ring n lawful here is.current

      same : now.0 ≡ job
      same = cc (now.1.at, is.at)

      on_ring : job.ring ≡ ring
      on_ring = ap (λ (q : JobRecord). q.ring) (sym same) ∙ now.1.on_ring

      told : reason_of d n ≡ packet_reason job
      told =
          pending_told job false is.at (ap (λ (q : JobRecord). q.phase) (sym same) ∙ now.1.phase) (ap is_complete (sym same) ∙ now.1.going)
          ∙ (ap (λ o. front_reason job.ring n o (packet_reason job)) (ap (current_of d) on_ring ∙ is.current)
          ∙ ap (λ b. cond b (packet_reason job) (reason.Pending job.ring n)) (eq-eqb n n refl))

  pub runs_told : IsLawfulDevice d → (ring packet : ℕ) (job : JobRecord) → IsCurrentAt d n ring packet job → stalls job ≡ false
      → reason_of d n ≡ reason.Runs ring packet
  runs_told lawful ring packet job is free =
      let told = current_told lawful ring packet job is in
      told.0
      ∙ (ap (λ b. cond b (reason.Stalls job.ring job.ran) (reason.Runs job.ring job.ran)) free
      ∙ (ap (λ k. reason.Runs k job.ran) told.1 ∙ ap (λ k. reason.Runs ring k) (sym is.ran)))

  pub stalls_told : IsLawfulDevice d → (ring packet : ℕ) (job : JobRecord) → IsCurrentAt d n ring packet job → stalls job ≡ true
      → reason_of d n ≡ reason.Stalls ring packet
  stalls_told lawful ring packet job is waits =
      let told = current_told lawful ring packet job is in
      told.0
      ∙ (ap (λ b. cond b (reason.Stalls job.ring job.ran) (reason.Runs job.ring job.ran)) waits
      ∙ (ap (λ k. reason.Stalls k job.ran) told.1 ∙ ap (λ k. reason.Stalls ring k) (sym is.ran)))

  pub done_told : IsLawfulDevice d → (ring : ℕ) → IsDone d n ring → reason_of d n ≡ reason.Complete ring
  done_told lawful ring is =
      pending_told is.job true is.at scheduled is.complete
      ∙ (ap (λ k. front_reason k n (head_of d k) (reason.Complete k)) on_ring
      ∙ (ap (λ o. front_reason ring n o (reason.Complete ring)) is.head
      ∙ ap (λ b. cond b (reason.Complete ring) (reason.Pending ring n)) (eq-eqb n n refl)))
    where
      first : slice_get (pending_of d ring) 0 ≡ Some n
      first = let split = first_is (pending_of d ring) n is.head in ap (λ xs. slice_get xs 0) split.1

      pends : (r : JobRecord) × (slice_get d.journal n ≡ Some r) × (r.phase ≡ Scheduled) × (r.ring ≡ ring)
      pends = ((lawful.rings ring (pending_there d ring 0 n lawful first)).pending n).0 (contains_at (pending_of d ring) 0 n first)

      same : pends.0 ≡ is.job
      same = cc (pends.1, is.at)

      scheduled : is.job.phase ≡ Scheduled
      scheduled = ap (λ (q : JobRecord). q.phase) (sym same) ∙ pends.2

      on_ring : is.job.ring ≡ ring
      on_ring = ap (λ (q : JobRecord). q.ring) (sym same) ∙ pends.3

-- whatever stands in a device is told
pub has_is_told : ChoiceIsLeast → (d : DeviceState) (n : ℕ) (told : Reason) → IsSteady d → HasReason d n told → reason_of d n ≡ told
has_is_told choices d n reason.NotArmed steady is = none_told d n is
has_is_told choices d n (reason.BehindQueueHead head) steady is = behind_queue_told d n head is
has_is_told choices d n (reason.Waits fence how ring queued) steady is = waits_told d n fence how ring queued is
has_is_told choices d n (reason.BehindRingHead ring head) steady is = behind_ring_told d n choices steady ring head is
has_is_told choices d n (reason.NoCredits ring need free) steady is = lacks_told d n choices steady ring need free is
has_is_told choices d n (reason.Next ring) steady is = fits_told d n choices steady ring is
has_is_told choices d n (reason.Stopped behind) steady is = stopped_told d n behind is
has_is_told choices d n (reason.Pending ring front) steady is = behind_front_told d n steady.lawful ring front is
has_is_told choices d n (reason.Runs ring packet) steady is = runs_told d n steady.lawful ring packet is.0 is.1 is.2
has_is_told choices d n (reason.Stalls ring packet) steady is = stalls_told d n steady.lawful ring packet is.0 is.1 is.2
has_is_told choices d n (reason.Complete ring) steady is = done_told d n steady.lawful ring is
has_is_told choices d n (reason.Ended outcome) steady is = armed_told d n is.0 (Ended outcome) is.1 is.2
