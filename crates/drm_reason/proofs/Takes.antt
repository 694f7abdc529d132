-- Each call of a device takes just the jobs whose reason says so.
use Rattle.std.proofs.Common.{◌≡◌, ℕ, ◌<◌, ◌≤◌, Bool, true, false, not, cond, ◌||◌, ◌==◌, List, [], ◌∷◌, ◌++◌, take, Some, None, Option, refl, sym, ap, subst, ◌∙◌, inl, inr, arith, length, slice_get}
use Rattle.std.specs.Prelude.{filter, is_none, nat_le, nat_lt}
use Rattle.std.specs.List.{list_all}
use Rattle.std.specs.Option.{option_map_or}
use Rattle.std.proofs.lemmas.Bool.{and_from, and_parts, both_ways, cases_Bool, eq-eqb, le-ltb, leb-false, ltb-false, not-false, or_cases, or_left, or_parts, or_right}
use Rattle.drm_types.specs.Firsts.{when, first, first_of}
use Rattle.drm_types.specs.declared.outcome.Outcome.TheVariants as outcome
use Rattle.drm_types.proofs.Firsts.{false_where, none_first}
use Rattle.drm_packet.specs.declared.Packet.{Packet}
use Rattle.drm_fence.specs.declared.phase.Phase.{Phase}
use Rattle.drm_fence.specs.declared.phase.Phase.TheVariants.{Queued, Scheduled, Ended}
use Rattle.drm_fence.specs.Phases.{is_queued, has_ended}
use Rattle.drm_state.specs.declared.answer.Answer.{Answer}
use Rattle.drm_state.specs.declared.answer.Answer.TheVariants as answer
use Rattle.drm_state.specs.declared.answer.Refusal.{Refusal}
use Rattle.drm_state.specs.declared.answer.Refusal.TheVariants.{Idle, NoCredit, NotComplete, Nothing, Waits}
use Rattle.drm_state.specs.declared.journal.JobRecord.{JobRecord}
use Rattle.drm_state.specs.State.{DeviceState}
use Rattle.drm_state.specs.Journal.{is_at, is_complete, numbered}
use Rattle.drm_state.specs.Order.{comes_after, dependencies}
use Rattle.drm_state.specs.Choice.{choice, queue_of}
use Rattle.drm_state.specs.Chosen.{ChoiceIsLeast, IsFirstQueued, IsLeast}
use Rattle.drm_state.specs.Ring.{credits_of, current_of, free_credits, head_of, is_guilty, is_stopped, pending_of}
use Rattle.drm_state.specs.Refusals.{finish_refusal, must_still_wait, pick_refusal, reap_refusal, step_refusal}
use Rattle.drm_state.specs.Outcomes.{at_record, ended_at, final_outcome, finish_outcome, finished_device, must_stall, pick_outcome, picked_device, ran_device, step_outcome, stepped_by}
use Rattle.drm_state.specs.Steady.{IsSteady}
use Rattle.drm_state.proofs.ChoiceIs.{all_of_filter}
use Rattle.drm_lists.proofs.Places.{contains_at, stands_within}
use Rattle.drm_state.proofs.RanLawful.{IsCurrent, current_is}
use Rattle.drm_state.proofs.Records.{at_test}
use Rattle.drm_state.proofs.RingChange.{first_is}
use Rattle.drm_reason.specs.declared.reason.Reason.{Reason}
use Rattle.drm_reason.specs.declared.reason.Reason.TheVariants as reason
use Rattle.drm_reason.specs.Reasons.{must_follow, reason_of, stalls}
use Rattle.drm_reason.specs.Standing.{HasReason, IsCurrentAt, IsDone, IsLeastGoing, IsNext, IsOfStopped}
use Rattle.drm_reason.specs.Laws.{AllCallsGoByReasons, EndsJob, FindsStalled, IsOf, ReapsJob, RunsPacket, TakesJob}
use Rattle.drm_reason.proofs.Finds.{all_kept, first_queued, in_front, of_front, queue_begins}
use Rattle.drm_reason.proofs.Stands.{reason_stands}
use Rattle.drm_reason.proofs.Told.{has_is_told}

-- both parts of a list pass a test
all_split : {X : Type 0} (p : X → Bool) (xs ys : List X) → list_all p (xs ++ ys) ≡ true → (list_all p xs ≡ true) × (list_all p ys ≡ true)
all_split p [] ys all = (refl, all)
all_split p (x ∷ xs) ys all =
    let parts = and_parts (p x) (list_all p (xs ++ ys)) all in
    let rest = all_split p xs ys parts.1 in
    (and_from (p x) (list_all p xs) parts.0 rest.0, rest.1)

all_joined : {X : Type 0} (p : X → Bool) (xs ys : List X) → list_all p xs ≡ true → list_all p ys ≡ true → list_all p (xs ++ ys) ≡ true
all_joined p [] ys one two = two
all_joined p (x ∷ xs) ys one two =
    let parts = and_parts (p x) (list_all p xs) one in
    and_from (p x) (list_all p (xs ++ ys)) parts.0 (all_joined p xs ys parts.1 two)

-- a job that has ended is queued no more
ended_not_queued : (p : Phase) → has_ended p ≡ true → is_queued p ≡ false
ended_not_queued Queued is = absurd (let never : false ≡ true = is in cc (never))
ended_not_queued Scheduled is = refl
ended_not_queued (Ended o) is = refl

-- a job that is not complete has a packet left
packet_left : (job : JobRecord) → is_complete job ≡ false → (p : Packet) × (slice_get job.job.packets job.ran ≡ Some p)
packet_left job left =
    stands_within job.job.packets job.ran
    (leb-false (length job.job.packets) job.ran (or_parts job.is_skipped (nat_le (length job.job.packets) job.ran) left).1)

-- ---- picks

module _ (choices : ChoiceIsLeast) (d : DeviceState) (steady : IsSteady d) (ring now n : ℕ) where
  pick_is_next : TakesJob d ring now n → IsNext d n ring
  pick_is_next takes = by_choice (choice d ring) refl takes.0 takes.1.1
    where
      by_choice : (o : Option ℕ) → choice d ring ≡ o
          → option_map_or (λ f. when (nat_lt (free_credits d ring) (credits_of d ring f)) (NoCredit (credits_of d ring f) (free_credits d ring))) o (Some Idle) ≡ None
          → (at_record {A = Answer × DeviceState} d (λ f r. (answer.Picked f (is_guilty d r.job.entity), picked_device d ring now f)) (answer.Ok, d) o).0
          ≡ answer.Picked n takes.1.0
          → IsNext d n ring
      by_choice None is free picked = absurd (let never : Some Idle ≡ None = free in cc (never))
      by_choice (Some f) is free picked =
          let least = ((choices d ring steady).some f).0 is in
          let answered : answer.Picked f (is_guilty d least.may.head.job.entity) ≡ answer.Picked n takes.1.0 =
          sym (ap (λ o. (option_map_or {U = Answer × DeviceState} (λ r. (answer.Picked f (is_guilty d r.job.entity), picked_device d ring now f)) o (answer.Ok, d)).0) least.may.first.at)
          ∙ picked in
          let same : f ≡ n = cc (answered) in
          let fits = ltb-false (free_credits d ring) (credits_of d ring f)
          (false_where (nat_lt (free_credits d ring) (credits_of d ring f)) (NoCredit (credits_of d ring f) (free_credits d ring)) free) in
          record { next = subst (IsLeast d ring) same least; fits = subst (λ k. credits_of d ring k ≤ free_credits d ring) same fits }

  next_is_picked : IsNext d n ring → TakesJob d ring now n
  next_is_picked is = (free, (is_guilty d is.next.may.head.job.entity, picked))
    where
      chosen : choice d ring ≡ Some n
      chosen = ((choices d ring steady).some n).1 is.next

      free : pick_refusal d ring ≡ None
      free =
          ap (λ o. option_map_or (λ f. when (nat_lt (free_credits d ring) (credits_of d ring f)) (NoCredit (credits_of d ring f) (free_credits d ring))) o (Some Idle)) chosen
          ∙ ap (λ b. when b (NoCredit (credits_of d ring n) (free_credits d ring))) (le-ltb (free_credits d ring) (credits_of d ring n) is.fits)

      picked : (pick_outcome d ring now).0 ≡ answer.Picked n (is_guilty d is.next.may.head.job.entity)
      picked =
          ap (λ o. (at_record {A = Answer × DeviceState} d (λ f r. (answer.Picked f (is_guilty d r.job.entity), picked_device d ring now f)) (answer.Ok, d) o).0) chosen
          ∙ ap (λ o. (option_map_or {U = Answer × DeviceState} (λ r. (answer.Picked n (is_guilty d r.job.entity), picked_device d ring now n)) o (answer.Ok, d)).0)
          is.next.may.first.at

-- ---- steps

-- what a step answers of the job that the ring runs: it stalls, or runs its next packet
record Steps (d : DeviceState) (ring f : ℕ) (given : Answer) : Type 0 where
  job : JobRecord
  current : IsCurrentAt d f ring job.ran job
  stalled : stalls job ≡ true → given ≡ answer.Stalled f
  ran : stalls job ≡ false → given ≡ answer.Ran f job.ran

current_steps : (d : DeviceState) (ring f : ℕ) → IsSteady d → ring < length d.spec.rings → current_of d ring ≡ Some f
    → Steps d ring f (step_outcome d ring).0
current_steps d ring f steady here is = record {
  job = job;
  current = record { current = is; at = at; ran = refl };
  stalled = λ waits. answered ∙ ap (λ b. (told b).0) (same ∙ waits);
  ran = λ free. answered ∙ ap (λ b. (told b).0) (same ∙ free);
}
  where
    now : (r : JobRecord) × IsCurrent d ring f r
    now = current_is d ring f steady.lawful here is

    job : JobRecord
    job = now.0

    at : slice_get d.journal f ≡ Some job
    at = now.1.at

    next : (p : Packet) × (slice_get job.job.packets job.ran ≡ Some p)
    next = packet_left job now.1.going

    told : Bool → Answer × DeviceState
    told b = cond b (answer.Stalled f, d) (answer.Ran f job.ran, ran_device d f next.0)

    same : must_stall next.0 job.karma.resets ≡ stalls job
    same = sym (ap (λ o. option_map_or (λ q. must_stall q job.karma.resets) o false) next.1)

    answered : (step_outcome d ring).0 ≡ (told (must_stall next.0 job.karma.resets)).0
    answered =
        ap (λ o. (at_record {A = Answer × DeviceState} d (λ k r. option_map_or (stepped_by d k) (slice_get r.job.packets r.ran) (answer.Ok, d)) (answer.Ok, d) o).0) is
        ∙ ap (λ o. (option_map_or {U = Answer × DeviceState} (λ r. option_map_or (stepped_by d f) (slice_get r.job.packets r.ran) (answer.Ok, d)) o (answer.Ok, d)).0) at
        ∙ ap (λ o. (option_map_or (stepped_by d f) o (answer.Ok, d)).0) next.1
        ∙ ap (λ o. (cond {A = Answer × DeviceState} (option_map_or (λ q. must_stall next.0 q.karma.resets) o false)
        (answer.Stalled f, d) (answer.Ran f (option_map_or (λ q. q.ran) o 0), ran_device d f next.0)).0) at

module _ (d : DeviceState) (steady : IsSteady d) (ring n : ℕ) (here : ring < length d.spec.rings) where
  -- where something runs, it is the current job
  by_current : (given : Answer) → step_refusal d ring ≡ None → (step_outcome d ring).0 ≡ given → (f : ℕ) × Steps d ring f given
  by_current given free is = by_job (current_of d ring) refl free
    where
      by_job : (o : Option ℕ) → current_of d ring ≡ o → when (is_none o) Idle ≡ None → (f : ℕ) × Steps d ring f given
      by_job None none free = absurd (let never : Some Idle ≡ None = free in cc (never))
      by_job (Some f) some free = (f, subst (Steps d ring f) is (current_steps d ring f steady here some))

  may_step : current_of d ring ≡ Some n → step_refusal d ring ≡ None
  may_step is = ap (λ o. when (is_none o) Idle) is

  step_runs : (packet : ℕ) → RunsPacket d ring n packet → HasReason d n (reason.Runs ring packet)
  step_runs packet runs =
      let (f, s) = by_current (answer.Ran n packet) runs.0 runs.1 in
      elim (cases_Bool (stalls s.job)) [
        | inl waits ↦ absurd (let never = s.stalled waits in cc (never))
        | inr free ↦
            let given = s.ran free in
            let same : f ≡ n = cc (given) in
            let count : s.job.ran ≡ packet = cc (given) in
            (s.job, subst (λ k. IsCurrentAt d n ring k s.job) count (subst (λ k. IsCurrentAt d k ring s.job.ran s.job) same s.current), free)
      ]

  step_stalls : FindsStalled d ring n → (packet : ℕ) × HasReason d n (reason.Stalls ring packet)
  step_stalls finds =
      let (f, s) = by_current (answer.Stalled n) finds.0 finds.1 in
      elim (cases_Bool (stalls s.job)) [
        | inl waits ↦
            let given = s.stalled waits in
            let same : f ≡ n = cc (given) in
            (s.job.ran, (s.job, subst (λ k. IsCurrentAt d k ring s.job.ran s.job) same s.current, waits))
        | inr free ↦ absurd (let never = s.ran free in cc (never))
      ]

  runs_steps : (packet : ℕ) (job : JobRecord) → IsCurrentAt d n ring packet job → stalls job ≡ false → RunsPacket d ring n packet
  runs_steps packet job is free =
      let s = current_steps d ring n steady here is.current in
      let same : s.job ≡ job = cc (s.current.at, is.at) in (
        may_step is.current,
        s.ran (ap stalls same ∙ free) ∙ ap (λ k. answer.Ran n k) (ap (λ (r : JobRecord). r.ran) same ∙ sym is.ran),
      )

  stalls_steps : (packet : ℕ) (job : JobRecord) → IsCurrentAt d n ring packet job → stalls job ≡ true → FindsStalled d ring n
  stalls_steps packet job is waits =
      let s = current_steps d ring n steady here is.current in
      let same : s.job ≡ job = cc (s.current.at, is.at) in
      (may_step is.current, s.stalled (ap stalls same ∙ waits))

-- ---- finishes

module _ (d : DeviceState) (steady : IsSteady d) (ring now n : ℕ) (here : ring < length d.spec.rings) where
  finish_is_done : EndsJob d ring now n → IsDone d n ring
  finish_is_done ends = by_head (head_of d ring) refl ends.0 ends.1.1
    where
      by_head : (o : Option ℕ) → head_of d ring ≡ o → option_map_or (λ f. when (not (is_at d.journal f is_complete)) NotComplete) o (Some Idle) ≡ None
          → (at_record {A = Answer × DeviceState} d (λ f r. (answer.Finished f (final_outcome r), finished_device d ring now f (final_outcome r))) (answer.Ok, d) o).0
          ≡ answer.Finished n ends.1.0
          → IsDone d n ring
      by_head None is free ended = absurd (let never : Some Idle ≡ None = free in cc (never))
      by_head (Some f) is free ended =
          let split = first_is (pending_of d ring) f is in
          let stands : slice_get (pending_of d ring) 0 ≡ Some f = ap (λ xs. slice_get xs 0) split.1 in
          let (r, at, scheduled, on_ring) = ((steady.lawful.rings ring here).pending f).0 (contains_at (pending_of d ring) 0 f stands) in
          let answered : answer.Finished f (final_outcome r) ≡ answer.Finished n ends.1.0 =
          sym (ap (λ o. (option_map_or {U = Answer × DeviceState} (λ q. (answer.Finished f (final_outcome q), finished_device d ring now f (final_outcome q))) o (answer.Ok, d)).0) at)
          ∙ ended in
          let same : f ≡ n = cc (answered) in
          let complete = not-false (is_at d.journal f is_complete) (false_where (not (is_at d.journal f is_complete)) NotComplete free) in
          record {
            head = is ∙ ap (λ k. Some k) same;
            job = r;
            at = subst (λ k. slice_get d.journal k ≡ Some r) same at;
            complete = sym (at_test d.journal f r is_complete at) ∙ complete;
          }

  done_is_finished : IsDone d n ring → EndsJob d ring now n
  done_is_finished is = (free, (final_outcome is.job, ended))
    where
      free : finish_refusal d ring ≡ None
      free =
          ap (λ o. option_map_or (λ f. when (not (is_at d.journal f is_complete)) NotComplete) o (Some Idle)) is.head
          ∙ ap (λ b. when (not b) NotComplete) (at_test d.journal n is.job is_complete is.at ∙ is.complete)

      ended : (finish_outcome d ring now).0 ≡ answer.Finished n (final_outcome is.job)
      ended =
          ap (λ o. (at_record {A = Answer × DeviceState} d (λ f r. (answer.Finished f (final_outcome r), finished_device d ring now f (final_outcome r))) (answer.Ok, d) o).0) is.head
          ∙ ap (λ o. (option_map_or {U = Answer × DeviceState} (λ q. (answer.Finished n (final_outcome q), finished_device d ring now n (final_outcome q))) o (answer.Ok, d)).0) is.at

-- ---- reaps

module _ (d : DeviceState) (entity n : ℕ) where
  abbrev by_first : Option (ℕ × JobRecord) → Option Refusal
  by_first o =
      first_of (when (not (is_stopped d entity) || is_none o) Nothing ∷ option_map_or (λ m. when (must_still_wait d.journal m.0 m.1) Waits) o None ∷ [])

  abbrev reaped_by : Option (ℕ × JobRecord) → Answer × DeviceState
  reaped_by o = option_map_or (λ m. (answer.Reaped m.0, record d { journal = ended_at d.journal m.0 outcome.Stopped })) o (answer.Ok, d)

  -- what need not wait any more follows no job that goes on
  none_goes : (m : ℕ × JobRecord) → must_still_wait d.journal m.0 m.1 ≡ false → IsLeastGoing d.journal m.0 m.1 None
  none_goes m free i x goes =
      elim (or_cases (comes_after m.1.job i x.job) (x.job.entity == m.1.job.entity) goes.follows) [
        | inl comes ↦ both_ways (has_ended x.phase) goes.going
            (all_of_filter (λ (k : ℕ × JobRecord). has_ended k.1.phase) (λ (k : ℕ × JobRecord). comes_after m.1.job k.0 k.1.job) (take m.0 (numbered d.journal)) i (i, x)
            ended.0 (in_front d.journal m.0 i x goes.before goes.at) comes)
        | inr of_it ↦ both_ways (has_ended x.phase) goes.going
            (all_of_filter (λ (k : ℕ × JobRecord). has_ended k.1.phase) (λ (k : ℕ × JobRecord). k.1.job.entity == m.1.job.entity) (take m.0 (numbered d.journal)) i (i, x)
            ended.1 (in_front d.journal m.0 i x goes.before goes.at) of_it)
      ]
    where
      own : List (ℕ × JobRecord)
      own = filter (λ (k : ℕ × JobRecord). k.1.job.entity == m.1.job.entity) (take m.0 (numbered d.journal))

      ended : (list_all (λ (k : ℕ × JobRecord). has_ended k.1.phase) (dependencies d.journal m.0 m.1.job) ≡ true)
          × (list_all (λ (k : ℕ × JobRecord). has_ended k.1.phase) own ≡ true)
      ended =
          all_split (λ (k : ℕ × JobRecord). has_ended k.1.phase) (dependencies d.journal m.0 m.1.job) own
          (not-false (list_all (λ (k : ℕ × JobRecord). has_ended k.1.phase) (dependencies d.journal m.0 m.1.job ++ own)) free)

  reap_is_of_stopped : ReapsJob d entity n → IsOfStopped d n None × IsOf d entity n
  reap_is_of_stopped reaps = by_queue (first (queue_of entity d.journal)) refl reaps.0 reaps.1
    where
      by_queue : (o : Option (ℕ × JobRecord)) → first (queue_of entity d.journal) ≡ o → by_first o ≡ None → (reaped_by o).0 ≡ answer.Reaped n
          → IsOfStopped d n None × IsOf d entity n
      by_queue None is free reaped =
          absurd (let never : Some Nothing ≡ None =
          sym (ap (λ b. first_of (when b Nothing ∷ None ∷ [])) (or_right (not (is_stopped d entity)) true refl)) ∙ free in cc (never))
      by_queue (Some m) is free reaped =
          let own = first_queued d.journal entity m is in
          let same : m.0 ≡ n = cc (reaped) in
          let parts = none_first (when (not (is_stopped d entity) || false) Nothing) (when (must_still_wait d.journal m.0 m.1) Waits ∷ []) free in
          let idle = or_parts (not (is_stopped d entity)) false (false_where (not (is_stopped d entity) || false) Nothing parts.0) in
          let waits = false_where (must_still_wait d.journal m.0 m.1) Waits (none_first (when (must_still_wait d.journal m.0 m.1) Waits) [] parts.1).0 in
          let at : slice_get d.journal n ≡ Some m.1 = subst (λ k. slice_get d.journal k ≡ Some m.1) same own.at in (
            record {
              job = m.1;
              at = at;
              queued = own.queued;
              stopped = subst (λ e. is_stopped d e ≡ true) (sym own.of_entity) (not-false (is_stopped d entity) idle.0);
              least = subst (λ k. IsLeastGoing d.journal k m.1 None) same (none_goes m waits);
            },
            (m.1, at, own.of_entity),
          )

  of_stopped_is_reaped : IsOfStopped d n None → IsOf d entity n → ReapsJob d entity n
  of_stopped_is_reaped is of_it = (free, ap (λ o. (reaped_by o).0) first_is_it)
    where
      same : of_it.0 ≡ is.job
      same = cc (of_it.1, is.at)

      owner : is.job.job.entity ≡ entity
      owner = ap (λ (r : JobRecord). r.job.entity) (sym same) ∙ of_it.2

      -- an earlier job that it must follow has ended
      ended : (i : ℕ) (x : JobRecord) → i < n → slice_get d.journal i ≡ Some x → must_follow is.job i x ≡ true → has_ended x.phase ≡ true
      ended i x less at follows =
          elim (cases_Bool (has_ended x.phase)) [
            | inl done ↦ done
            | inr goes ↦ absurd (is.least i x (record { before = less; at = at; follows = follows; going = goes }))
          ]

      own : IsFirstQueued d.journal entity n is.job
      own = record {
        at = is.at;
        of_entity = owner;
        queued = is.queued;
        first = λ i x less at of_same.
            ended_not_queued x.phase (ended i x less at
            (or_right (comes_after is.job.job i x.job) (x.job.entity == is.job.job.entity) (eq-eqb x.job.entity is.job.job.entity (of_same ∙ sym owner))));
      }

      first_is_it : first (queue_of entity d.journal) ≡ Some (n, is.job)
      first_is_it = queue_begins d.journal entity n is.job own

      waits_no_more : must_still_wait d.journal n is.job ≡ false
      waits_no_more =
          ap not
          (all_joined (λ (k : ℕ × JobRecord). has_ended k.1.phase) (dependencies d.journal n is.job.job)
          (filter (λ (k : ℕ × JobRecord). k.1.job.entity == is.job.job.entity) (take n (numbered d.journal)))
          (all_kept (λ (k : ℕ × JobRecord). has_ended k.1.phase) (λ (k : ℕ × JobRecord). comes_after is.job.job k.0 k.1.job) (take n (numbered d.journal))
          (λ i k at comes.
          let front = of_front d.journal n i k at in
          ended k.0 k.1 (omega (arith, front.0, front.1)) front.2 (or_left (comes_after is.job.job k.0 k.1.job) (k.1.job.entity == is.job.job.entity) comes)))
          (all_kept (λ (k : ℕ × JobRecord). has_ended k.1.phase) (λ (k : ℕ × JobRecord). k.1.job.entity == is.job.job.entity) (take n (numbered d.journal))
          (λ i k at of_same.
          let front = of_front d.journal n i k at in
          ended k.0 k.1 (omega (arith, front.0, front.1)) front.2 (or_right (comes_after is.job.job k.0 k.1.job) (k.1.job.entity == is.job.job.entity) of_same))))

      stopped : is_stopped d entity ≡ true
      stopped = subst (λ e. is_stopped d e ≡ true) owner is.stopped

      free : reap_refusal d entity ≡ None
      free =
          ap by_first first_is_it
          ∙ (ap (λ b. first_of (when (not b || false) Nothing ∷ when (must_still_wait d.journal n is.job) Waits ∷ [])) stopped
          ∙ ap (λ b. first_of (when b Waits ∷ [])) waits_no_more)

-- ---- all calls

pub calls_go_by_reasons : ChoiceIsLeast → AllCallsGoByReasons
calls_go_by_reasons choices d steady limits = record {
  picks = λ ring now n. (
    λ takes. tell n (reason.Next ring) (pick_is_next choices d steady ring now n takes),
    λ is. next_is_picked choices d steady ring now n (stand n (reason.Next ring) is),
  );
  runs = λ ring n packet here. (
    λ runs. tell n (reason.Runs ring packet) (step_runs d steady ring n here packet runs),
    λ is. let has = stand n (reason.Runs ring packet) is in runs_steps d steady ring n here packet has.0 has.1 has.2,
  );
  stalls = λ ring n here. (
    λ finds. let has = step_stalls d steady ring n here finds in (has.0, tell n (reason.Stalls ring has.0) has.1),
    λ is. let has = stand n (reason.Stalls ring is.0) is.1 in stalls_steps d steady ring n here is.0 has.0 has.1 has.2,
  );
  finishes = λ ring now n here. (
    λ ends. tell n (reason.Complete ring) (finish_is_done d steady ring now n here ends),
    λ is. done_is_finished d steady ring now n here (stand n (reason.Complete ring) is),
  );
  reaps = λ entity n. (
    λ reaps. let has = reap_is_of_stopped d entity n reaps in (tell n (reason.Stopped None) has.0, has.1),
    λ is. of_stopped_is_reaped d entity n (stand n (reason.Stopped None) is.0) is.1,
  );
}
  where
    tell : (n : ℕ) (told : Reason) → HasReason d n told → reason_of d n ≡ told
    tell n told has = has_is_told choices d n told steady has

    stand : (n : ℕ) (told : Reason) → reason_of d n ≡ told → HasReason d n told
    stand n told is = subst (HasReason d n) is (reason_stands choices d steady limits n)
