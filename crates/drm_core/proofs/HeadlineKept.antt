-- The core keeps its promises.
use Rattle.std.proofs.Common.{◌≡◌, ℕ, ◌<◌, ◌≤◌, true, false, List, [], ◌∷◌, Some, None, Option, refl, sym, ap, subst, ◌∙◌, inl, inr, ◌⊎◌, arith, slice_get}
use Rattle.std.specs.Option.{option_map_or}
use Rattle.std.specs.Prelude.{option_map, nat_lt, nat_le, length, pos, negsuc}
use Rattle.std.proofs.lemmas.Bool.{both_ways, and_parts, ltb-true, leb-false}
use Rattle.std.proofs.lemmas.Option.{slice_get_within}
use Rattle.drm_types.specs.declared.outcome.Outcome.TheVariants.{Good, Cancelled, Stopped}
use Rattle.drm_types.specs.declared.spec.DeviceSpec.{DeviceSpec}
use Rattle.drm_types.specs.declared.spec.RingSpec.{RingSpec}
use Rattle.drm_buffer.specs.Memory.{bytes_of}
use Rattle.drm_serial.specs.Serial.{serial}
use Rattle.drm_job.specs.Fault.{IsJob}
use Rattle.drm_types.proofs.Firsts.{none_first, none_when}
use Rattle.drm_job.specs.declared.Draft.{Draft}
use Rattle.drm_fence.specs.declared.phase.Phase.{Phase}
use Rattle.drm_fence.specs.declared.phase.Phase.TheVariants.{Queued, Scheduled, Ended}
use Rattle.drm_fence.specs.Phases.{has_ended, status_of}
use Rattle.drm_state.specs.declared.answer.Answer.{Answer}
use Rattle.drm_state.specs.declared.answer.Answer.TheVariants as answer
use Rattle.drm_core.specs.declared.event.Event.{Event}
use Rattle.drm_core.specs.declared.event.Event.TheVariants as event
use Rattle.drm_state.specs.declared.answer.Refusal.TheVariants.{Memory, NotHeld, Busy, NoFence}
use Rattle.drm_state.specs.declared.journal.JobRecord.{JobRecord}
use Rattle.drm_core.specs.State.{CoreState, opened}
use Rattle.drm_state.specs.Journal.{turns}
use Rattle.drm_state.specs.Ring.{used_credits}
use Rattle.drm_core.specs.Outcomes.{outcome_of_event}
use Rattle.drm_core.specs.Context.{holds}
use Rattle.drm_core.specs.Names.{names_exist}
use Rattle.drm_state.specs.Order.{HasPlace}
use Rattle.drm_core.specs.Refusals.{idle_refusal, not_held_refusal}
use Rattle.drm_state.specs.Refusals.{read_refusal, busy_fence}
use Rattle.drm_core.specs.Step.{Step}
use Rattle.drm_core.specs.Run.{Run, AllNamesExist}
use Rattle.drm_state.specs.Lawful.{HasRightOutcome, IsLawfulDevice}
use Rattle.drm_core.specs.Steady.{IsSteadyCore, PlansHeld, HoldersBegun, JobsHavePlace}
use Rattle.drm_core.specs.Headline.{serial_memory, serial_bytes, WritersEnded, MayRead, IsRefused, TellsOutcome, Promises, Headline}
use Rattle.drm_core.proofs.CoreSteps.{step_is_kept}
use Rattle.drm_lists.proofs.Places.{stands_within}
use Rattle.drm_core.proofs.Lists.{not_when}
use Rattle.drm_core.proofs.Opening.{opened_core_steady}
use Rattle.drm_core.proofs.HeadlinePicks.{picks_least, idles_none}
use Rattle.drm_core.proofs.HeadlineGiven.{run_holders_begun, opened_holders_begun, read_given}
use Rattle.drm_core.proofs.HeadlineReads.{run_plans_held, opened_plans_held, may_read_on}
use Rattle.drm_core.proofs.Places.{run_places_kept, no_places}
use Rattle.drm_core.proofs.HeadlineSteps.{is_refusal, cases_step, ended_stays, refused_keeps, step_leaves_bytes}
use Rattle.drm_core.specs.Laws.{DeviceLaws}

-- where a run leads is steady, and of the same description
pub run_is_steady : (laws : DeviceLaws) → (s : CoreState) (spec : DeviceSpec) (events : List (Event Draft)) (answers : List Answer) (new : CoreState) → IsSteadyCore s → s.device.spec ≡ spec
    → AllNamesExist spec events → Run s events answers new → IsSteadyCore new × (new.device.spec ≡ spec)
run_is_steady laws s spec [] [] new steady same names run = (subst IsSteadyCore (sym run) steady, ap (λ (n : CoreState). n.device.spec) run ∙ same)
run_is_steady laws s spec [] (a ∷ rest) new steady same names run = absurd run
run_is_steady laws s spec (e ∷ es) [] new steady same names run = absurd run
run_is_steady laws s spec (e ∷ es) (a ∷ rest) new steady same names run =
    let here : names_exist s.device.spec e ≡ true = subst (λ p. names_exist p e ≡ true) (sym same) names.0 in
    let kept = step_is_kept laws s e a run.0 steady here run.1 in
    run_is_steady laws run.0 spec es rest new kept.steady (kept.grows.spec ∙ same) names.1 run.2

-- the memory is the serial machine's
pub memory_is : (s : CoreState) (spec : DeviceSpec) → IsSteadyCore s → s.device.spec ≡ spec → s.device.memory ≡ serial_memory spec s
memory_is s spec steady same = subst (λ (p : DeviceSpec). s.device.memory ≡ serial p.buffers (turns s.device.journal)) same steady.device.lawful.memory

-- a look at a buffer
pub look_gives : (s : CoreState) (spec : DeviceSpec) (e : Event Draft) (a : Answer) (n : CoreState) (b : ℕ) → IsSteadyCore s → s.device.spec ≡ spec
    → Step s e a n → ((given : Answer) → given ≡ (outcome_of_event s e).0 → given ≡ answer.Bytes (bytes_of s.device.memory b))
    → IsRefused a ⊎ (a ≡ answer.Bytes (serial_bytes spec s b))
look_gives s spec e a n b steady same step looks = elim (cases_step s e a n step) [
  | inl refused ↦ inl (refused.why, refused.answers)
  | inr had ↦ inr (looks a had.answers ∙ ap (λ m. answer.Bytes (bytes_of m b)) (memory_is s spec steady same))
]

-- a dump
pub dump_gives : (s : CoreState) (spec : DeviceSpec) (a : Answer) (n : CoreState) (b : ℕ) → IsSteadyCore s → s.device.spec ≡ spec
    → Step s (event.Dump b) a n → (a ≡ answer.Refused Memory) ⊎ (a ≡ answer.Bytes (serial_bytes spec s b))
dump_gives s spec a n b steady same (inr lacks) = inl lacks.answers
dump_gives s spec a n b steady same (inl is) =
    inr (ap (λ (p : Answer × CoreState). p.0) is ∙ ap (λ m. answer.Bytes (bytes_of m b)) (memory_is s spec steady same))

pub no_busy : (o : Option ℕ) → option_map Busy o ≡ None → o ≡ None
no_busy None e = refl
no_busy (Some f) e = absurd (cc (e))

-- where a read is not refused its writers have ended
pub read_after_writers : (laws : DeviceLaws) → (s : CoreState) (b : ℕ) → IsSteadyCore s → b < length s.device.spec.buffers → read_refusal s.device (slice_get s.reservations b) ≡ None
    → WritersEnded s b
read_after_writers laws s b steady here free f r at writer =
    let resv = steady.reservations b here in
    let not_busy : busy_fence s.device.journal resv.0 ≡ None =
    no_busy (busy_fence s.device.journal resv.0) (sym (ap (read_refusal s.device) resv.1) ∙ free) in
    (laws.reads s.device b resv.0 steady.device resv.2).0 not_busy f r at writer

-- the buffer of a read whose names exist
pub buffer_there : (s : CoreState) (ctx b : ℕ) → names_exist {J = Draft} s.device.spec (event.Read ctx b) ≡ true → b < length s.device.spec.buffers
buffer_there s ctx b names =
    ltb-true b (length s.device.spec.buffers) (and_parts (nat_lt ctx 64) (nat_lt b (length s.device.spec.buffers)) names).1

-- a read that gave bytes
pub read_waits : (laws : DeviceLaws) → (s : CoreState) (ctx b : ℕ) (bytes : List ℕ) (n : CoreState) → IsSteadyCore s → names_exist {J = Draft} s.device.spec (event.Read ctx b) ≡ true
    → Step s (event.Read ctx b) (answer.Bytes bytes) n → MayRead s ctx b
read_waits laws s ctx b bytes n steady names step = elim (cases_step s (event.Read ctx b) (answer.Bytes bytes) n step) [
  | inl refused ↦ let never : false ≡ true = ap is_refusal refused.answers in absurd (cc (never))
  | inr had ↦
      let rest = (none_first (idle_refusal s ctx) (not_held_refusal s ctx b ∷ read_refusal s.device (slice_get s.reservations b) ∷ []) had.early).1 in
      let two = none_first (not_held_refusal s ctx b) (read_refusal s.device (slice_get s.reservations b) ∷ []) rest in
      let here = buffer_there s ctx b names in record {
        holds = none_when (holds s ctx b) (NotHeld b) two.0;
        writers = read_after_writers laws s b steady here (none_first (read_refusal s.device (slice_get s.reservations b)) [] two.1).0;
      }
]

-- a status that was given
pub status_given : (s : CoreState) (f : ℕ) (status : _) (n : CoreState) → Step s (event.Status f) (answer.Status status) n
    → (r : JobRecord) × (slice_get s.device.journal f ≡ Some r) × (status ≡ status_of r.phase)
status_given s f status n step = elim (cases_step s (event.Status f) (answer.Status status) n step) [
  | inl refused ↦ let never : false ≡ true = ap is_refusal refused.answers in absurd (cc (never))
  | inr had ↦
      let within : f < length s.device.journal =
      omega (arith, leb-false (length s.device.journal) f (not_when (nat_le (length s.device.journal) f) (NoFence f) had.early)) in
      let r = stands_within s.device.journal f within in
      let given : answer.Status status ≡ answer.Status (status_of r.0.phase) =
      had.answers ∙ ap (λ o. answer.Status (option_map_or (λ (r : JobRecord). status_of r.phase) o (pos 0))) r.1 in
      (r.0, r.1, cc (given))
]

-- a job without an outcome
pub no_outcome_yet : (r : JobRecord) → status_of r.phase ≡ pos 0 → has_ended r.phase ≡ false → TellsOutcome r
no_outcome_yet r zero_status none = record {
  waiting = λ n. zero_status;
  ended = λ e. absurd (both_ways (has_ended r.phase) none e);
  good = λ st. let never : pos 0 ≡ pos 1 = sym zero_status ∙ st in absurd (cc (never));
  cancelled = λ st. let never : pos 0 ≡ negsuc 124 = sym zero_status ∙ st in absurd (cc (never));
  stopped = λ st. let never : pos 0 ≡ negsuc 2 = sym zero_status ∙ st in absurd (cc (never));
}

-- the right outcome as the fence's status tells it
pub tells_outcome : (r : JobRecord) (p : Phase) → r.phase ≡ p → HasRightOutcome r p → TellsOutcome r
tells_outcome r Queued is right = no_outcome_yet r (ap status_of is) (ap has_ended is)
tells_outcome r Scheduled is right = no_outcome_yet r (ap status_of is) (ap has_ended is)
tells_outcome r (Ended Good) is right = record {
  waiting = λ none. absurd (both_ways (has_ended r.phase) none (ap has_ended is));
  ended = λ e. inl (ap status_of is);
  good = λ st. right;
  cancelled = λ st. let never : pos 1 ≡ negsuc 124 = sym (ap status_of is) ∙ st in absurd (cc (never));
  stopped = λ st. let never : pos 1 ≡ negsuc 2 = sym (ap status_of is) ∙ st in absurd (cc (never));
}
tells_outcome r (Ended Cancelled) is right = record {
  waiting = λ none. absurd (both_ways (has_ended r.phase) none (ap has_ended is));
  ended = λ e. inr (inl (ap status_of is));
  good = λ st. let never : negsuc 124 ≡ pos 1 = sym (ap status_of is) ∙ st in absurd (cc (never));
  cancelled = λ st. right;
  stopped = λ st. let never : negsuc 124 ≡ negsuc 2 = sym (ap status_of is) ∙ st in absurd (cc (never));
}
tells_outcome r (Ended Stopped) is right = record {
  waiting = λ none. absurd (both_ways (has_ended r.phase) none (ap has_ended is));
  ended = λ e. inr (inr (ap status_of is));
  good = λ st. let never : negsuc 2 ≡ pos 1 = sym (ap status_of is) ∙ st in absurd (cc (never));
  cancelled = λ st. let never : negsuc 2 ≡ negsuc 124 = sym (ap status_of is) ∙ st in absurd (cc (never));
  stopped = λ st. right;
}

-- a steady core of this description keeps its promises
pub promises_kept : (laws : DeviceLaws) → (spec : DeviceSpec) (s : CoreState) → IsSteadyCore s → PlansHeld s → HoldersBegun s → JobsHavePlace s.device → s.device.spec ≡ spec → Promises spec s
promises_kept laws spec s steady plans begun places same = record {
  bytes = memory_is s spec steady same;
  dumps = λ b a n step. dump_gives s spec a n b steady same step;
  reads = λ ctx b a n step. look_gives s spec (event.Read ctx b) a n b steady same step (λ given is. is);
  reads_wait = λ ctx b bytes n names step. read_waits laws s ctx b bytes n steady (of_device (event.Read ctx b) names) step;
  reads_given = λ ctx b a n names step may. elim (read_given laws s ctx b a n steady begun (buffer_there s ctx b (of_device (event.Read ctx b) names)) may step) [
    | inl memory ↦ inl memory
    | inr given ↦ inr (given ∙ ap (λ m. answer.Bytes (bytes_of m b)) (memory_is s spec steady same))
  ];
  statuses = λ f status n step. status_given s f status n step;
  jobs = λ f r at.
      let sound = law.records f r at in
      record {
        job = subst (λ p. IsJob p r.job) same sound.job;
        place = subst (λ p. HasPlace p f r.job) same (places f r at);
        ran = sound.ran;
      };
  outcomes = λ f r at. tells_outcome r r.phase refl (law.records f r at).outcome;
  fence_order = λ i j x y both after. (law.follows i j x y both.order both.first both.second).ended after;
  packet_order = λ i j x y both after. (law.follows i j x y both.order both.first both.second).ran after;
  fences_final = λ e a n names step f old at.
      let new = (step_is_kept laws s e a n steady (of_device e names) step).grows.journal f old at in (
        new.0,
        new.1,
        record { job = new.2.job; outcome = ended_stays old.phase new.0.phase new.2.phase; ran = new.2.kept },
      );
  credits = λ ring limits at.
      let there : slice_get s.device.spec.rings ring ≡ Some limits = ap (λ (p : DeviceSpec). slice_get p.rings ring) same ∙ at in
      subst (λ n. used_credits s.device ring ≤ n) (ap (λ o. option_map_or (λ (r : RingSpec). r.credit_limit) o 0) there)
      (law.rings ring (slice_get_within s.device.spec.rings ring limits there)).credits;
  picks = λ ring now f skipped n step. picks_least laws s ring now f skipped n steady.device step;
  idles = λ ring now n step. idles_none laws s ring now n steady.device step;
  begin_order = λ i j x y both entity. (law.entities i j x y both.order both.first both.second).begun entity;
  end_order = λ i j x y both entity. (law.entities i j x y both.order both.first both.second).ended entity;
  refusals = refused_keeps s;
  reads_stay = λ e a n ctx b names step may keeps.
      may_read_on s e a n ctx b plans (step_is_kept laws s e a n steady (of_device e names) step).grows.journal step may keeps;
  bytes_stay = λ e a n b names step writers.
      let kept = step_is_kept laws s e a n steady (of_device e names) step in
      sym (ap (λ m. bytes_of m b) (memory_is n spec kept.steady (kept.grows.spec ∙ same)))
      ∙ (step_leaves_bytes s e a n b law (of_device e names) step writers ∙ ap (λ m. bytes_of m b) (memory_is s spec steady same));
}
  where
    law : IsLawfulDevice s.device
    law = steady.device.lawful

    of_device : (e : Event Draft) → names_exist spec e ≡ true → names_exist s.device.spec e ≡ true
    of_device e names = subst (λ p. names_exist p e ≡ true) (sym same) names

pub headline : (laws : DeviceLaws) → Headline
headline laws spec events answers new names run =
    let end = run_is_steady laws (opened spec) spec events answers new (opened_core_steady laws spec) refl names run in
    promises_kept laws spec new end.0 (run_plans_held (opened spec) events answers new (opened_plans_held spec) run)
    (run_holders_begun (opened spec) events answers new (opened_holders_begun spec) run)
    (run_places_kept laws (opened spec) spec events answers new (opened_core_steady laws spec) refl names (no_places spec) run) end.1
