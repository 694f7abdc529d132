-- Which calls arm a job.
use Rattle.std.proofs.Common.{◌≡◌, ◌<◌, ◌+◌, ℕ, Bool, true, false, List, [], ◌∷◌, ◌++◌, arith, refl, sym, ap, ◌∙◌, length, set, Some, None, Ok, Err, slice_get}
use Rattle.std.specs.Prelude.{nat_lt, if◌then◌else◌, Option, Result}
use Rattle.std.specs.Option.{option_map_or}
use Rattle.std.proofs.lemmas.Bool.{ltb-true, ltb-false}
use Rattle.std.proofs.lemmas.List.{append-nil, length-set, length-map, length-append}
use Rattle.drm_types.specs.Firsts.{first}
use Rattle.drm_types.specs.declared.outcome.Outcome.TheVariants as outcome
use Rattle.drm_packet.specs.declared.Packet.{Packet}
use Rattle.drm_state.specs.declared.answer.Answer.{Answer}
use Rattle.drm_state.specs.declared.answer.Answer.TheVariants as answer
use Rattle.drm_state.specs.declared.answer.Picked.{Picked}
use Rattle.drm_state.specs.declared.answer.Stepped.{Stepped}
use Rattle.drm_state.specs.declared.answer.Stepped.TheVariants.{Ran, Stalled}
use Rattle.drm_state.specs.declared.answer.Finished.{Finished}
use Rattle.drm_state.specs.declared.errors.CancelError.{CancelError}
use Rattle.drm_state.specs.declared.errors.FinishError.{FinishError}
use Rattle.drm_state.specs.declared.errors.PickError.{PickError}
use Rattle.drm_state.specs.declared.errors.ReapError.{ReapError}
use Rattle.drm_state.specs.declared.errors.StepError.{StepError}
use Rattle.drm_state.specs.declared.journal.JobRecord.{JobRecord}
use Rattle.drm_state.specs.Arming.{new_record}
use Rattle.drm_state.specs.Choice.{choice, queue_of}
use Rattle.drm_state.specs.Journal.{changed_at, is_at, is_complete}
use Rattle.drm_sched.specs.Marks.{MarkedDevice}
use Rattle.drm_state.specs.Outcomes.{at_record, stepped_by, hang_outcome, timeout_at, is_too_much, must_stall, picked_device, finished_device, final_outcome, pick_outcome, step_outcome, finish_outcome, timeout_outcome, reap_outcome, cancelled_device, hung, condemned, ended_at}
use Rattle.drm_state.specs.Ring.{current_of, head_of, age_of, limit_of, is_guilty}
use Rattle.drm_state.specs.State.{DeviceState}
use Rattle.drm_gpu.specs.Passes.{PassState, Calls}
use Rattle.drm_gpu.specs.Answers.{PickIs, StepIs, FinishIs, TimeoutIs, CancelIs, ReapIs, CountsAre}
use Rattle.drm_gpu.specs.Submissions.{ArmRefused}
use Rattle.drm_workers.specs.Numbers.{armed_by, armings, ArmsNothing, ArmsTheFence, OnlyArmingsArm}
use Rattle.drm_workers.proofs.Permuted.{armings_append}
use Rattle.drm_workers.proofs.Rising.{count_of}

-- how many records a device has
abbrev count : DeviceState → ℕ
count d = length d.journal

changed : (journal : List JobRecord) (number : ℕ) (change : JobRecord → JobRecord) → length (changed_at journal number change) ≡ length journal
changed journal number change =
    elim (slice_get journal number) as (λ o. length (option_map_or (λ r. set journal number (change r)) o journal) ≡ length journal) [
      | None ↦ refl
      | Some r ↦ length-set journal number (change r)
    ]

-- a call that does something to a job that it finds
at_job : (d : DeviceState) (f : ℕ → JobRecord → Answer × DeviceState) (none : Answer) (found : Option ℕ)
    → ((number : ℕ) (r : JobRecord) → count (f number r).1 ≡ count d) → count (at_record d f (none, d) found).1 ≡ count d
at_job d f none None each = refl
at_job d f none (Some number) each = elim (slice_get d.journal number) as (λ o. count (option_map_or (f number) o (none, d)).1 ≡ count d) [
  | None ↦ refl
  | Some r ↦ each number r
]

picks : (d : DeviceState) (ring now : ℕ) → count (pick_outcome d ring now).1 ≡ count d
picks d ring now = at_job d (λ number r. (answer.Picked number (is_guilty d r.job.entity), picked_device d ring now number)) answer.Ok (choice d ring) (λ number r. changed d.journal number _)

either : (n : ℕ) (b : Bool) (x y : Answer × DeviceState) → count x.1 ≡ n → count y.1 ≡ n → count (if b then x else y).1 ≡ n
either n true x y p q = p
either n false x y p q = q

stepped : (d : DeviceState) (number : ℕ) (packet : Packet) → count (stepped_by d number packet).1 ≡ count d
stepped d number packet = either (count d) (is_at d.journal number (λ r. must_stall packet r.karma.resets)) _ _ refl (changed d.journal number _)

steps : (d : DeviceState) (ring : ℕ) → count (step_outcome d ring).1 ≡ count d
steps d ring = at_job d (λ number r. option_map_or (stepped_by d number) (slice_get r.job.packets r.ran) (answer.Ok, d)) answer.Ok (current_of d ring)
    (λ number r. elim (slice_get r.job.packets r.ran) as (λ o. count (option_map_or (stepped_by d number) o (answer.Ok, d)).1 ≡ count d) [
      | None ↦ refl
      | Some packet ↦ stepped d number packet
    ])

finishes : (d : DeviceState) (ring now : ℕ) → count (finish_outcome d ring now).1 ≡ count d
finishes d ring now = at_job d (λ number r. (answer.Finished number (final_outcome r), finished_device d ring now number (final_outcome r))) answer.Ok (head_of d ring)
    (λ number r. changed d.journal number _)

hangs : (d : DeviceState) (ring now number : ℕ) (r : JobRecord) → count (hang_outcome d ring now number r).1 ≡ count d
hangs d ring now number r =
    let blamed : length (changed_at d.journal number (hung d)) ≡ count d = changed d.journal number (hung d) in
    either (count d) (is_too_much d ring r) _ _ (length-map (changed_at d.journal number (hung d)) (condemned ring r.job.entity) ∙ blamed) blamed

times_out : (d : DeviceState) (ring now : ℕ) → count (timeout_outcome d ring now).1 ≡ count d
times_out d ring now = at_job d (timeout_at d ring now) answer.Empty (head_of d ring) (λ number r.
    either (count d) (nat_lt (age_of d ring now) (limit_of (λ l. l.timeout) d ring)) _ _ refl
    (either (count d) (is_complete r) _ _ refl (hangs d ring now number r)))

found_or : {X : Type 0} (n : ℕ) (f : X → Answer × DeviceState) (none : Answer × DeviceState) (o : Option X) → ((x : X) → count (f x).1 ≡ n) → count none.1 ≡ n
    → count (option_map_or {U = Answer × DeviceState} f o none).1 ≡ n
found_or n f none None each same = same
found_or n f none (Some x) each same = each x

reaps : (d : DeviceState) (entity : ℕ) → count (reap_outcome d entity).1 ≡ count d
reaps d entity =
    found_or (count d) (λ (n : ℕ × JobRecord). (answer.Reaped n.0, record d { journal = ended_at d.journal n.0 outcome.Stopped })) (answer.Ok, d) (first (queue_of entity d.journal))
    (λ n. changed d.journal n.0 _) refl

none_armed : (b : Bool) (a c : ℕ) → nat_lt a c ≡ b → c ≡ a → (if b then a ∷ [] else []) ≡ []
none_armed true a c e same = absurd (let h = ltb-true a c e in omega (arith, h, same))
none_armed false a c e same = refl

one_armed : (b : Bool) (a c : ℕ) → nat_lt a c ≡ b → a < c → (if b then a ∷ [] else []) ≡ a ∷ []
one_armed true a c e less = refl
one_armed false a c e less = absurd (let h = ltb-false a c e in omega (arith, h, less))

-- a pass has armed what it had, and what the call armed
one_more : (does : MarkedDevice → MarkedDevice → Type 0) (old new : PassState) (call : Calls does old new)
    → armings new.calls ≡ armings old.calls ++ (armed_by (call.found, new.last) ++ [])
one_more does old new call = ap (λ (p : PassState). armings p.calls) call.pass ∙ armings_append old.calls ((call.found, new.last) ∷ [])

arms_nothing : (does : MarkedDevice → MarkedDevice → Type 0) → ((d e : MarkedDevice) → does d e → count_of e ≡ count_of d) → ArmsNothing does
arms_nothing does same old new call =
    one_more does old new call
    ∙ (ap (λ xs. armings old.calls ++ (xs ++ [])) (none_armed (nat_lt (count_of call.found) (count_of new.last)) (count_of call.found) (count_of new.last) refl (same call.found new.last call.event))
    ∙ append-nil (armings old.calls))

-- a state that an outcome says
says : (d e : MarkedDevice) (a : Answer) (o : Answer × DeviceState) → o ≡ (a, e.state) → count o.1 ≡ count_of d → count_of e ≡ count_of d
says d e a o is same = sym (ap (λ (z : Answer × DeviceState). count z.1) is) ∙ same

last_at : (rs : List JobRecord) (r : JobRecord) → slice_get (rs ++ r ∷ []) (length rs) ≡ Some r
last_at [] r = refl
last_at (x ∷ rs) r = last_at rs r

arms_the_fence : ArmsTheFence
arms_the_fence job deps held kept fence old new call =
    let d = call.found in
    let journal : new.last.state.journal ≡ d.state.journal ++ new_record d.state job ∷ [] = ap (λ (s : DeviceState). s.journal) call.event.call.armed in
    let longer : count_of new.last ≡ count_of d + 1 = ap length journal ∙ length-append d.state.journal (new_record d.state job ∷ []) in (
      one_more _ old new call
          ∙ ap (λ xs. armings old.calls ++ (xs ++ [])) (one_armed (nat_lt (count_of d) (count_of new.last)) (count_of d) (count_of new.last) refl (omega (arith, longer)) ∙ ap (λ n. n ∷ []) (sym call.event.call.number)),
      (new_record d.state job, ap (λ rs. slice_get rs fence) journal ∙ (ap (slice_get (d.state.journal ++ new_record d.state job ∷ [])) call.event.call.number ∙ last_at d.state.journal (new_record d.state job)), refl),
    )

picked_same : (ring now : ℕ) (a : Result Picked PickError) (d e : MarkedDevice) → PickIs ring now a d e → count_of e ≡ count_of d
picked_same ring now (Ok p) d e is = says d e _ (pick_outcome d.state ring now) is.done.1 (picks d.state ring now)
picked_same ring now (Err r) d e is = ap count_of is.refused.1

stepped_same : (ring : ℕ) (a : Result Stepped StepError) (d e : MarkedDevice) → StepIs ring a d e → count_of e ≡ count_of d
stepped_same ring (Ok (Ran fence packet)) d e is = says d e _ (step_outcome d.state ring) is.7 (steps d.state ring)
stepped_same ring (Ok (Stalled fence)) d e is = ap count_of is.2
stepped_same ring (Err r) d e is = ap count_of is.1.refused.1

finished_same : (ring now : ℕ) (a : Result Finished FinishError) (d e : MarkedDevice) → FinishIs ring now a d e → count_of e ≡ count_of d
finished_same ring now (Ok f) d e is = says d e _ (finish_outcome d.state ring now) is.1.done.1 (finishes d.state ring now)
finished_same ring now (Err r) d e is = ap count_of is.1.refused.1

cancelled_same : (entity : ℕ) (a : Result (Unit {0}) CancelError) (d e : MarkedDevice) → CancelIs entity a d e → count_of e ≡ count_of d
cancelled_same entity (Ok u) d e is = says d e answer.Ok (answer.Ok, cancelled_device d.state entity) is.done.1 refl
cancelled_same entity (Err r) d e is = ap count_of is.refused.1

reaped_same : (entity : ℕ) (a : Result ℕ ReapError) (d e : MarkedDevice) → ReapIs entity a d e → count_of e ≡ count_of d
reaped_same entity (Ok f) d e is = says d e _ (reap_outcome d.state entity) is.done.1 (reaps d.state entity)
reaped_same entity (Err r) d e is = ap count_of is.refused.1

pub only_armings_arm : OnlyArmingsArm
only_armings_arm = record {
  arm = arms_the_fence;
  refused = λ job r. arms_nothing (ArmRefused job r) (λ d e is. ap count_of is.1);
  pick = λ ring now a. arms_nothing (PickIs ring now a) (picked_same ring now a);
  step = λ ring a. arms_nothing (StepIs ring a) (stepped_same ring a);
  finish = λ ring now a. arms_nothing (FinishIs ring now a) (finished_same ring now a);
  timeout = λ ring now a. arms_nothing (TimeoutIs ring now a) (λ d e is. says d e _ (timeout_outcome d.state ring now) is.1.done.1 (times_out d.state ring now));
  cancel = λ entity a. arms_nothing (CancelIs entity a) (cancelled_same entity a);
  reap = λ entity a. arms_nothing (ReapIs entity a) (reaped_same entity a);
  counts = λ n. arms_nothing (CountsAre n) (λ d e is. ap count_of is.2);
}
