-- What a call of a device leaves, whether it is refused or not.
use Rattle.std.proofs.Common.{◌≡◌, ℕ, ◌<◌, ◌≤◌, Bool, true, false, length, None, Option, Result, Ok, Err, refl, sym, ap, subst}
use Rattle.std.specs.Prelude.{IsErr, IsErrAnd, MatchResult}
use Rattle.drm_job.specs.declared.Draft.{Draft}
use Rattle.drm_fence.specs.declared.phase.Phase.TheVariants.{Ended}
use Rattle.drm_state.specs.declared.answer.Answer.{Answer}
use Rattle.drm_state.specs.declared.answer.Expired.{Expired}
use Rattle.drm_state.specs.declared.answer.Finished.{Finished}
use Rattle.drm_state.specs.declared.answer.Picked.{Picked}
use Rattle.drm_state.specs.declared.answer.Refusal.{Refusal}
use Rattle.drm_state.specs.declared.answer.Stepped.{Stepped}
use Rattle.drm_state.specs.declared.errors.CancelError.{CancelError}
use Rattle.drm_state.specs.declared.errors.FinishError.{FinishError}
use Rattle.drm_state.specs.declared.errors.PickError.{PickError}
use Rattle.drm_state.specs.declared.errors.ReapError.{ReapError}
use Rattle.drm_state.specs.declared.errors.StepError.{StepError}
use Rattle.drm_state.specs.declared.errors.TimeoutError.{TimeoutError}
use Rattle.drm_state.specs.Events.{IsKept}
use Rattle.drm_state.specs.Grows.{Grows}
use Rattle.drm_state.specs.Keeps.{word_of, Keeps, KeepsBut, KeepsArmed}
use Rattle.drm_state.specs.Lawful.{IsLawfulDevice}
use Rattle.drm_state.specs.Outcomes.{pick_outcome, step_outcome, timeout_outcome, cancelled_device}
use Rattle.drm_state.specs.Refusals.{finish_refusal}
use Rattle.drm_state.specs.State.{DeviceState}
use Rattle.drm_state.specs.Steady.{IsSteady}
use Rattle.drm_sched.specs.Begun.{HasReported, out_or}
use Rattle.drm_sched.specs.Calls.{IsAnswered, PickIs, StepIs, FinishIs, TimeoutIs, CancelIs, ReapIs, ArmIs, StaysLawful}
use Rattle.drm_sched.specs.Marks.{MarkedDevice, ring_out, IsSteadyMarked}
use Rattle.drm_state.proofs.DeviceSteps.{kept_itself, pick_kept, step_kept, finish_kept, timeout_kept, cancel_kept, reap_kept}
use Rattle.drm_state.proofs.Growth.{arm_grows}
use Rattle.drm_sched.proofs.MarksOther.{ring_is_there}
use Rattle.drm_sched.proofs.Words.{keeps_itself, keeps_of, ended_keeps, pick_words, step_words, finish_words, timeout_words, reap_words, arm_keeps}

-- an error that a call hands on
pub handed_on : {X E : Type 0} (r : Result X E) (e : E) → IsErr r × IsErrAnd r (λ f. f ≡ e) → r ≡ Err e
handed_on (Ok x) e is = let never : false ≡ true = is.0 in absurd (cc (never))
handed_on (Err f) e is = ap (λ z. Err z) is.1

-- where nothing is refused, nothing is out, and the definition refuses nothing
pub none_out : (out : Bool) (other : Option Refusal) → out_or out other ≡ None → (out ≡ false) × (other ≡ None)
none_out true other none = absurd (cc (none))
none_out false other none = (refl, none)

-- what is so of the device that an outcome leaves is so of the one that a call left by it
pub left_by : {n : DeviceState} {a : Answer} {outcome : Answer × DeviceState} (P : DeviceState → Type 0) → outcome ≡ (a, n) → P outcome.1 → P n
left_by P is so = subst P (ap (λ (o : Answer × DeviceState). o.1) is) so

-- what is so of the device that a call found, and of the one that its outcome leaves, is so of the one that it left
pub after_call : {X E : Type 0} {refusal : Option Refusal} {outcome : Answer × DeviceState} {why : E → Refusal} {told : X → Answer} (P : DeviceState → Type 0) (r : Result X E) (d e : MarkedDevice)
    → IsAnswered refusal outcome why told r d e → P d.state → (refusal ≡ None → P outcome.1) → P e.state
after_call P (Ok x) d e is before after = left_by P is.done.1 (after is.done.0)
after_call P (Err r) d e is before after = subst (λ (m : MarkedDevice). P m.state) (sym is.refused.1) before

-- ---- the device stays steady, and grows

pub after_pick : (d e : MarkedDevice) (ring now : ℕ) (r : Result Picked PickError) → IsSteady d.state → ring < length d.state.spec.rings → PickIs ring now r d e → IsKept d.state e.state
after_pick d e ring now r steady there is =
    after_call (IsKept d.state) r d e is (kept_itself d.state steady) (λ may. pick_kept d.state ring now steady there may)

pub after_step : (d e : MarkedDevice) (ring : ℕ) (r : Result Stepped StepError) → IsSteady d.state → ring < length d.state.spec.rings → StepIs ring r d e → IsKept d.state e.state
after_step d e ring r steady there is =
    after_call (IsKept d.state) r d e is (kept_itself d.state steady) (λ may. step_kept d.state ring steady there)

pub after_finish : (d e : MarkedDevice) (ring now : ℕ) (r : Result Finished FinishError) → IsSteady d.state → ring < length d.state.spec.rings → FinishIs ring now r d e → IsKept d.state e.state
after_finish d e ring now r steady there is =
    after_call (IsKept d.state) r d e is (kept_itself d.state steady)
    (λ may. finish_kept d.state ring now steady there (none_out (ring_out d ring) (finish_refusal d.state ring) may).1)

pub after_timeout : (d e : MarkedDevice) (ring now : ℕ) (r : Result Expired TimeoutError) → IsSteady d.state → ring < length d.state.spec.rings → TimeoutIs ring now r d e → IsKept d.state e.state
after_timeout d e ring now r steady there is =
    after_call (IsKept d.state) r d e is (kept_itself d.state steady) (λ may. timeout_kept d.state ring now steady there)

pub after_cancel : (d e : MarkedDevice) (entity : ℕ) (r : Result (Unit {0}) CancelError) → IsSteady d.state → CancelIs entity r d e → IsKept d.state e.state
after_cancel d e entity r steady is =
    after_call (IsKept d.state) r d e is (kept_itself d.state steady) (λ may. cancel_kept d.state entity steady)

pub after_reap : (d e : MarkedDevice) (entity : ℕ) (r : Result ℕ ReapError) → IsSteady d.state → ReapIs entity r d e → IsKept d.state e.state
after_reap d e entity r steady is =
    after_call (IsKept d.state) r d e is (kept_itself d.state steady) (λ may. reap_kept d.state entity steady may)

pub after_report : (d e : MarkedDevice) (ring : ℕ) (ran : ℕ × ℕ) → IsSteadyMarked d → HasReported d ring ran e → IsKept d.state e.state
after_report d e ring ran steady (m, p, is, at, ran_is, left, may, stepped_is) =
    left_by (IsKept d.state) stepped_is (step_kept d.state ring steady.state (ring_is_there d ring m steady is))

pub stays_lawful : {d e : DeviceState} → IsKept d e → StaysLawful d e
stays_lawful kept = record { lawful = kept.steady.lawful; grows = kept.grows }

pub arm_stays_lawful : (d e : MarkedDevice) (job : Draft) (fence : ℕ) → IsLawfulDevice e.state → ArmIs job fence d e → StaysLawful d.state e.state
arm_stays_lawful d e job fence lawful is = record { lawful = lawful; grows = subst (Grows d.state) (sym is.armed) (arm_grows d.state job) }

-- ---- what fits the device, and what its fences show

pub pick_keeps : (d e : MarkedDevice) (ring now : ℕ) (r : Result Picked PickError) → IsSteady d.state → ring < length d.state.spec.rings → PickIs ring now r d e → Keeps d.state e.state
pick_keeps d e ring now r steady there is =
    after_call (Keeps d.state) r d e is (keeps_itself d.state)
    (λ may. keeps_of d.state (pick_outcome d.state ring now).1 (pick_kept d.state ring now steady there may) (pick_words d.state ring now))

pub step_keeps : (d e : MarkedDevice) (ring : ℕ) (r : Result Stepped StepError) → IsSteady d.state → ring < length d.state.spec.rings → StepIs ring r d e → Keeps d.state e.state
step_keeps d e ring r steady there is =
    after_call (Keeps d.state) r d e is (keeps_itself d.state)
    (λ may. keeps_of d.state (step_outcome d.state ring).1 (step_kept d.state ring steady there) (step_words d.state ring))

pub timeout_keeps : (d e : MarkedDevice) (ring now : ℕ) (r : Result Expired TimeoutError) → IsSteady d.state → ring < length d.state.spec.rings → TimeoutIs ring now r d e → Keeps d.state e.state
timeout_keeps d e ring now r steady there is =
    after_call (Keeps d.state) r d e is (keeps_itself d.state)
    (λ may. keeps_of d.state (timeout_outcome d.state ring now).1 (timeout_kept d.state ring now steady there) (timeout_words d.state ring now))

pub cancel_keeps : (d e : MarkedDevice) (entity : ℕ) (r : Result (Unit {0}) CancelError) → IsSteady d.state → CancelIs entity r d e → Keeps d.state e.state
cancel_keeps d e entity r steady is =
    after_call (Keeps d.state) r d e is (keeps_itself d.state)
    (λ may. keeps_of d.state (cancelled_device d.state entity) (cancel_kept d.state entity steady) (λ g. refl))

pub report_keeps : (d e : MarkedDevice) (ring : ℕ) (ran : ℕ × ℕ) → IsSteadyMarked d → HasReported d ring ran e → Keeps d.state e.state
report_keeps d e ring ran steady (m, p, is, at, ran_is, left, may, stepped_is) =
    left_by (Keeps d.state) stepped_is
    (keeps_of d.state (step_outcome d.state ring).1 (step_kept d.state ring steady.state (ring_is_there d ring m steady is)) (step_words d.state ring))

pub finish_keeps : (d e : MarkedDevice) (ring now : ℕ) (r : Result Finished FinishError) → IsSteady d.state → length d.state.journal ≤ d.state.spec.max_jobs → ring < length d.state.spec.rings
    → FinishIs ring now r d e → MatchResult r (λ f. KeepsBut f.fence (word_of (Ended f.outcome)) d.state e.state) (λ x. Keeps d.state e.state)
finish_keeps d e ring now (Ok f) steady count there is =
    ended_keeps d.state e.state f.fence (word_of (Ended f.outcome)) count (after_finish d e ring now (Ok f) steady there is) (finish_words d.state e.state ring now f is.done.1)
finish_keeps d e ring now (Err x) steady count there is = subst (λ (m : MarkedDevice). Keeps d.state m.state) (sym is.refused.1) (keeps_itself d.state)

pub reap_keeps : (d e : MarkedDevice) (entity : ℕ) (r : Result ℕ ReapError) → IsSteady d.state → length d.state.journal ≤ d.state.spec.max_jobs
    → ReapIs entity r d e → MatchResult r (λ f. KeepsBut f 4 d.state e.state) (λ x. Keeps d.state e.state)
reap_keeps d e entity (Ok f) steady count is =
    ended_keeps d.state e.state f 4 count (after_reap d e entity (Ok f) steady is) (reap_words d.state e.state entity f is.done.0 is.done.1)
reap_keeps d e entity (Err x) steady count is = subst (λ (m : MarkedDevice). Keeps d.state m.state) (sym is.refused.1) (keeps_itself d.state)

pub armed_keeps : (d e : MarkedDevice) (job : Draft) (fence : ℕ) → ArmIs job fence d e → KeepsArmed job fence d.state e.state
armed_keeps d e job fence is =
    subst (λ n. KeepsArmed job n d.state e.state) (sym is.number)
    (subst (KeepsArmed job (length d.state.journal) d.state) (sym is.armed) (arm_keeps d.state job is.taken))
