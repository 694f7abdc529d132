-- The calls of a device keep its parts whole while packets are out of it.
use Rattle.std.proofs.Common.{◌≡◌, ℕ, ◌<◌, List, length, Some, None, Option, Result, Ok, Err, refl, sym, ap, subst, ◌∙◌, slice_get}
use Rattle.std.specs.Prelude.{IfOk, IfErr, OnOk, Contains}
use Rattle.drm_types.specs.declared.spec.DeviceSpec.{DeviceSpec}
use Rattle.drm_job.specs.declared.Draft.{Draft}
use Rattle.drm_state.specs.declared.answer.Answer.{Answer}
use Rattle.drm_state.specs.declared.answer.Answer.TheVariants as answer
use Rattle.drm_state.specs.declared.answer.Expired.{Expired}
use Rattle.drm_state.specs.declared.answer.Finished.{Finished}
use Rattle.drm_state.specs.declared.answer.Picked.{Picked}
use Rattle.drm_state.specs.declared.answer.Refusal.{Refusal}
use Rattle.drm_state.specs.declared.answer.Stepped.{Stepped}
use Rattle.drm_state.specs.declared.errors.CancelError.{CancelError}
use Rattle.drm_state.specs.declared.errors.FinishError.{FinishError}
use Rattle.drm_state.specs.declared.errors.PickError.{PickError}
use Rattle.drm_state.specs.declared.errors.ReapError.{ReapError}
use Rattle.drm_state.specs.declared.errors.StepError.{StepError}
use Rattle.drm_state.specs.declared.errors.TimeoutError.{TimeoutError}
use Rattle.drm_state.specs.Arming.{armed_device}
use Rattle.drm_state.specs.Errors.{refusal_of_cancel}
use Rattle.drm_state.specs.Outcomes.{cancelled_device}
use Rattle.drm_state.specs.Refusals.{step_refusal, finish_refusal, cancel_refusal}
use Rattle.drm_state.specs.State.{DeviceState}
use Rattle.drm_table.specs.declared.table.Table.{Table}
use Rattle.drm_table.specs.Tables.{state_of, IsWhole}
use Rattle.drm_sched.specs.declared.heads.Heads.{Heads}
use Rattle.drm_sched.specs.declared.parts.Parts.{Parts}
use Rattle.drm_sched.specs.Calls.{IsAnswered, PickIs, StepIs, FinishIs, TimeoutIs, CancelIs, ReapIs}
use Rattle.drm_sched.specs.Marks.{ring_out, is_step_blocked}
use Rattle.drm_sched.specs.Parts.{marked_of, IsWholeMarked}
use Rattle.drm_sched.proofs.Calls.{after_call, none_out}
use Rattle.drm_sched.proofs.MarksOther.{LeavesMarks, marks_stay, pick_leaves_marks, finish_leaves_marks, timeout_leaves_marks, cancel_leaves_marks, reap_leaves_marks, arm_leaves_marks}
use Rattle.drm_sched.proofs.MarkedSteps.{step_leaves_marks}

-- the parts with other tables and heads
abbrev pub with_tables : Parts → Table → Heads → Parts
with_tables d n h = record d { table = n; heads = h }

-- ---- a call of the tables is one of the parts

-- where nothing but the tables refuses it
pub answered : {X E : Type 0} {refusal own : Option Refusal} {outcome : Answer × DeviceState} {why : E → Refusal} {told : X → Answer} (d : Parts) (n : Table) (h : Heads) (r : Result X E) → refusal ≡ own
    → IfOk r (λ x. (own ≡ None) × (outcome ≡ (told x, state_of n))) → IfErr r (λ e. (own ≡ Some (why e)) × (n ≡ d.table))
    → IsAnswered refusal outcome why told r (marked_of d) (marked_of (with_tables d n h))
answered d n h (Ok x) same ok err = record { done = (same ∙ ok.0, ok.1); refused = tt; marks = refl }
answered d n h (Err e) same ok err = record { done = tt; refused = (same ∙ err.0, ap (λ t. marked_of (with_tables d t h)) err.1); marks = refl }

pub cancel_answered : (d : Parts) (n : Table) (h : Heads) (entity : ℕ) (r : Result (Unit {0}) CancelError)
    → OnOk r ((cancel_refusal (state_of d.table) entity ≡ None) × (state_of n ≡ cancelled_device (state_of d.table) entity))
    → IfErr r (λ e. (cancel_refusal (state_of d.table) entity ≡ Some (refusal_of_cancel e)) × (n ≡ d.table)) → CancelIs entity r (marked_of d) (marked_of (with_tables d n h))
cancel_answered d n h entity (Ok u) ok err = record { done = (ok.0, ap (λ s. (answer.Ok, s)) (sym ok.1)); refused = tt; marks = refl }
cancel_answered d n h entity (Err e) ok err = record { done = tt; refused = (err.0, ap (λ t. marked_of (with_tables d t h)) err.1); marks = refl }

-- ---- and leaves them whole

-- parts of whose memory the same is out, and of which each mark stays
kept_marked : (d : Parts) (n : Table) (h : Heads) → IsWholeMarked d → IsWhole n → n.memory.out ≡ d.table.memory.out → LeavesMarks (marked_of d) (state_of n) → IsWholeMarked (with_tables d n h)
kept_marked d n h w whole out leaves = record {
  table = whole;
  steady = record {
    state = whole.steady;
    count = w.steady.count ∙ ap (λ (s : DeviceSpec). length s.rings) (sym leaves.spec);
    out = λ ring m is. (leaves.stays ring m is).0;
    apart = λ i j m o other is_m is_o b in_m in_o.
        w.steady.apart i j m o other is_m is_o b
        (subst (λ (bs : List ℕ). Contains bs b) (leaves.stays i m is_m).1 in_m) (subst (λ (bs : List ℕ). Contains bs b) (leaves.stays j o is_o).1 in_o);
  };
  out = record {
    outside = λ ring m is b c.
        ap (λ o. slice_get o b) out ∙ w.out.outside ring m is b (subst (λ (bs : List ℕ). Contains bs b) (leaves.stays ring m is).1 c);
    inside = λ b lt none.
        ap (λ o. slice_get o b) out
        ∙ w.out.inside b (subst (λ (s : DeviceSpec). b < length s.buffers) leaves.spec lt)
        (λ ring m is c. none ring m is (subst (λ (bs : List ℕ). Contains bs b) (sym (leaves.stays ring m is).1) c));
  };
}

-- and the parts after a call whose outcome leaves each mark
call_marked : {X E : Type 0} {refusal : Option Refusal} {outcome : Answer × DeviceState} {why : E → Refusal} {told : X → Answer} (d : Parts) (n : Table) (h : Heads) (r : Result X E) → IsWholeMarked d → IsWhole n
    → n.memory.out ≡ d.table.memory.out → IsAnswered refusal outcome why told r (marked_of d) (marked_of (with_tables d n h)) → (refusal ≡ None → LeavesMarks (marked_of d) outcome.1)
    → IsWholeMarked (with_tables d n h)
call_marked d n h r w whole out is leaves =
    kept_marked d n h w whole out (after_call (LeavesMarks (marked_of d)) r (marked_of d) (marked_of (with_tables d n h)) is (marks_stay (marked_of d) w.steady) leaves)

pub pick_marked : (d : Parts) (n : Table) (h : Heads) (ring now : ℕ) (r : Result Picked PickError) → IsWholeMarked d → ring < length d.table.spec.rings → IsWhole n
    → n.memory.out ≡ d.table.memory.out → PickIs ring now r (marked_of d) (marked_of (with_tables d n h)) → IsWholeMarked (with_tables d n h)
pick_marked d n h ring now r w there whole out is =
    call_marked d n h r w whole out is
    (λ may. pick_leaves_marks (marked_of d) ring now w.steady there may)

pub step_marked : (d : Parts) (n : Table) (h : Heads) (ring : ℕ) (r : Result Stepped StepError) → IsWholeMarked d → ring < length d.table.spec.rings → IsWhole n
    → n.memory.out ≡ d.table.memory.out → StepIs ring r (marked_of d) (marked_of (with_tables d n h)) → IsWholeMarked (with_tables d n h)
step_marked d n h ring r w there whole out is =
    call_marked d n h r w whole out is
    (λ may. step_leaves_marks (marked_of d) ring w.steady there (none_out (is_step_blocked (marked_of d) ring) (step_refusal (state_of d.table) ring) may).0)

pub finish_marked : (d : Parts) (n : Table) (h : Heads) (ring now : ℕ) (r : Result Finished FinishError) → IsWholeMarked d → ring < length d.table.spec.rings → IsWhole n
    → n.memory.out ≡ d.table.memory.out → FinishIs ring now r (marked_of d) (marked_of (with_tables d n h)) → IsWholeMarked (with_tables d n h)
finish_marked d n h ring now r w there whole out is =
    call_marked d n h r w whole out is
    (λ may. let none = none_out (ring_out (marked_of d) ring) (finish_refusal (state_of d.table) ring) may in
    finish_leaves_marks (marked_of d) ring now w.steady there none.0 none.1)

pub timeout_marked : (d : Parts) (n : Table) (h : Heads) (ring now : ℕ) (r : Result Expired TimeoutError) → IsWholeMarked d → ring < length d.table.spec.rings → IsWhole n
    → n.memory.out ≡ d.table.memory.out → TimeoutIs ring now r (marked_of d) (marked_of (with_tables d n h)) → IsWholeMarked (with_tables d n h)
timeout_marked d n h ring now r w there whole out is =
    call_marked d n h r w whole out is
    (λ may. timeout_leaves_marks (marked_of d) ring now w.steady there (none_out (ring_out (marked_of d) ring) None may).0)

pub cancel_marked : (d : Parts) (n : Table) (h : Heads) (entity : ℕ) (r : Result (Unit {0}) CancelError) → IsWholeMarked d → IsWhole n
    → n.memory.out ≡ d.table.memory.out → CancelIs entity r (marked_of d) (marked_of (with_tables d n h)) → IsWholeMarked (with_tables d n h)
cancel_marked d n h entity r w whole out is =
    call_marked d n h r w whole out is
    (λ may. cancel_leaves_marks (marked_of d) entity w.steady)

pub reap_marked : (d : Parts) (n : Table) (h : Heads) (entity : ℕ) (r : Result ℕ ReapError) → IsWholeMarked d → IsWhole n
    → n.memory.out ≡ d.table.memory.out → ReapIs entity r (marked_of d) (marked_of (with_tables d n h)) → IsWholeMarked (with_tables d n h)
reap_marked d n h entity r w whole out is =
    call_marked d n h r w whole out is
    (λ may. reap_leaves_marks (marked_of d) entity w.steady may)

pub arm_marked : (d : Parts) (n : Table) (h : Heads) (job : Draft) → IsWholeMarked d → IsWhole n → n.memory.out ≡ d.table.memory.out
    → state_of n ≡ armed_device (state_of d.table) job → IsWholeMarked (with_tables d n h)
arm_marked d n h job w whole out armed =
    kept_marked d n h w whole out (subst (LeavesMarks (marked_of d)) (sym armed) (arm_leaves_marks (marked_of d) job w.steady))
