-- A packet that is out, and a device that waits for it.
use Rattle.std.proofs.Common.{◌≡◌, ℕ, zero, suc, Bool, true, false, List, [], ◌∷◌, Some, None, Option, refl, sym, ap, subst, ◌∙◌, slice_get, suc-le-suc, zero-le}
use Rattle.std.specs.Option.{option_map_or}
use Rattle.std.specs.List.{list_any}
use Rattle.std.specs.Prelude.{slice_set, is_none, not, ◌||◌, ◌==◌, ◌<◌, length}
use Rattle.drm_types.specs.Firsts.{when}
use Rattle.ww_lock.specs.declared.board.TaskChange.TheVariants.{Begins, Ends}
use Rattle.ww_lock.specs.Steps.{Turns}
use Rattle.drm_state.specs.declared.journal.JobRecord.{JobRecord}
use Rattle.drm_state.specs.declared.answer.Refusal.{Refusal}
use Rattle.drm_state.specs.declared.answer.Refusal.TheVariants.{Idle}
use Rattle.drm_sched.specs.declared.outside.Begun.TheVariants.{Work}
use Rattle.drm_sched.specs.Begun.{HasBegun, HasReported, IsReport, KeepsTasks, MayComeBack, MayRun, out_or}
use Rattle.drm_sched.specs.Marks.{Mark, MarkedDevice, Task, IsBusy, buffer_out, is_step_blocked, is_out, mark_for, mark_of, out_by, packet_at, ring_out}
use Rattle.drm_state.specs.Refusals.{step_refusal}
use Rattle.drm_state.specs.Ring.{current_of}
use Rattle.drm_gpu.specs.declared.running.OutPacket.{OutPacket}
use Rattle.drm_gpu.specs.Laws.{reflexive}
use Rattle.drm_gpu.specs.Passes.{GrowsTo}
use Rattle.drm_gpu.specs.Running.{IsPacketOfItsJob, task_of, written}

-- a task of another ring, where the ring has none
other_ring : (d : MarkedDevice) (t s : Task) → mark_of d t.ring ≡ None → IsBusy d s → s.ring ≡ t.ring → ⊥
other_ring d t s free busy same = let never : None ≡ Some s.mark = sym free ∙ (ap (mark_of d) (sym same) ∙ busy) in cc (never)

-- a device that begins to wait for a task goes on to wait for the others
pub begins : (d e : MarkedDevice) (t : Task) → mark_of d t.ring ≡ None → IsBusy e t → KeepsTasks d t.ring e → Turns IsBusy d e None (Begins t)
begins d e t free busy keeps = (refl, (λ b. other_ring d t t free b refl), busy, λ s b. keeps s (other_ring d t s free b) b)

-- one of a ring is the only one
same_task : (d : MarkedDevice) (s t : Task) → IsBusy d s → IsBusy d t → s.ring ≡ t.ring → s ≡ t
same_task d s t a b same =
    let mark : s.mark ≡ t.mark = let both : Some s.mark ≡ Some t.mark = sym a ∙ (ap (mark_of d) same ∙ b) in cc (both) in
    λ i. record { ring = same i; mark = mark i }

pub ends : (d e : MarkedDevice) (t : Task) → IsBusy d t → KeepsTasks d t.ring e → Turns IsBusy d e (Some t) Ends
ends d e t busy keeps = (t, refl, λ s other b. keeps s (λ same. other (same_task d s t b busy same)) b)

-- the row of a ring that was marked is the mark
marked : (rows : List (Option Mark)) (ring : ℕ) (mark m : Mark) → option_map_or (λ o. o) (slice_get (slice_set rows ring (Some mark)) ring) None ≡ Some m
    → option_map_or (λ o. o) (slice_get (slice_set rows ring (Some mark)) ring) None ≡ Some mark
marked [] ring mark m is = absurd (cc (is))
marked (row ∷ rows) zero mark m is = refl
marked (row ∷ rows) (suc ring) mark m is = marked rows ring mark m is

-- a device that sent a packet out waits for it
pub waits_for : (d e : MarkedDevice) (out : OutPacket) → HasBegun d out.ring (Work out.fence out.packet out.copy out.write out.read) e
    → MayComeBack e out.ring (Work out.fence out.packet out.copy out.write out.read) → IsBusy e (task_of out)
waits_for d e out (job, at, current, count, next, runs, write_is, read_is, e_is) back =
    let mark = mark_for d.state out.fence job out.copy in
    let there : mark_of e out.ring ≡ Some mark =
    ap (λ x. mark_of x out.ring) e_is ∙ marked d.marks out.ring mark back.0 (ap (λ x. mark_of x out.ring) (sym e_is) ∙ back.2) in
    let same : mark ≡ (task_of out).mark = λ i. record { fence = out.fence; packet = sym count i; write = sym write_is i; read = sym read_is i } in
    there ∙ ap Some same

-- and has it of its job
pub sent_of_job : (d e : MarkedDevice) (out : OutPacket) → HasBegun d out.ring (Work out.fence out.packet out.copy out.write out.read) e
    → MayRun (Work out.fence out.packet out.copy out.write out.read) → IsPacketOfItsJob e out
sent_of_job d e out (job, at, current, count, next, runs, write_is, read_is, e_is) may = record {
  copy =
      ap (λ x. packet_at x.state.journal out.fence out.packet) e_is
      ∙ (ap (λ o. option_map_or (λ (r : JobRecord). slice_get r.job.packets out.packet) o None) at ∙ (ap (λ n. slice_get job.job.packets n) count ∙ next));
  runs = may;
}

-- a ring out of whose way everything is has no packet out
pub none_out : (d : MarkedDevice) (ring : ℕ) → is_step_blocked d ring ≡ false → mark_of d ring ≡ None
none_out d ring free =
    elim (mark_of d ring) as (λ o. mark_of d ring ≡ o → o ≡ None) [
      | None ↦ λ e. refl
      | Some m ↦ λ e. absurd (let never : true ≡ false = ap (λ (o : Option Mark). not (is_none o) || buffer_out d ring) (sym e) ∙ free in cc (never))
    ] refl

-- a step that no packet blocks is refused only where the ring is idle
pub only_idle : (d : MarkedDevice) (ring : ℕ) (b : Bool) (r : Refusal) → b ≡ false → out_or b (step_refusal d.state ring) ≡ Some r → out_or b (step_refusal d.state ring) ≡ Some Idle
only_idle d ring true r free is = absurd (cc (free))
only_idle d ring false r free is =
    elim (is_none (current_of d.state ring)) as (λ k. when k Idle ≡ Some r → when k Idle ≡ Some Idle) [
      | true ↦ λ e. refl
      | false ↦ λ e. absurd (cc (e))
    ] is

-- a device that sent a packet out is as it was but for its marks
pub begun_grows : (d e : MarkedDevice) (out : OutPacket) → HasBegun d out.ring (Work out.fence out.packet out.copy out.write out.read) e → GrowsTo d e
begun_grows d e out (job, at, current, count, next, runs, write_is, read_is, e_is) = subst (GrowsTo d) (sym e_is) (reflexive d)

pub begun_state : (d e : MarkedDevice) (out : OutPacket) → HasBegun d out.ring (Work out.fence out.packet out.copy out.write out.read) e → e.state ≡ d.state
begun_state d e out (job, at, current, count, next, runs, write_is, read_is, e_is) = ap (λ (m : MarkedDevice). m.state) e_is

-- where no ring has a packet out, no buffer is out
all_in : (f : Option Mark → Bool) (rows : List (Option Mark)) → f None ≡ false → ((k : ℕ) → k < length rows → option_map_or (λ o. o) (slice_get rows k) None ≡ None) → list_any f rows ≡ false
all_in f [] none all = refl
all_in f (row ∷ rows) none all =
    let is : row ≡ None = all 0 (suc-le-suc zero-le) in
    ap (λ o. f o || list_any f rows) is ∙ (ap (λ b. b || list_any f rows) none ∙ all_in f rows none (λ k lt. all (suc k) (suc-le-suc lt)))

has_none : (d : MarkedDevice) (ring : ℕ) → ring_out d ring ≡ false → mark_of d ring ≡ None
has_none d ring free =
    elim (mark_of d ring) as (λ o. not (is_none o) ≡ false → o ≡ None) [
      | None ↦ λ e. refl
      | Some m ↦ λ e. absurd (cc (e))
    ] free

-- a ring that is not there has none out
row_idle : (rows : List (Option Mark)) (ring : ℕ) → ((k : ℕ) → k < length rows → option_map_or (λ o. o) (slice_get rows k) None ≡ None) → option_map_or (λ o. o) (slice_get rows ring) None ≡ None
row_idle [] ring all = refl
row_idle (row ∷ rows) zero all = all 0 (suc-le-suc zero-le)
row_idle (row ∷ rows) (suc ring) all = row_idle rows ring (λ k lt. all (suc k) (suc-le-suc lt))

pub no_ring_out : (d : MarkedDevice) → ((ring : ℕ) → ring < length d.marks → ring_out d ring ≡ false) → (ring : ℕ) → ring_out d ring ≡ false
no_ring_out d free ring = ap (λ m. not (is_none m)) (row_idle d.marks ring (λ k lt. has_none d k (free k lt)))

pub nothing_out : (d : MarkedDevice) → ((ring : ℕ) → ring_out d ring ≡ false) → (b : ℕ) → is_out d b ≡ false
nothing_out d free b = all_in (λ m. list_any (λ o. o == b) (out_by d.state.journal m)) d.marks refl (λ k lt. has_none d k (free k))

-- with nothing out, a call is refused as its own refusal says
pub not_out : (b : Bool) (o x : Option Refusal) → b ≡ false → out_or b o ≡ x → o ≡ x
not_out true o x free is = absurd (cc (free))
not_out false o x free is = is

-- a packet is that of its job on every later device
pub job_later : (d e : MarkedDevice) (out : OutPacket) → IsPacketOfItsJob d out → GrowsTo d e → IsPacketOfItsJob e out
job_later d e out is on = record { copy = later (slice_get d.state.journal out.fence) refl; runs = is.runs }
  where
    later : (o : Option JobRecord) → slice_get d.state.journal out.fence ≡ o → packet_at e.state.journal out.fence out.packet ≡ Some out.copy
    later None at = absurd (let never : None ≡ Some out.copy = ap (λ o. option_map_or (λ (r : JobRecord). slice_get r.job.packets out.packet) o None) (sym at) ∙ is.copy in cc (never))
    later (Some r) at =
        let n = on.journal out.fence r at in
        ap (λ o. option_map_or (λ (r : JobRecord). slice_get r.job.packets out.packet) o None) n.1
        ∙ (ap (λ job. slice_get job.packets out.packet) n.2.job ∙ (ap (λ o. option_map_or (λ (r : JobRecord). slice_get r.job.packets out.packet) o None) (sym at) ∙ is.copy))

-- and may be reported once it ran
pub may_report : (d : MarkedDevice) (out : OutPacket) → IsPacketOfItsJob d out → IsBusy d (task_of out) → IsReport d out.ring (written out) out.read
may_report d out is busy = ((task_of out).mark, out.copy, busy, is.copy, refl, refl)

-- what was reported then is that packet
pub reported_is : (d e : MarkedDevice) (out : OutPacket) (ran : ℕ × ℕ) → IsBusy d (task_of out) → HasReported d out.ring ran e → HasReported d out.ring (out.fence, out.packet) e
reported_is d e out ran busy (m, packet, mark, at, is, new, none, step) =
    let same : (task_of out).mark ≡ m = let both : Some (task_of out).mark ≡ Some m = sym busy ∙ mark in cc (both) in
    (m, packet, mark, at, ap (λ (x : Mark). (x.fence, x.packet)) same, new, none, step)
