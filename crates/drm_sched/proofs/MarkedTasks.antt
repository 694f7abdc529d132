-- A device stays busy with the tasks of other rings when a ring begins a packet and when it reports one; what went out
-- may be reported.
use Rattle.std.proofs.Common.{◌≡◌, ℕ, ◌<◌, ◌∙◌, length, set, Some, None, Option, Result, Ok, Err, sym, ap, subst, slice_get}
use Rattle.std.specs.Option.{option_map_or}
use Rattle.std.specs.Prelude.{IfOk, option_map}
use Rattle.drm_lists.proofs.Places.{stands_within}
use Rattle.drm_lists.proofs.Changed.{get_set_same, get_set_other}
use Rattle.drm_state.specs.declared.errors.StepError.{StepError}
use Rattle.drm_sched.specs.declared.outside.Begun.{Begun}
use Rattle.drm_sched.specs.declared.outside.Begun.TheVariants.{Work, Stalled}
use Rattle.drm_state.specs.declared.journal.JobRecord.{JobRecord}
use Rattle.drm_sched.specs.Begun.{HasBegun, HasReported, KeepsTasks, MayComeBack}
use Rattle.drm_sched.specs.Calls.{BeginIs}
use Rattle.drm_packet.specs.Parts.{part_effect}
use Rattle.drm_sched.specs.Marks.{Mark, MarkedDevice, IsBusy, mark_for, mark_of, packet_at, IsSteadyMarked}

-- whatever the mark of the ring becomes
still_busy : (d new : MarkedDevice) (ring : ℕ) (change : Option Mark) → new.marks ≡ set d.marks ring change → KeepsTasks d ring new
still_busy d new ring change marks task other busy =
    ap (λ ms. option_map_or (λ (m : Option Mark). m) (slice_get ms task.ring) None) marks
    ∙ (ap (λ (o : Option (Option Mark)). option_map_or (λ m. m) o None) (get_set_other d.marks ring task.ring change other) ∙ busy)

pub begun_keeps : (d new : MarkedDevice) (ring : ℕ) (b : Begun) → HasBegun d ring b new → KeepsTasks d ring new
begun_keeps d new ring (Work fence packet copy write read) (job, at, current, count, next, runs, write_is, read_is, new_is) =
    still_busy d new ring (Some _) (ap (λ (n : MarkedDevice). n.marks) new_is)
begun_keeps d new ring (Stalled fence) (stepped, same) = λ task other busy. subst (λ n. IsBusy n task) (sym same) busy

pub begin_keeps_tasks : (d e : MarkedDevice) (ring : ℕ) (r : Result Begun StepError) → BeginIs ring r d e → KeepsTasks d ring e
begin_keeps_tasks d e ring (Ok b) is = begun_keeps d e ring b is.1
begin_keeps_tasks d e ring (Err r) is = λ task other busy. subst (λ n. IsBusy n task) (sym is.1) busy

-- nothing but a mark has changed
pub begin_state : (d e : MarkedDevice) (ring : ℕ) (r : Result Begun StepError) → BeginIs ring r d e → e.state ≡ d.state
begin_state d e ring (Ok (Work fence packet copy write read)) is = ap (λ (m : MarkedDevice). m.state) is.1.8
begin_state d e ring (Ok (Stalled fence)) is = ap (λ (m : MarkedDevice). m.state) is.1.1
begin_state d e ring (Err r) is = ap (λ (m : MarkedDevice). m.state) is.1

-- what went out may be reported once its packet has run on it
begun_back : (d new : MarkedDevice) (ring : ℕ) (b : Begun) → ring < length d.marks → HasBegun d ring b new → MayComeBack new ring b
begun_back d new ring (Work fence packet copy write read) here (job, at, current, count, next, runs, write_is, read_is, new_is) =
    let m = mark_for d.state fence job copy in
    let was = stands_within d.marks ring here in
    let mark : mark_of new ring ≡ Some m =
    ap (λ (it : MarkedDevice). mark_of it ring) new_is ∙ ap (λ o. option_map_or (λ x. x) o None) (get_set_same d.marks ring was.0 (Some m) was.1) in
    let there : packet_at new.state.journal fence job.ran ≡ Some copy =
    ap (λ (it : MarkedDevice). packet_at it.state.journal fence job.ran) new_is
    ∙ (ap (λ o. option_map_or (λ (r : JobRecord). slice_get r.job.packets job.ran) o None) at ∙ next) in
    let ran : option_map (λ bytes. part_effect copy bytes read) write ≡ option_map (λ bytes. part_effect copy bytes m.read) m.write =
    ap (λ r. option_map (λ bytes. part_effect copy bytes r) write) read_is ∙ ap (option_map (λ bytes. part_effect copy bytes m.read)) write_is in
    (m, copy, mark, there, ran, read_is)
begun_back d new ring (Stalled fence) here begun = tt

pub begin_back : (d e : MarkedDevice) (ring : ℕ) (r : Result Begun StepError) → IsSteadyMarked d → ring < length d.state.spec.rings → BeginIs ring r d e → IfOk r (MayComeBack e ring)
begin_back d e ring (Ok b) steady there is = begun_back d e ring b (subst (λ n. ring < n) (sym steady.count) there) is.1
begin_back d e ring (Err r) steady there is = tt

pub report_keeps_tasks : (d new : MarkedDevice) (ring : ℕ) (ran : ℕ × ℕ) → HasReported d ring ran new → KeepsTasks d ring new
report_keeps_tasks d new ring ran (m, packet, is, at, ran_is, new_is, may, stepped) = still_busy d new ring None (ap (λ (n : MarkedDevice). n.marks) new_is)
