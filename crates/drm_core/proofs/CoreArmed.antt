-- An arming of a job by its core: the reservations of its buffers gain its uses, and the plans of other contexts stand.
use Rattle.std.proofs.Common.{◌≡◌, ℕ, suc, ◌+◌, ◌<◌, Bool, true, false, ◌&&◌, ◌==◌, List, [], ◌∷◌, ◌++◌, length, map, Some, None, Option, refl, sym, ap, subst, ◌∙◌, inl, inr, arith, slice_get, get_or}
use Rattle.std.specs.declared.alloc.Global.{Global}
use Rattle.std.specs.Prelude.{Vec, vec_len, IsTrue, option_map, option_and_then, find}
use Rattle.std.specs.Option.{option_map_or}
use Rattle.std.specs.List.{list_any, list_all, enumerate_from}
use Rattle.std.proofs.lemmas.Bool.{and_parts, eqb-true}
use Rattle.std.proofs.lemmas.Option.{slice_get_within, slice_get-get_or}
use Rattle.std.specs.Vec.{with_items}
use Rattle.std.proofs.lemmas.List.{length-map, with_items_is}
use Rattle.std.proofs.lemmas.List.Elements.{All-weaker}
use Rattle.drm_types.specs.declared.access.Access.{Access}
use Rattle.drm_types.specs.declared.access.Usage.{Usage}
use Rattle.drm_types.specs.Usages.{added_usage}
use Rattle.drm_job.specs.declared.Draft.{Draft}
use Rattle.drm_job.specs.Conflicts.{conflicts, must_wait}
use Rattle.drm_job.specs.Fault.{IsJob, buffers_of}
use Rattle.drm_fence.specs.declared.timeline.FenceState.{FenceState}
use Rattle.drm_fence.specs.Fences.{has_ended_at}
use Rattle.drm_resv.specs.Entries.{added_to}
use Rattle.drm_resv.specs.Reservation.{Reservation, WithRoom}
use Rattle.drm_state.specs.declared.journal.JobRecord.{JobRecord}
use Rattle.drm_types.specs.Limits.{spec_fault}
use Rattle.drm_sched.specs.Marks.{MarkedDevice}
use Rattle.drm_state.specs.declared.plans.Plan.{Plan}
use Rattle.drm_core.specs.declared.cores.CoreTable.{CoreTable}
use Rattle.drm_state.specs.State.{DeviceState}
use Rattle.drm_core.specs.State.{CoreState}
use Rattle.drm_state.specs.Arming.{new_record, armed_device, armed_reservation, armed_reservations}
use Rattle.drm_core.specs.Outcomes.{armed_core}
use Rattle.drm_state.specs.Reservation.{usage_at, is_signaled}
use Rattle.drm_core.specs.Steady.{IsSteadyCore}
use Rattle.drm_state.specs.Records.{fence_state_of}
use Rattle.drm_core.specs.Cores.{core_state, planned_by, PlanStands, IsCore}
use Rattle.drm_state.specs.Plans.{MeetsPlan, DepsCover}
use Rattle.drm_state.specs.Uses.{HasUse}
use Rattle.drm_core.specs.Planning.{HaveUses, ShareNoBuffer}
use Rattle.drm_lists.proofs.Places.{to_map, from_map, get_numbered, get_push_cases, get_before_push, list_ext}
use Rattle.drm_lists.proofs.Searches.{find_first, any_at}
use Rattle.drm_core.proofs.CoreSteps.{arm_kept}
use Rattle.drm_core.proofs.CoreFacts.{nothing_out_kept}
use Rattle.drm_core.proofs.DeviceFacts.{ended_alike}
use Rattle.drm_core.specs.Laws.{DeviceLaws}

length-enumerate : {X : Type 0} (n : ℕ) (xs : List X) → length (enumerate_from n xs) ≡ length xs
length-enumerate n [] = refl
length-enumerate n (x ∷ xs) = ap suc (length-enumerate (n + 1) xs)

-- the reservations after the uses were added are those of the definition
pub reservations_armed : (js : List JobRecord) (fs : List FenceState) (job : Draft) (old new : List WithRoom) → fs ≡ map fence_state_of js
    → HaveUses (has_ended_at fs) (length js) job old new → map (λ r. r.kept) new ≡ armed_reservations js job (map (λ r. r.kept) old)
reservations_armed js fs job old new tie uses =
    list_ext (map kept_of new) (armed_reservations js job (map kept_of old)) counts each
  where
    kept_of : WithRoom → Reservation
    kept_of r = r.kept

    armed : ℕ × Reservation → Reservation
    armed n = armed_reservation js job n.0 n.1

    counts : length (map kept_of new) ≡ length (map armed (enumerate_from 0 (map kept_of old)))
    counts =
        length-map new kept_of
        ∙ (uses.count ∙ sym (length-map (enumerate_from 0 (map kept_of old)) armed ∙ (length-enumerate 0 (map kept_of old) ∙ length-map old kept_of)))

    by_use : (k : ℕ) (r m : WithRoom) (o : Option Usage) → usage_at k job ≡ o → HasUse (has_ended_at fs) (length js) job k r m → m.kept ≡ armed_reservation js job k r.kept
    by_use k r m None is has =
        ap kept_of (has.1 is)
        ∙ sym (ap (λ o. option_map_or (λ u. added_to (is_signaled js) r.kept (record { fence = length js; entity = job.entity; usage = u })) o r.kept) is)
    by_use k r m (Some u) is has =
        has.0 u is
        ∙ (ap (λ ended. added_to ended r.kept (record { fence = length js; entity = job.entity; usage = u })) (ended_alike js fs tie)
        ∙ sym (ap (λ o. option_map_or (λ u. added_to (is_signaled js) r.kept (record { fence = length js; entity = job.entity; usage = u })) o r.kept) is))

    each : (k : ℕ) (x : Reservation) → slice_get (map kept_of new) k ≡ Some x → slice_get (map armed (enumerate_from 0 (map kept_of old))) k ≡ Some x
    each k x at =
        let m = from_map kept_of new k x at in
        let lt : k < length old = subst (λ n. k < n) uses.count (slice_get_within new k m.0 m.1) in
        let r = get_or old k m.0 in
        let at_old : slice_get old k ≡ Some r = slice_get-get_or old k m.0 lt in
        let u = uses.each k r at_old in
        let same : u.0 ≡ m.0 = cc (u.1, m.1) in
        let kept : u.0.kept ≡ armed_reservation js job k r.kept = by_use k r u.0 (usage_at k job) refl u.2 in
        let number : 0 + k ≡ k = omega arith in
        to_map armed (enumerate_from 0 (map kept_of old)) k (0 + k, r.kept) (get_numbered (map kept_of old) 0 k r.kept (to_map kept_of old k r at_old))
        ∙ (ap (λ n. Some (armed_reservation js job n r.kept)) number ∙ ap (λ z. Some z) (sym (m.2 ∙ (ap kept_of (sym same) ∙ kept))))

-- a buffer that a job uses stands among those that it declares
pub used_declared : (job : Draft) (buffer : ℕ) (usage : Usage) → usage_at buffer job ≡ Some usage → (i : ℕ) × (d : ℕ × Access) × (slice_get job.declared i ≡ Some d) × (d.0 ≡ buffer)
used_declared job buffer usage is = by_find (find (λ (d : ℕ × Access). d.0 == buffer) job.declared) refl is
  where
    by_find : (o : Option (ℕ × Access)) → find (λ (d : ℕ × Access). d.0 == buffer) job.declared ≡ o → option_map added_usage (option_map (λ (d : ℕ × Access). d.1) o) ≡ Some usage
        → (i : ℕ) × (d : ℕ × Access) × (slice_get job.declared i ≡ Some d) × (d.0 ≡ buffer)
    by_find None at none = absurd (cc (none))
    by_find (Some d) at some =
        let found = find_first (λ (d : ℕ × Access). d.0 == buffer) job.declared d at in
        (found.0, d, found.1, eqb-true d.0 buffer found.2)

-- jobs that declare no buffer in common do not conflict
pub apart_conflicts : (job other : Draft) → ShareNoBuffer job other → conflicts job other ≡ true → ⊥
apart_conflicts job other apart meets =
    let first = any_at (λ (d : ℕ × Access). list_any (λ (e : ℕ × Access). (d.0 == e.0) && must_wait d.1 e.1) other.declared) job.declared meets in
    let second = any_at (λ (e : ℕ × Access). (first.1.0 == e.0) && must_wait first.1.1 e.1) other.declared first.3 in
    apart first.0 second.0 first.1 second.1 first.2 second.2 (eqb-true first.1.0 second.1.0 (and_parts (first.1.0 == second.1.0) (must_wait first.1.1 second.1.1) second.3).0)

-- the plan of another context stands after the arming
pub plan_stands_on : (c n : CoreTable) (ctx : ℕ) (plan : Plan) (job : Draft) (ended : ℕ → Bool) → n.device.state ≡ armed_device c.device.state job → n.holders.items ≡ c.holders.items
    → HaveUses ended (length c.device.state.journal) job c.reservations.items n.reservations.items → ShareNoBuffer job plan.job → PlanStands c ctx plan → PlanStands n ctx plan
plan_stands_on c n ctx plan job ended armed holders uses apart stands = record {
  covers = subst (λ d. DepsCover d plan.job plan.deps) (sym armed) (record {
    covers = λ i x at meets going.
        elim (get_push_cases c.device.state.journal (new_record c.device.state job) i x at) [
          | inl old ↦ stands.covers.covers i x old meets going
          | inr it ↦ absurd (apart_conflicts job plan.job apart (subst (λ (z : JobRecord). conflicts z.job plan.job ≡ true) it.1 meets))
        ];
    of_jobs = All-weaker (MeetsPlan c.device.state.journal plan.job) (MeetsPlan (c.device.state.journal ++ new_record c.device.state job ∷ []) plan.job)
        (λ e is. (is.0, get_before_push c.device.state.journal (new_record c.device.state job) e.1 is.0 is.1, is.2, is.3)) plan.deps stands.covers.of_jobs;
  });
  holds = subst (λ hs. list_all (λ b. option_map_or (λ h. h == ctx) (option_and_then (λ o. o) (slice_get hs b)) false) (buffers_of plan.job) ≡ true) (sym holders) stands.holds;
  room = λ b r at used. room_of b r at used;
}
  where
    not_used : (b : ℕ) → (usage : Usage) × (usage_at b plan.job ≡ Some usage) → usage_at b job ≡ None
    not_used b used = by_use (usage_at b job) refl
      where
        by_use : (o : Option Usage) → usage_at b job ≡ o → o ≡ None
        by_use None is = refl
        by_use (Some u) is =
            let x = used_declared job b u is in
            let y = used_declared plan.job b used.0 used.1 in
            absurd (apart x.0 y.0 x.1 y.1 x.2 y.2 (x.3 ∙ sym y.3))

    room_of : (b : ℕ) (r : WithRoom) → slice_get n.reservations.items b ≡ Some r → (usage : Usage) × (usage_at b plan.job ≡ Some usage) → IsTrue r.has_room
    room_of b r at used =
        let lt : b < length c.reservations.items = subst (λ k. b < k) uses.count (slice_get_within n.reservations.items b r at) in
        let old = get_or c.reservations.items b r in
        let at_old : slice_get c.reservations.items b ≡ Some old = slice_get-get_or c.reservations.items b r lt in
        let u = uses.each b old at_old in
        let same : u.0 ≡ r = cc (u.1, at) in
        let is_old : r ≡ old = sym same ∙ u.2.1 (not_used b used) in
        subst (λ (z : WithRoom). IsTrue z.has_room) (sym is_old) (stands.room b old at_old used)

-- the uses that were added to the vector's items
pub uses_in_vector : (c : CoreTable) (ended : ℕ → Bool) (fence : ℕ) (job : Draft) (old new : List WithRoom) → fence ≡ length c.device.state.journal → old ≡ c.reservations.items
    → HaveUses ended fence job old new → HaveUses ended (length c.device.state.journal) job c.reservations.items (with_items c.reservations new).items
uses_in_vector c ended fence job old new fence_is old_is uses =
    let count : length new ≡ vec_len c.reservations = uses.count ∙ (ap length old_is ∙ sym c.reservations.ok.0) in
    subst (λ xs. HaveUses ended (length c.device.state.journal) job c.reservations.items xs) (sym (with_items_is c.reservations new count))
    (subst (λ n. HaveUses ended n job c.reservations.items new) fence_is
    (subst (λ xs. HaveUses ended fence job xs new) old_is uses))

-- the core after the arming
abbrev pub armed_parts : CoreTable → MarkedDevice → Vec WithRoom Global → CoreTable
armed_parts c u rs = record c { device = u; reservations = rs }

pub core_armed : (laws : DeviceLaws) (c : CoreTable) (u : MarkedDevice) (rs : Vec WithRoom Global) (job : Draft) (fs : List FenceState) → IsCore c → IsJob c.device.state.spec job
    → fs ≡ map fence_state_of c.device.state.journal → HaveUses (has_ended_at fs) (length c.device.state.journal) job c.reservations.items rs.items
    → u.state ≡ armed_device c.device.state job → u.marks ≡ c.device.marks
    → ((ctx : ℕ) (other : Plan) → planned_by c ctx ≡ Some other → ShareNoBuffer job other.job)
    → (core_state (armed_parts c u rs) ≡ armed_core (core_state c) job) × IsCore (armed_parts c u rs)
core_armed laws c u rs job fs core is_job tie uses armed marks apart =
    let state : core_state (armed_parts c u rs) ≡ armed_core (core_state c) job =
    ap (λ d. let s : CoreState = record (core_state c) { device = d; reservations = map (λ r. r.kept) rs.items } in s) armed
    ∙ ap (λ xs. let s : CoreState = record (core_state c) { device = armed_device c.device.state job; reservations = xs } in s)
    (reservations_armed c.device.state.journal fs job c.reservations.items rs.items tie uses) in (
      state,
      record {
        steady = subst IsSteadyCore (sym state) (arm_kept laws (core_state c) job core.steady is_job).steady;
        limits = ap (λ (d : DeviceState). spec_fault d.spec) armed ∙ core.limits;
        inside = nothing_out_kept c.device u core.inside marks;
        plans = λ ctx plan is. plan_stands_on c (armed_parts c u rs) ctx plan job (has_ended_at fs) armed refl uses (apart ctx plan is) (core.plans ctx plan is);
        reservation_count = uses.count ∙ (core.reservation_count ∙ ap (λ (d : DeviceState). length d.spec.buffers) (sym armed));
        holder_count = core.holder_count ∙ ap (λ (d : DeviceState). length d.spec.buffers) (sym armed);
        context_count = core.context_count;
        tickets = core.tickets;
      },
    )
