-- What a submission and a plan find: room, dependencies, and plans of other contexts that stand.
use Rattle.std.proofs.Common.{◌≡◌, ℕ, ◌<◌, true, false, ◌==◌, List, [], ◌∷◌, length, map, Some, None, Option, Result, Ok, Err, refl, sym, ap, subst, ◌∙◌, inl, inr, slice_get, get_or}
use Rattle.std.specs.declared.alloc.Global.{Global}
use Rattle.std.specs.Prelude.{Vec, vec_len, OnOk, is_err, is_some, IsTrue, option_map, option_and_then, find}
use Rattle.std.specs.Option.{option_map_or}
use Rattle.std.specs.Vec.{with_items}
use Rattle.std.proofs.lemmas.Bool.{both_ways}
use Rattle.std.proofs.lemmas.Option.{slice_get_within, slice_get-get_or}
use Rattle.std.proofs.lemmas.List.{length-map, with_items_is}
use Rattle.drm_types.specs.declared.access.Access.{Access}
use Rattle.drm_types.specs.declared.access.Usage.{Usage}
use Rattle.drm_types.specs.Firsts.{first_of}
use Rattle.drm_job.specs.declared.Draft.{Draft}
use Rattle.drm_job.specs.declared.JobFault.{JobFault}
use Rattle.drm_job.specs.Fault.{job_fault, buffers_of}
use Rattle.drm_resv.specs.Reservation.{Reservation, WithRoom}
use Rattle.drm_state.specs.declared.plans.Plan.{Plan}
use Rattle.drm_core.specs.declared.cores.CoreTable.{CoreTable}
use Rattle.drm_state.specs.declared.answer.Answer.{Answer}
use Rattle.drm_state.specs.declared.answer.Answer.TheVariants as answer
use Rattle.drm_core.specs.declared.event.Event.{Event}
use Rattle.drm_core.specs.declared.event.Event.TheVariants as event
use Rattle.drm_state.specs.declared.answer.Refusal.{Refusal}
use Rattle.drm_state.specs.declared.answer.Refusal.TheVariants.{Faulty, Held, Memory}
use Rattle.drm_core.specs.State.{CoreState}
use Rattle.drm_core.specs.Context.{holds, is_held}
use Rattle.drm_core.specs.Refusals.{early_refusal, late_refusal}
use Rattle.drm_state.specs.Refusals.{arm_refusal}
use Rattle.drm_core.specs.Outcomes.{outcome_of_event, armed_core}
use Rattle.drm_core.specs.Step.{unless_refused, reply, Step}
use Rattle.drm_core.specs.Steady.{IsSteadyCore}
use Rattle.drm_state.specs.Reservation.{usage_at, Fits}
use Rattle.drm_core.specs.Cores.{core_state, planned_by, planned_in, PlanStands, IsCore}
use Rattle.drm_core.specs.Planning.{MoreRoom, HasRoomFor, AreRoomy, ShareNoBuffer, is_held_in}
use Rattle.drm_sched.specs.Marks.{MarkedDevice}
use Rattle.drm_core.specs.declared.cores.ContextRow.{ContextRow}
use Rattle.drm_core.proofs.Locks.{reply_is}
use Rattle.drm_lists.proofs.Places.{to_map, from_map, list_ext}
use Rattle.drm_lists.proofs.Searches.{all_at}
use Rattle.drm_core.proofs.Lists.{each_fails}
use Rattle.drm_core.proofs.CoreArmed.{used_declared}

-- the refusals of an event, one after the other
pub reply_early : (s : CoreState) (e : Event Draft) (r : Refusal) → early_refusal s e ≡ Some r → reply s e ≡ (answer.Refused r, s)
reply_early s e r is = ap (λ o. unless_refused (first_of (o ∷ late_refusal s e ∷ [])) s (outcome_of_event s e)) is

pub reply_late : (s : CoreState) (e : Event Draft) (r : Refusal) → early_refusal s e ≡ None → late_refusal s e ≡ Some r → reply s e ≡ (answer.Refused r, s)
reply_late s e r early late =
    ap (λ o. unless_refused (first_of (o ∷ late_refusal s e ∷ [])) s (outcome_of_event s e)) early
    ∙ ap (λ o. unless_refused (first_of (o ∷ [])) s (outcome_of_event s e)) late

-- what a submission tests before it takes memory
pub submit_early : (s : CoreState) (draft : Draft) (o : Option ℕ) → job_fault s.device.spec draft ≡ None → find (is_held s) (buffers_of draft) ≡ o
    → early_refusal s (event.Submit draft) ≡ option_map Held o
submit_early s draft o none is =
    ap (λ f. first_of (option_map Faulty f ∷ option_map Held (find (is_held s) (buffers_of draft)) ∷ [])) none
    ∙ (ap (λ b. first_of (option_map Held b ∷ [])) is ∙ one_of o)
  where
    one_of : (o : Option ℕ) → first_of (option_map Held o ∷ []) ≡ option_map Held o
    one_of None = refl
    one_of (Some b) = refl

-- more room leaves what the reservations keep
pub kept_same : (old new : List WithRoom) → MoreRoom old new → map (λ r. r.kept) new ≡ map (λ r. r.kept) old
kept_same old new more = list_ext (map kept_of new) (map kept_of old) (length-map new kept_of ∙ (more.count ∙ sym (length-map old kept_of))) each
  where
    kept_of : WithRoom → Reservation
    kept_of r = r.kept

    each : (k : ℕ) (x : Reservation) → slice_get (map kept_of new) k ≡ Some x → slice_get (map kept_of old) k ≡ Some x
    each k x at =
        let m = from_map kept_of new k x at in
        let lt : k < length old = subst (λ n. k < n) more.count (slice_get_within new k m.0 m.1) in
        let r = get_or old k m.0 in
        let at_old = slice_get-get_or old k m.0 lt in
        let n = more.each k r at_old in
        let same : n.0 ≡ m.0 = cc (n.1, m.1) in
        to_map kept_of old k r at_old ∙ ap (λ z. Some z) (sym n.2 ∙ (ap kept_of same ∙ sym m.2))

-- the core with more room
pub roomier : (c : CoreTable) (rs : Vec WithRoom Global) → IsCore c → MoreRoom c.reservations.items rs.items
    → (core_state (record c { reservations = rs }) ≡ core_state c) × IsCore (record c { reservations = rs })
roomier c rs core more =
    let state : core_state (record c { reservations = rs }) ≡ core_state c =
    ap (λ xs. let s : CoreState = record (core_state c) { reservations = xs } in s) (kept_same c.reservations.items rs.items more) in (
      state,
      record {
        steady = subst IsSteadyCore (sym state) core.steady;
        limits = core.limits;
        inside = core.inside;
        plans = λ ctx plan is.
            let stands = core.plans ctx plan is in
            record { covers = stands.covers; holds = stands.holds; room = λ b r at used. room_of plan stands b r at used };
        reservation_count = more.count ∙ core.reservation_count;
        holder_count = core.holder_count;
        context_count = core.context_count;
        tickets = core.tickets;
      },
    )
  where
    room_of : {ctx : ℕ} (plan : Plan) → PlanStands c ctx plan → (b : ℕ) (r : WithRoom) → slice_get rs.items b ≡ Some r → (usage : Usage) × (usage_at b plan.job ≡ Some usage) → IsTrue r.has_room
    room_of plan stands b r at used =
        let lt : b < length c.reservations.items = subst (λ n. b < n) more.count (slice_get_within rs.items b r at) in
        let old = get_or c.reservations.items b r in
        let at_old = slice_get-get_or c.reservations.items b r lt in
        let m = more.each b old at_old in
        let same : m.0 ≡ r = cc (m.1, at) in
        subst (λ (z : WithRoom). IsTrue z.has_room) same (m.3 (stands.room b old at_old used))

-- room for what a job declares is room for what it uses
pub roomy_from : (job : Draft) (rs : List WithRoom) → HasRoomFor job.declared rs → AreRoomy job rs
roomy_from job rs has k r usage at is =
    let d = used_declared job k usage is in
    has d.0 d.1 r d.2 (subst (λ n. slice_get rs n ≡ Some r) (sym d.3) at)

-- a context that holds a buffer is one that holds it
pub held_by : (s : CoreState) (ctx buffer : ℕ) → holds s ctx buffer ≡ true → is_held s buffer ≡ true
held_by s ctx buffer is = by_holder (option_and_then (λ o. o) (slice_get s.holders buffer)) is
  where
    by_holder : (o : Option ℕ) → option_map_or (λ h. h == ctx) o false ≡ true → is_some o ≡ true
    by_holder None none = none
    by_holder (Some h) some = refl

-- a plan shares no buffer with a job whose buffers nobody holds
pub free_apart : (c : CoreTable) (job : Draft) → IsCore c → find (is_held (core_state c)) (buffers_of job) ≡ None
    → (ctx : ℕ) (other : Plan) → planned_by c ctx ≡ Some other → ShareNoBuffer job other.job
free_apart c job core none ctx other is i j d e at_d at_e same =
    let s = core_state c in
    let free = each_fails (is_held s) (buffers_of job) i d.0 none (to_map (λ (x : ℕ × Access). x.0) job.declared i d at_d) in
    let held = all_at (holds s ctx) (buffers_of other.job) j e.0 (core.plans ctx other is).holds (to_map (λ (x : ℕ × Access). x.0) other.job.declared j e at_e) in
    both_ways (is_held s d.0) free (subst (λ b. is_held s b ≡ true) (sym same) (held_by s ctx e.0 held))

-- a reservation of each buffer is there, and fits
pub resv_there : (c : CoreTable) → IsCore c → (b : ℕ) → b < length (core_state c).device.spec.buffers
    → (r : WithRoom) × (slice_get c.reservations.items b ≡ Some r) × Fits b (core_state c).device.journal r.kept
resv_there c core b lt =
    let old = core.steady.reservations b lt in
    let r = from_map (λ (x : WithRoom). x.kept) c.reservations.items b old.0 old.1 in
    (r.0, r.1, subst (Fits b (core_state c).device.journal) r.2 old.2)

-- the same of the vector that was changed in place
pub more_in_vector : (c : CoreTable) (old new : List WithRoom) → old ≡ c.reservations.items → MoreRoom old new → MoreRoom c.reservations.items (with_items c.reservations new).items
more_in_vector c old new is more =
    let count : length new ≡ vec_len c.reservations = more.count ∙ (ap length is ∙ sym c.reservations.ok.0) in
    subst (MoreRoom c.reservations.items) (sym (with_items_is c.reservations new count)) (subst (λ xs. MoreRoom xs new) is more)

pub roomy_in_vector : {T E : Type 0} (c : CoreTable) (job : Draft) (declared : List (ℕ × Access)) (old new : List WithRoom) (result : Result T E) → old ≡ c.reservations.items → declared ≡ job.declared
    → MoreRoom old new → OnOk result (HasRoomFor declared new) → OnOk result (AreRoomy job (with_items c.reservations new).items)
roomy_in_vector c job declared old new (Ok x) is same more has =
    let count : length new ≡ vec_len c.reservations = more.count ∙ (ap length is ∙ sym c.reservations.ok.0) in
    subst (AreRoomy job) (sym (with_items_is c.reservations new count)) (roomy_from job new (subst (λ ds. HasRoomFor ds new) same has))
roomy_in_vector c job declared old new (Err e) is same more has = tt

-- the first of these buffers that a context holds
pub first_is : (c : CoreTable) (draft job : Draft) (hs : List (Option ℕ)) (ds : List (ℕ × Access)) (o : Option ℕ) → o ≡ find (is_held_in hs) (map (λ d. d.0) ds)
    → hs ≡ c.holders.items → ds ≡ job.declared → job ≡ draft → find (is_held (core_state c)) (buffers_of draft) ≡ o
first_is c draft job hs ds o is holders declared same =
    ap (λ j. find (is_held (core_state c)) (buffers_of j)) (sym same)
    ∙ (ap (λ xs. find (is_held (core_state c)) (map (λ d. d.0) xs)) (sym declared)
    ∙ (ap (λ xs. find (is_held_in xs) (map (λ d. d.0) ds)) (sym holders) ∙ sym is))

-- a result that is no error has what is promised of its value
pub ok_has : {T E : Type 0} (r : Result T E) (P : Type 0) → is_err r ≡ false → OnOk r P → P
ok_has (Ok x) P is has = has
ok_has (Err e) P is has = absurd (let never : true ≡ false = is in cc (never))

-- a submission that is held up, one for which memory is refused, one that is refused late, and one that is armed
pub submit_held : (c : CoreTable) (draft : Draft) (b : ℕ) → job_fault c.device.state.spec draft ≡ None → find (is_held (core_state c)) (buffers_of draft) ≡ Some b
    → Step (core_state c) (event.Submit draft) (answer.Refused (Held b)) (core_state c)
submit_held c draft b none is = inl (sym (reply_early (core_state c) (event.Submit draft) (Held b) (submit_early (core_state c) draft (Some b) none is)))

pub submit_lacks : (c n : CoreTable) (draft : Draft) → job_fault c.device.state.spec draft ≡ None → find (is_held (core_state c)) (buffers_of draft) ≡ None → core_state n ≡ core_state c
    → Step (core_state c) (event.Submit draft) (answer.Refused Memory) (core_state n)
submit_lacks c n draft none is same = inr (record { takes = refl; is_next = submit_early (core_state c) draft None none is; answers = refl; keeps = same })

pub submit_late : (c n : CoreTable) (draft job : Draft) (r : Refusal) → job_fault c.device.state.spec draft ≡ None → find (is_held (core_state c)) (buffers_of draft) ≡ None → core_state n ≡ core_state c
    → n.device ≡ c.device → job ≡ draft → arm_refusal n.device.state job ≡ Some r → Step (core_state c) (event.Submit draft) (answer.Refused r) (core_state n)
submit_late c n draft job r none is same device job_is late =
    let may : arm_refusal c.device.state draft ≡ Some r = ap (λ (d : MarkedDevice). arm_refusal d.state draft) (sym device) ∙ (ap (arm_refusal n.device.state) (sym job_is) ∙ late) in
    inl (ap (λ s. let q : Answer × CoreState = (answer.Refused r, s) in q) same
    ∙ sym (reply_late (core_state c) (event.Submit draft) r (submit_early (core_state c) draft None none is) may))

pub submit_armed : (c n m : CoreTable) (draft job : Draft) (f : ℕ) → job_fault c.device.state.spec draft ≡ None → find (is_held (core_state c)) (buffers_of draft) ≡ None → core_state n ≡ core_state c
    → n.device ≡ c.device → job ≡ draft → arm_refusal n.device.state job ≡ None → f ≡ length n.device.state.journal → core_state m ≡ armed_core (core_state n) job
    → Step (core_state c) (event.Submit draft) (answer.Armed f) (core_state m)
submit_armed c n m draft job f none is same device job_is late number armed =
    let may : arm_refusal c.device.state draft ≡ None = ap (λ (d : MarkedDevice). arm_refusal d.state draft) (sym device) ∙ (ap (arm_refusal n.device.state) (sym job_is) ∙ late) in
    let state : core_state m ≡ armed_core (core_state c) draft = armed ∙ (ap (λ s. armed_core s job) same ∙ ap (armed_core (core_state c)) job_is) in
    let fence : f ≡ length c.device.state.journal = number ∙ ap (λ (d : MarkedDevice). length d.state.journal) device in
    inl (ap (λ s. let q : Answer × CoreState = (answer.Armed f, s) in q) state
    ∙ (ap (λ k. let q : Answer × CoreState = (answer.Armed k, armed_core (core_state c) draft) in q) fence
    ∙ sym (reply_is (core_state c) (event.Submit draft) (submit_early (core_state c) draft None none is) may)))

-- the plans are those of the state before, where nothing but the room changed
pub plans_same : (c n : CoreTable) (ctx : ℕ) (other : Plan) → n.contexts ≡ c.contexts → planned_by n ctx ≡ Some other → planned_by c ctx ≡ Some other
plans_same c n ctx other same is = subst (λ cs. option_map_or (λ o. option_map_or planned_in o None) (slice_get cs.items ctx) None ≡ Some other) same is
