-- Nothing that is shown of a device depends on how many packets its jobs have run.
use Rattle.std.proofs.Common.{◌≡◌, ◌∙◌, ℕ, zero, suc, ◌+◌, ◌-◌, Bool, true, false, cond, not, ◌&&◌, ◌==◌, List, [], ◌∷◌, length, map, take, Some, None, Option, refl, sym, ap, slice_get}
use Rattle.std.proofs.lemmas.List.{length-map}
use Rattle.std.specs.Prelude.{find, min, option_and_then, option_map, slice_set, sum_by, unwrap_or}
use Rattle.std.specs.Option.{option_map_or}
use Rattle.std.specs.List.{enumerate_from, filter}
use Rattle.drm_types.specs.Firsts.{first}
use Rattle.drm_fence.specs.declared.phase.Phase.{Phase}
use Rattle.drm_fence.specs.declared.phase.Phase.TheVariants.{Queued, Scheduled, Ended}
use Rattle.drm_fence.specs.Phases.{is_queued, has_ended}
use Rattle.drm_packet.specs.declared.Packet.{Packet}
use Rattle.drm_state.specs.declared.journal.JobRecord.{JobRecord}
use Rattle.drm_state.specs.Arming.{load}
use Rattle.drm_state.specs.Choice.{queue_of}
use Rattle.drm_state.specs.Journal.{changed_at, numbered}
use Rattle.drm_state.specs.Order.{comes_after, dependencies, is_met}
use Rattle.drm_state.specs.Outcomes.{ran_device}
use Rattle.drm_state.specs.Ring.{credit_limit_of, credits_of, free_credits, head_of, is_stopped, pending_of}
use Rattle.drm_state.specs.State.{DeviceState}
use Rattle.drm_state.proofs.Found.{first_map}
use Rattle.drm_state.proofs.LoadsKept.{map_set_same}
use Rattle.drm_reason.specs.Awaited.{awaited_by}
use Rattle.drm_reason.specs.Reasons.{head_reason, least_going, least_unmet, line_reason, phase_reason, queue_head, queued_reason, reason_of}
use Rattle.drm_reason.proofs.Awaits.{head_awaits, pending_awaits}
use Rattle.drm_reason.specs.declared.reason.Reason.TheVariants as reason
use Rattle.drm_core.specs.State.{CoreState}
use Rattle.drm_perfetto.specs.declared.lanes.Lane.{Lane}
use Rattle.drm_perfetto.specs.declared.lanes.Lane.TheVariants as lane
use Rattle.drm_perfetto.specs.declared.lanes.Row.{Row}
use Rattle.drm_perfetto.specs.Tracks.{counted, ring_of, shown, wait_row}

-- ---- lists

take_of_map : {X Y : Type 0} (f : X → Y) (k : ℕ) (xs : List X) → take k (map f xs) ≡ map f (take k xs)
take_of_map f zero xs = refl
take_of_map f (suc k) [] = refl
take_of_map f (suc k) (x ∷ xs) = ap (λ ys. f x ∷ ys) (take_of_map f k xs)

filter_of_map : {X Y : Type 0} (p : Y → Bool) (f : X → Y) (xs : List X) → filter p (map f xs) ≡ map f (filter (λ x. p (f x)) xs)
filter_of_map p f [] = refl
filter_of_map {X} {Y} p f (x ∷ xs) = ap (λ ys. cond (p (f x)) (f x ∷ ys) ys) (filter_of_map p f xs) ∙ by_test (p (f x))
  where
    by_test : (b : Bool) → cond b (f x ∷ map f (filter (λ x. p (f x)) xs)) (map f (filter (λ x. p (f x)) xs)) ≡ map f (cond b (x ∷ filter (λ x. p (f x)) xs) (filter (λ x. p (f x)) xs))
    by_test true = refl
    by_test false = refl

find_in_map : {X Y : Type 0} (p : Y → Bool) (f : X → Y) (xs : List X) → find p (map f xs) ≡ option_map f (find (λ x. p (f x)) xs)
find_in_map p f [] = refl
find_in_map {X} {Y} p f (x ∷ xs) = ap (λ o. cond (p (f x)) (Some (f x)) o) (find_in_map p f xs) ∙ by_test (p (f x))
  where
    by_test : (b : Bool) → cond b (Some (f x)) (option_map f (find (λ x. p (f x)) xs)) ≡ option_map f (cond b (Some x) (find (λ x. p (f x)) xs))
    by_test true = refl
    by_test false = refl

at_map : {X Y Z : Type 0} (h : Y → Z) (f : X → Y) (none : Z) (xs : List X) (k : ℕ) → option_map_or h (slice_get (map f xs) k) none ≡ option_map_or (λ x. h (f x)) (slice_get xs k) none
at_map h f none [] k = refl
at_map h f none (x ∷ xs) zero = refl
at_map h f none (x ∷ xs) (suc k) = at_map h f none xs k

-- ---- records that have run nothing

-- the record as if it had run no packet
abbrev pub unran : JobRecord → JobRecord
unran r = record r { ran = 0 }

-- with its number
abbrev unran_at : ℕ × JobRecord → ℕ × JobRecord
unran_at n = (n.0, unran n.1)

numbered_unran : (k : ℕ) (js : List JobRecord) → enumerate_from k (map unran js) ≡ map (λ (n : ℕ × JobRecord). unran_at n) (enumerate_from k js)
numbered_unran k [] = refl
numbered_unran k (r ∷ js) = ap (λ ns. (k, unran r) ∷ ns) (numbered_unran (k + 1) js)

-- the device as if no job had run a packet, and without its memory
abbrev pub unran_device : DeviceState → DeviceState
unran_device d = record d { memory = []; journal = map unran d.journal }

-- one packet more makes no difference to it
pub ran_same : (d : DeviceState) (f : ℕ) (p : Packet) → unran_device (ran_device d f p) ≡ unran_device d
ran_same d f p = ap (λ js. record d { memory = []; journal = js }) (by_found (slice_get d.journal f) refl)
  where
    by_found : (o : Option JobRecord) → slice_get d.journal f ≡ o → map unran (changed_at d.journal f (λ r. record r { ran = r.ran + 1 })) ≡ map unran d.journal
    by_found None none = ap (λ o. map unran (option_map_or (λ (r : JobRecord). slice_set d.journal f (record r { ran = r.ran + 1 })) o d.journal)) none
    by_found (Some r) some =
        ap (λ o. map unran (option_map_or (λ (r : JobRecord). slice_set d.journal f (record r { ran = r.ran + 1 })) o d.journal)) some
        ∙ map_set_same unran d.journal f r (record r { ran = r.ran + 1 }) some refl

-- ---- queues

-- a record stands in front under the same number
same_number : (o : Option (ℕ × JobRecord)) → option_map (λ (n : ℕ × JobRecord). n.0) (option_map unran_at o) ≡ option_map (λ (n : ℕ × JobRecord). n.0) o
same_number None = refl
same_number (Some n) = refl

same_front : (entity : ℕ) (js : List JobRecord) → option_map (λ n. n.0) (first (queue_of entity (map unran js))) ≡ option_map (λ n. n.0) (first (queue_of entity js))
same_front entity js =
    let waits = λ (n : ℕ × JobRecord). (n.1.job.entity == entity) && is_queued n.1.phase in
    ap (λ ns. option_map (λ (n : ℕ × JobRecord). n.0) (first (filter waits ns))) (numbered_unran 0 js)
    ∙ ap (λ ns. option_map (λ (n : ℕ × JobRecord). n.0) (first ns)) (filter_of_map waits unran_at (enumerate_from 0 js))
    ∙ ap (λ o. option_map (λ (n : ℕ × JobRecord). n.0) o) (first_map unran_at (queue_of entity js))
    ∙ same_number (first (queue_of entity js))

-- ---- what a job waits for

same_unmet : (js : List JobRecord) (n : ℕ) (r : JobRecord) → option_map (λ (m : ℕ × JobRecord). m.0) (least_unmet (map unran js) n (unran r)) ≡ option_map (λ (m : ℕ × JobRecord). m.0) (least_unmet js n r)
same_unmet js n r =
    let after = λ (m : ℕ × JobRecord). comes_after r.job m.0 m.1.job in
    let unmet = λ (m : ℕ × JobRecord). not (is_met r.ring m.1) in
    ap (λ ns. option_map (λ (m : ℕ × JobRecord). m.0) (find unmet (filter after (take n ns)))) (numbered_unran 0 js)
    ∙ ap (λ ns. option_map (λ (m : ℕ × JobRecord). m.0) (find unmet (filter after ns))) (take_of_map unran_at n (numbered js))
    ∙ ap (λ ns. option_map (λ (m : ℕ × JobRecord). m.0) (find unmet ns)) (filter_of_map after unran_at (take n (numbered js)))
    ∙ ap (λ o. option_map (λ (m : ℕ × JobRecord). m.0) o) (find_in_map unmet unran_at (dependencies js n r.job))
    ∙ same_number (least_unmet js n r)

-- what a queued job waits for
queued_awaits : (d : DeviceState) (n : ℕ) (r : JobRecord) → awaited_by (queued_reason (unran_device d) n (unran r)) ≡ awaited_by (queued_reason d n r)
queued_awaits d n r =
    ap (λ o. awaited_by (cond (is_stopped d r.job.entity) (reason.Stopped (least_going (map unran d.journal) n (unran r))) (line_reason (unran_device d) n (unran r) (unwrap_or o n)))) (same_front r.job.entity d.journal)
    ∙ by_stop (is_stopped d r.job.entity)
  where
    by_head : (head : ℕ) (b : Bool) → awaited_by (cond b (head_reason (unran_device d) n (unran r)) (reason.BehindQueueHead head)) ≡ awaited_by (cond b (head_reason d n r) (reason.BehindQueueHead head))
    by_head head true = sym (head_awaits (unran_device d) n (unran r)) ∙ same_unmet d.journal n r ∙ head_awaits d n r
    by_head head false = refl

    by_stop : (b : Bool)
        → awaited_by (cond b (reason.Stopped (least_going (map unran d.journal) n (unran r))) (line_reason (unran_device d) n (unran r) (unwrap_or (queue_head d r.job.entity) n)))
        ≡ awaited_by (cond b (reason.Stopped (least_going d.journal n r)) (line_reason d n r (unwrap_or (queue_head d r.job.entity) n)))
    by_stop true = refl
    by_stop false = by_head (unwrap_or (queue_head d r.job.entity) n) (unwrap_or (queue_head d r.job.entity) n == n)

same_awaited : (d : DeviceState) (n : ℕ) → awaited_by (reason_of (unran_device d) n) ≡ awaited_by (reason_of d n)
unfolding reason_of
same_awaited d n =
    ap (λ a. awaited_by a) (at_map (λ (r : JobRecord). phase_reason (unran_device d) n r r.phase) unran reason.NotArmed d.journal n) ∙ by_record (slice_get d.journal n)
  where
    by_phase : (r : JobRecord) (phase : Phase) → awaited_by (phase_reason (unran_device d) n (unran r) phase) ≡ awaited_by (phase_reason d n r phase)
    by_phase r Queued = queued_awaits d n r
    by_phase r Scheduled = sym (pending_awaits (unran_device d) n (unran r)) ∙ pending_awaits d n r
    by_phase r (Ended outcome) = refl

    by_record : (o : Option JobRecord)
        → awaited_by (option_map_or (λ (r : JobRecord). phase_reason (unran_device d) n (unran r) r.phase) o reason.NotArmed)
        ≡ awaited_by (option_map_or (λ (r : JobRecord). phase_reason d n r r.phase) o reason.NotArmed)
    by_record None = refl
    by_record (Some r) = by_phase r r.phase

-- ---- rings

same_free : (d : DeviceState) (ring : ℕ) → free_credits (unran_device d) ring ≡ free_credits d ring
same_free d ring = ap (λ n. credit_limit_of d ring - n) (by_pending (pending_of d ring))
  where
    by_pending : (fs : List ℕ) → sum_by (credits_of (unran_device d) ring) fs ≡ sum_by (credits_of d ring) fs
    by_pending fs = ap (λ (f : ℕ → ℕ). sum_by f fs) (λ i f. at_map (λ (r : JobRecord). min r.job.credits (credit_limit_of d ring)) unran 0 d.journal f i)

same_load : (js : List JobRecord) (ring : ℕ) → load (map unran js) ring ≡ load js ring
same_load js ring =
    let on_ring = λ (r : JobRecord). (r.ring == ring) && not (has_ended r.phase) in
    ap (λ rs. length rs) (filter_of_map on_ring unran js) ∙ length-map (filter on_ring js) unran

-- ---- what is shown

-- the core with such a device
abbrev unran_core : CoreState → CoreState
unran_core s = record s { device = unran_device s.device }

-- each lane shows of it what it shows of the core
pub same_shown : (s : CoreState) (kind : Lane) (number : ℕ) → shown (unran_core s) kind number ≡ shown s kind number
same_shown s lane.Wait entity =
    let waits = λ (fence : ℕ). wait_row fence (awaited_by (reason_of s.device fence)) in
    ap (λ (g : ℕ → Option Row). option_and_then g (option_map (λ n. n.0) (first (queue_of entity (unran_device s.device).journal)))) (λ i fence. wait_row fence (same_awaited s.device fence i))
    ∙ ap (λ (o : Option ℕ). option_and_then waits o) (same_front entity s.device.journal)
same_shown s lane.Queue entity =
    let row = λ (fence : ℕ). let r : Row = record { what = fence; of = ring_of s.device.journal fence } in r in
    ap (λ (g : ℕ → Row). option_map g (option_map (λ n. n.0) (first (queue_of entity (unran_device s.device).journal))))
    (λ i fence. record { what = fence; of = at_map (λ (r : JobRecord). r.ring) unran 0 s.device.journal fence i })
    ∙ ap (λ (o : Option ℕ). option_map row o) (same_front entity s.device.journal)
same_shown s lane.Ring ring =
    ap (λ (g : ℕ → Row). option_map g (head_of s.device ring)) (λ i fence. record { what = fence; of = at_map (λ (r : JobRecord). r.job.entity) unran 0 s.device.journal fence i })
same_shown s lane.Buffer buffer = refl
same_shown s lane.Credits ring = ap (λ (n : ℕ). counted (credit_limit_of s.device ring - n)) (same_free s.device ring)
same_shown s lane.Queued ring = ap (λ (n : ℕ). counted (n - length (pending_of s.device ring))) (same_load s.device.journal ring)
