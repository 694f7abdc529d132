-- The bytes of a buffer whose writers have ended stay while no job that uses it is armed.
use Rattle.std.proofs.Common.{◌≡◌, ℕ, zero, suc, ◌+◌, ◌<◌, ◌≤◌, true, false, ◌==◌, List, [], ◌∷◌, ◌++◌, length, get_or, take, drop, take-append-drop, take_all, Some, None, Option, refl, sym, ap, subst, ◌∙◌, inl, inr, arith, slice_get}
use Rattle.std.specs.Prelude.{option_map, filter_map}
use Rattle.std.specs.List.{list_any, cons_option}
use Rattle.std.specs.Option.{option_map_or}
use Rattle.std.proofs.lemmas.Bool.{cases_Bool, or_left, or_right}
use Rattle.std.proofs.lemmas.List.{take_more, length-map}
use Rattle.std.proofs.lemmas.List.Sums.{fold_push, fold-append}
use Rattle.std.proofs.lemmas.Option.{slice_get_within, get_or_from_slice_get}
use Rattle.drm_lists.proofs.Places.{stands_within, to_map, from_map, get_numbered}
use Rattle.drm_types.specs.declared.access.Access.{Access}
use Rattle.drm_types.specs.declared.access.Access.TheVariants as access
use Rattle.drm_types.specs.declared.access.Usage.{Usage}
use Rattle.drm_types.specs.declared.access.Usage.TheVariants.{Write}
use Rattle.drm_types.specs.declared.spec.DeviceSpec.{DeviceSpec}
use Rattle.drm_types.specs.Usages.{added_usage, is_as_strong}
use Rattle.drm_job.specs.declared.Draft.{Draft}
use Rattle.drm_job.specs.Conflicts.{conflicts}
use Rattle.drm_job.specs.Uses.{access_of, may_read, may_write, can_write, StaysWithin}
use Rattle.drm_job.proofs.Apart.{declared_as, conflicts_at, waits_for_write}
use Rattle.drm_job.proofs.Within.{stays_within}
use Rattle.drm_serial.specs.Serial.{Turn, after_turn, serial}
use Rattle.drm_fence.specs.declared.phase.Phase.{Phase}
use Rattle.drm_fence.specs.declared.phase.Phase.TheVariants.{Queued, Scheduled, Ended}
use Rattle.drm_fence.specs.Phases.{has_ended}
use Rattle.drm_resv.specs.Reservation.{Reservation}
use Rattle.drm_state.specs.declared.journal.JobRecord.{JobRecord}
use Rattle.drm_state.specs.Grows.{GoesOn, RecordGrows, Grows}
use Rattle.drm_state.specs.Journal.{numbered, turns}
use Rattle.drm_state.specs.Lawful.{IsLawfulDevice}
use Rattle.drm_state.specs.Reservation.{usage_at, arms}
use Rattle.drm_state.specs.State.{DeviceState}
use Rattle.drm_state.specs.Readers.{StaysHeld, BytesStay}
use Rattle.drm_state.specs.Writers.{is_writer, HaveEnded}
use Rattle.drm_state.proofs.ChoiceIs.{numbered_get}
use Rattle.drm_state.proofs.Records.{turn_of}
use Rattle.drm_state.proofs.TurnsAlike.{AreAlike, Touched, turn_alike, turn_leaves, turn_count, turns_leave}

-- a job writes a buffer where its packets may
strong_is : (o : Option Access) → option_map_or (λ u. is_as_strong u Write) (option_map added_usage o) false ≡ option_map_or may_write o false
strong_is None = refl
strong_is (Some access.Read) = refl
strong_is (Some access.Write) = refl
strong_is (Some access.Hold) = refl
strong_is (Some access.Move) = refl

writer_is : (job : Draft) (b : ℕ) → is_writer job b ≡ can_write job b
writer_is job b = strong_is (access_of job b)

-- a job conflicts with each earlier one that writes a buffer that it touches
conflicts_with_writer : (earlier later : Draft) (b : ℕ) → is_writer earlier b ≡ true → Touched later b → conflicts earlier later ≡ true
conflicts_with_writer earlier later b writes touched =
    let d = declared_as earlier b may_write (sym (writer_is earlier b) ∙ writes) in
    conflicts_at earlier later d.0 touched.0 d.1 touched.1 (d.2 ∙ sym touched.2) (waits_for_write d.0.1 touched.0.1 d.3 touched.3)

-- a job touches what it writes
touches_written : (job : Draft) (b : ℕ) → is_writer job b ≡ true → Touched job b
touches_written job b writes =
    let d = declared_as job b may_write (sym (writer_is job b) ∙ writes) in
    (d.0, d.1, d.2, or_right (may_read d.0.1) (may_write d.0.1) d.3)

-- of the first n jobs each that writes the buffer has ended
abbrev EndedBefore : List JobRecord → ℕ → ℕ → Type 0
EndedBefore journal n b =
    (i : ℕ) (r : JobRecord) → i < n → slice_get journal i ≡ Some r → is_writer r.job b ≡ true → has_ended r.phase ≡ true

-- a record that has ended keeps its turn
turn_kept : (old new : JobRecord) → RecordGrows old new → has_ended old.phase ≡ true → turn_of new ≡ turn_of old
turn_kept old new grows ended =
    ap (λ (job : Draft). record { job = job; ran = new.ran }) grows.job
    ∙ ap (λ (ran : ℕ). record { job = old.job; ran = ran }) (grows.kept (inr ended))

-- the buffers that a job touches, where it has ended: all their earlier writers have
ended_of_touched : (d : DeviceState) (n : ℕ) (r : JobRecord) (b : ℕ) → IsLawfulDevice d → slice_get d.journal n ≡ Some r → has_ended r.phase ≡ true
    → Touched r.job b → EndedBefore d.journal n b
ended_of_touched d n r b law at ended touched i x lt x_at writes =
    (law.follows i n x r lt x_at at).ended
    (or_left (conflicts x.job r.job) (list_any (λ f. f == i) r.job.after) (conflicts_with_writer x.job r.job b writes touched))
    ended

-- one turn more leaves the memories alike where all writers have ended
turn_more_alike : (d : DeviceState) (n : ℕ) (old new : JobRecord) (m k : List (List ℕ)) → IsLawfulDevice d → slice_get d.journal n ≡ Some old
    → RecordGrows old new → AreAlike (EndedBefore d.journal n) m k
    → AreAlike (EndedBefore d.journal (suc n)) (after_turn m (turn_of old)) (after_turn k (turn_of new))
turn_more_alike d n old new m k law at grows alike =
    let within : StaysWithin old.job = stays_within d.spec old.job (law.records n old at).job in
    let within_new : StaysWithin new.job = subst StaysWithin (sym grows.job) within in
    record {
      count = turn_count (turn_of old) m ∙ (alike.count ∙ sym (turn_count (turn_of new) k));
      bytes = λ b ended. elim (cases_Bool (is_writer old.job b)) [
        | inl writes ↦
            let has : has_ended old.phase ≡ true = ended n old (omega arith) at writes in
            let touched : AreAlike (Touched old.job) m k = record {
              count = alike.count;
              bytes = λ c t. alike.bytes c (ended_of_touched d n old c law at has t);
            } in
            (turn_alike (turn_of old) m k within touched).bytes b (touches_written old.job b writes)
            ∙ ap (λ t. get_or (after_turn k t) b []) (sym (turn_kept old new grows has))
        | inr reads ↦
            let none : can_write old.job b ≡ false = sym (writer_is old.job b) ∙ reads in
            let none_new : can_write new.job b ≡ false = subst (λ job. can_write job b ≡ false) (sym grows.job) none in
            turn_leaves (turn_of old) m b within none
            ∙ (alike.bytes b (λ i r lt r_at writes. ended i r (omega (arith, lt)) r_at writes)
            ∙ sym (turn_leaves (turn_of new) k b within_new none_new))
      ];
    }

-- one turn more of a journal
serial_more : (m : List (List ℕ)) (journal : List JobRecord) (n : ℕ) (r : JobRecord) → slice_get journal n ≡ Some r
    → serial m (take (suc n) (turns journal)) ≡ after_turn (serial m (take n (turns journal))) (turn_of r)
serial_more m journal n r at =
    let there : slice_get (turns journal) n ≡ Some (turn_of r) = to_map turn_of journal n r at in
    let next : suc n ≡ n + 1 = omega arith in
    let more : take (suc n) (turns journal) ≡ take n (turns journal) ++ turn_of r ∷ [] =
    ap (λ k. take k (turns journal)) next
    ∙ (take_more (turns journal) n (turn_of r) (slice_get_within (turns journal) n (turn_of r) there)
    ∙ ap (λ t. take n (turns journal) ++ t ∷ []) (get_or_from_slice_get (turns journal) n (turn_of r) (turn_of r) there)) in
    ap (serial m) more ∙ fold_push after_turn m (take n (turns journal)) (turn_of r)

-- after the first n turns the memories are alike where all writers of these have ended
turns_alike : (d e : DeviceState) (n : ℕ) → IsLawfulDevice d → Grows d e → n ≤ length d.journal
    → AreAlike (EndedBefore d.journal n) (serial d.spec.buffers (take n (turns d.journal))) (serial d.spec.buffers (take n (turns e.journal)))
turns_alike d e zero law grows le = record { count = refl; bytes = λ b ended. refl }
turns_alike d e (suc n) law grows le =
    let old = stands_within d.journal n (omega (arith, le)) in
    let new = grows.journal n old.0 old.1 in
    let before = turns_alike d e n law grows (omega (arith, le)) in
    let m : List (List ℕ) = serial d.spec.buffers (take n (turns d.journal)) in
    let k : List (List ℕ) = serial d.spec.buffers (take n (turns e.journal)) in
    let after = turn_more_alike d n old.0 new.0 m k law old.1 new.2 before in
    let in_d = serial_more d.spec.buffers d.journal n old.0 old.1 in
    let in_e = serial_more d.spec.buffers e.journal n new.0 new.1 in
    record {
      count = ap (λ (z : List (List ℕ)). length z) in_d ∙ (after.count ∙ sym (ap (λ (z : List (List ℕ)). length z) in_e));
      bytes = λ b ended.
          ap (λ (z : List (List ℕ)). get_or z b []) in_d ∙ (after.bytes b ended ∙ sym (ap (λ (z : List (List ℕ)). get_or z b []) in_e));
    }

-- what a list gives by a partial function comes from an element, and each element's is there
given_from : {X Y : Type 0} (h : X → Option Y) (xs : List X) (j : ℕ) (y : Y) → slice_get (filter_map h xs) j ≡ Some y
    → (k : ℕ) × (x : X) × (slice_get xs k ≡ Some x) × (h x ≡ Some y)
given_from h [] j y is = absurd (cc (is))
given_from {X} {Y} h (x ∷ xs) j y is = by (h x) refl j (λ i at. given_from h xs i y at) is
  where
    Given : List X → Type 0
    Given zs = (k : ℕ) × (z : X) × (slice_get zs k ≡ Some z) × (h z ≡ Some y)

    behind : Given xs → Given (x ∷ xs)
    behind r = (suc r.0, r.1, r.2, r.3)

    by : (o : Option Y) → h x ≡ o → (j : ℕ) → ((i : ℕ) → slice_get (filter_map h xs) i ≡ Some y → Given xs)
        → slice_get (cons_option o (filter_map h xs)) j ≡ Some y → Given (x ∷ xs)
    by None none j rest is = behind (rest j is)
    by (Some w) some zero rest is = (0, x, refl, some ∙ is)
    by (Some w) some (suc j) rest is = behind (rest j is)

given_there : {X Y : Type 0} (h : X → Option Y) (xs : List X) (k : ℕ) (x : X) (y : Y) → slice_get xs k ≡ Some x → h x ≡ Some y
    → (j : ℕ) × (slice_get (filter_map h xs) j ≡ Some y)
given_there h [] k x y at is = absurd (cc (at))
given_there h (z ∷ xs) zero x y at is =
    let same : z ≡ x = cc (at) in (0, ap (λ o. slice_get (cons_option o (filter_map h xs)) 0) (ap h same ∙ is))
given_there {X} {Y} h (z ∷ xs) (suc k) x y at is = by (h z) (given_there h xs k x y at is)
  where
    by : (o : Option Y) → (j : ℕ) × (slice_get (filter_map h xs) j ≡ Some y) → (j : ℕ) × (slice_get (cons_option o (filter_map h xs)) j ≡ Some y)
    by None r = r
    by (Some w) r = (suc r.0, r.1)

-- where two journals have the same uses of a buffer, each job of the second that uses it has a place in the first
used_within : (b : ℕ) (olds news : List JobRecord) (k : ℕ) (r : JobRecord) (u : Usage) → arms b news ≡ arms b olds → slice_get news k ≡ Some r
    → usage_at b r.job ≡ Some u → k < length olds
used_within b olds news k r u same at uses =
    let h : ℕ × JobRecord → Option (ℕ × Usage) = λ n. option_map (λ u. (n.0, u)) (usage_at b n.1.job) in
    let number : 0 + k ≡ k = omega arith in
    let numbered_at : slice_get (numbered news) k ≡ Some (k, r) = get_numbered news 0 k r at ∙ ap (λ n. Some (n, r)) number in
    let there = given_there h (numbered news) k (k, r) (k, u) numbered_at (ap (λ o. h_of k o) uses) in
    let from = given_from h (numbered olds) there.0 (k, u) (sym (ap (λ (a : List (ℕ × Usage)). slice_get a there.0) same) ∙ there.1) in
    let place = numbered_get olds 0 from.0 from.1 from.2 in
    let is_k : from.1.0 ≡ k = number_of (usage_at b from.1.1.job) from.1.0 k u from.3 in
    let lt = slice_get_within olds from.0 from.1.1 place.1 in
    omega (arith, lt, is_k, place.0)
  where
    h_of : ℕ → Option Usage → Option (ℕ × Usage)
    h_of n o = option_map (λ v. (n, v)) o

    number_of : (o : Option Usage) (n k : ℕ) (u : Usage) → h_of n o ≡ Some (k, u) → n ≡ k
    number_of None n k u is = absurd (cc (is))
    number_of (Some v) n k u is = let pair : ◌≡◌ {A = ℕ × Usage} (n, v) (k, u) = cc (is) in ap (λ (p : ℕ × Usage). p.0) pair

-- a writer of the buffer uses it
usage_of_writer : (o : Option Usage) → option_map_or (λ u. is_as_strong u Write) o false ≡ true → (u : Usage) × (o ≡ Some u)
usage_of_writer None is = absurd (let never : false ≡ true = is in cc (never))
usage_of_writer (Some u) is = (u, refl)

-- each writer in the new journal has a place in the old one
writer_within : (b : ℕ) (olds news : List JobRecord) (k : ℕ) (r : JobRecord) → arms b news ≡ arms b olds → slice_get news k ≡ Some r
    → is_writer r.job b ≡ true → k < length olds
writer_within b olds news k r same at writes =
    let u = usage_of_writer (usage_at b r.job) writes in used_within b olds news k r u.0 same at u.1

-- what has ended has ended
ended_goes_on : (old new : Phase) → GoesOn old new → has_ended old ≡ true → has_ended new ≡ true
ended_goes_on Queued new on ended = absurd (let never : false ≡ true = ended in cc (never))
ended_goes_on Scheduled new on ended = absurd (let never : false ≡ true = ended in cc (never))
ended_goes_on (Ended o) new on ended = ap has_ended on

same_arms : (b : ℕ) (resv : Reservation) (d e : DeviceState) → StaysHeld b resv d e → arms b e.journal ≡ arms b d.journal
same_arms b resv d e is = sym is.fits_new.history ∙ is.fits_old.history

-- no job that was armed since uses the buffer
unused_still : (b : ℕ) (resv : Reservation) (d e : DeviceState) → StaysHeld b resv d e → (f : ℕ) (r : JobRecord) → length d.journal ≤ f
    → slice_get e.journal f ≡ Some r → usage_at b r.job ≡ None
unused_still b resv d e is f r later at = by (usage_at b r.job) (λ u uses. used_within b d.journal e.journal f r u (same_arms b resv d e is) at uses)
  where
    by : (o : Option Usage) → ((u : Usage) → o ≡ Some u → f < length d.journal) → o ≡ None
    by None within = refl
    by (Some u) within = absurd (omega (arith, within u refl, later))

-- the writers have ended still
ended_still : (b : ℕ) (resv : Reservation) (d e : DeviceState) → StaysHeld b resv d e → HaveEnded b d.journal → HaveEnded b e.journal
ended_still b resv d e is ended f r at writes =
    let old = stands_within d.journal f (writer_within b d.journal e.journal f r (same_arms b resv d e is) at writes) in
    let new = is.grows.journal f old.0 old.1 in
    let is_r : new.0 ≡ r = cc (new.1, at) in
    let grows : RecordGrows old.0 r = subst (RecordGrows old.0) is_r new.2 in
    let wrote : is_writer old.0.job b ≡ true = subst (λ job. is_writer job b ≡ true) grows.job writes in
    ended_goes_on old.0.phase r.phase grows.phase (ended f old.0 old.1 wrote)

get_drop : {X : Type 0} (xs : List X) (n k : ℕ) → slice_get (drop n xs) k ≡ slice_get xs (n + k)
get_drop xs zero k = let same : k ≡ 0 + k = omega arith in ap (slice_get xs) same
get_drop [] (suc n) k = refl
get_drop (x ∷ xs) (suc n) k = let next : suc (n + k) ≡ suc n + k = omega arith in get_drop xs n k ∙ ap (slice_get (x ∷ xs)) next

-- the turns of the jobs that were armed since leave the buffer
later_leave : (b : ℕ) (resv : Reservation) (d e : DeviceState) (m : List (List ℕ)) → StaysHeld b resv d e
    → get_or (serial m (drop (length d.journal) (turns e.journal))) b [] ≡ get_or m b []
later_leave b resv d e m is =
    let n : ℕ = length d.journal in
    turns_leave (drop n (turns e.journal)) m b (λ k turn at.
    let x = from_map turn_of e.journal (n + k) turn (sym (get_drop (turns e.journal) n k) ∙ at) in
    let none : can_write x.0.job b ≡ false = elim (cases_Bool (is_writer x.0.job b)) [
      | inl writes ↦
          let lt = writer_within b d.journal e.journal (n + k) x.0 (same_arms b resv d e is) x.1 writes in absurd (omega (arith, lt))
      | inr reads ↦ sym (writer_is x.0.job b) ∙ reads
    ] in
    subst (λ (t : Turn). StaysWithin t.job × (can_write t.job b ≡ false)) (sym x.2)
    (stays_within e.spec x.0.job (is.lawful_new.records (n + k) x.0 x.1).job, none))

bytes_still : (b : ℕ) (resv : Reservation) (d e : DeviceState) → StaysHeld b resv d e → HaveEnded b d.journal → get_or e.memory b [] ≡ get_or d.memory b []
bytes_still b resv d e is ended =
    let n : ℕ = length d.journal in
    let first : List (List ℕ) = d.spec.buffers in
    let js : List Turn = turns d.journal in
    let ks : List Turn = turns e.journal in
    let all : take n js ≡ js = take_all n js (omega (arith, length-map d.journal turn_of)) in
    let alike = turns_alike d e n is.lawful_old is.grows (omega arith) in
    let in_d : d.memory ≡ serial first (take n js) = is.lawful_old.memory ∙ ap (serial first) (sym all) in
    let in_e : e.memory ≡ serial (serial first (take n ks)) (drop n ks) =
    is.lawful_new.memory
    ∙ (ap (λ s. serial s ks) (ap (λ (s : DeviceSpec). s.buffers) is.grows.spec)
    ∙ (ap (serial first) (sym (take-append-drop n ks)) ∙ fold-append after_turn first (take n ks) (drop n ks))) in
    ap (λ (z : List (List ℕ)). get_or z b []) in_e
    ∙ (later_leave b resv d e (serial first (take n ks)) is
    ∙ (sym (alike.bytes b (λ i r lt at writes. ended i r at writes)) ∙ sym (ap (λ (z : List (List ℕ)). get_or z b []) in_d)))

pub bytes_stay : BytesStay
bytes_stay = record { unused = unused_still; ended = ended_still; bytes = bytes_still }
