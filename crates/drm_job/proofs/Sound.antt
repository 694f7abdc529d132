-- A draft has no fault exactly where it is sound.
use Rattle.std.proofs.Common.{◌≡◌, ◌≢◌, ℕ, ◌+◌, ◌<◌, ◌==◌, Bool, true, false, not, List, [], ◌∷◌, map, length, Some, None, Option, refl, sym, ap, ◌∙◌, arith, is_some, nat_lt, nat_le}
use Rattle.std.specs.Prelude.{All, IsTrue, find, option_map}
use Rattle.std.specs.Option.{option_map_or}
use Rattle.std.specs.List.{AllByRecursion, list_all, enumerate_from}
use Rattle.std.proofs.lemmas.Bool.{ltb-true, ltb-false, lt-ltb, le-ltb, leb-false, lt-leb, eqb-false, ne_eqb, and_from}
use Rattle.std.proofs.lemmas.List.Elements.{All-weaker, All-from_recursion, recursion_from_All}
use Rattle.std.proofs.lemmas.List.Folds.{list_all-append}
use Rattle.std.proofs.lemmas.List.Sums.{AllPass-from_list_all, list_all-from_AllPass}
use Rattle.drm_types.specs.declared.access.Access.{Access}
use Rattle.drm_types.specs.declared.access.Access.TheVariants as access
use Rattle.drm_types.specs.declared.spec.DeviceSpec.{DeviceSpec}
use Rattle.drm_types.specs.Firsts.{when, first_of}
use Rattle.drm_packet.specs.declared.Packet.{Packet}
use Rattle.drm_packet.specs.Touches.{reads, writes, touches, is_in_range}
use Rattle.drm_job.specs.declared.Draft.{Draft}
use Rattle.drm_job.specs.declared.DraftList.TheVariants.{Declared, After, Packets}
use Rattle.drm_job.specs.declared.JobFault.TheVariants.{NoEntity, NoCredits, TooMany, NoBuffer, DeclaredTwice, MoveNotKernel, PacketUndeclared, PacketOnHold, PacketReadOnly, PacketRange}
use Rattle.drm_job.specs.Uses.{access_of, may_read, may_write, can_read, can_write, is_declared, is_writable}
use Rattle.drm_job.specs.Fault.{buffers_of, repeat_after, wrongly_moved, is_undeclared, is_on_hold, packet_fault, job_tests, IsJob}
use Rattle.drm_job.specs.Sound.{IsSound}
use Rattle.drm_job.proofs.Distinct.{distinct_from, none_repeats, IsNew}
use Rattle.drm_job.proofs.InRange.{runs_in}
use Rattle.drm_types.proofs.Firsts.{none_at, none_when, none_more, none_where, false_where, none_of_map, none_found, finds_none}
use Rattle.drm_job.proofs.Moves.{moved_rightly, none_wrongly_moved}
use Rattle.drm_job.proofs.Within.{stays_within}

-- a job is sound
pub sound_from : (spec : DeviceSpec) (job : Draft) → IsJob spec job → IsSound spec job
sound_from spec job none =
    let found = none_of_map NoBuffer (find (λ b. nat_le (length spec.buffers) b) (buffers_of job))
    (none_at (job_tests spec job) 5 (option_map NoBuffer (find (λ b. nat_le (length spec.buffers) b) (buffers_of job))) none refl) in
    let fails : All (λ b. nat_le (length spec.buffers) b ≡ false) (buffers_of job) =
    All-from_recursion (λ b. nat_le (length spec.buffers) b ≡ false) (buffers_of job) (none_found (λ b. nat_le (length spec.buffers) b) (buffers_of job) found) in
    let repeats = none_of_map DeclaredTwice (repeat_after [] (buffers_of job))
    (none_at (job_tests spec job) 6 (option_map DeclaredTwice (repeat_after [] (buffers_of job))) none refl) in
    let some : job.credits ≢ 0 = eqb-false job.credits 0 (false_where (job.credits == 0) NoCredits (none_at (job_tests spec job) 1 (when (job.credits == 0) NoCredits) none refl)) in
    record {
      entity = ltb-true job.entity (length spec.entities) (none_when (nat_lt job.entity (length spec.entities)) NoEntity
          (none_at (job_tests spec job) 0 (when (not (nat_lt job.entity (length spec.entities))) NoEntity) none refl));
      credits = omega arith;
      few_declared = ltb-false 16 (length job.declared) (false_where (nat_lt 16 (length job.declared)) (TooMany Declared)
          (none_at (job_tests spec job) 2 (when (nat_lt 16 (length job.declared)) (TooMany Declared)) none refl));
      few_after = ltb-false 16 (length job.after) (false_where (nat_lt 16 (length job.after)) (TooMany After)
          (none_at (job_tests spec job) 3 (when (nat_lt 16 (length job.after)) (TooMany After)) none refl));
      few_packets = ltb-false 64 (length job.packets) (false_where (nat_lt 64 (length job.packets)) (TooMany Packets)
          (none_at (job_tests spec job) 4 (when (nat_lt 64 (length job.packets)) (TooMany Packets)) none refl));
      buffers = All-weaker (λ b. nat_le (length spec.buffers) b ≡ false) (λ b. b < length spec.buffers) (λ b fail. leb-false (length spec.buffers) b fail) (buffers_of job) fails;
      distinct = (distinct_from [] (buffers_of job) repeats).1;
      moves = moved_rightly spec job (none_of_map MoveNotKernel (wrongly_moved spec job)
          (none_at (job_tests spec job) 7 (option_map MoveNotKernel (wrongly_moved spec job)) none refl));
      within = stays_within spec job none;
      ranges = runs_in spec job spec.buffers none refl;
    }

-- what may be read is declared, and so is what may be written
pub declared_where : (o : Option Access) (test : Access → Bool) → option_map_or test o false ≡ true → is_some o ≡ true
declared_where None test never = never
declared_where (Some a) test is = refl

-- and so are all of these
pub all_declared : (job : Draft) (test : Access → Bool) (bs : List ℕ) → list_all (λ b. option_map_or test (access_of job b) false) bs ≡ true
    → list_all (λ b. is_some (access_of job b)) bs ≡ true
all_declared job test bs each =
    list_all-from_AllPass (λ b. is_some (access_of job b)) bs
    (All-weaker (λ b. option_map_or test (access_of job b) false ≡ true) (λ b. is_some (access_of job b) ≡ true)
    (λ b is. declared_where (access_of job b) test is) bs
    (AllPass-from_list_all (λ b. option_map_or test (access_of job b) false) bs each))

-- a packet that stays within touches nothing undeclared
pub touches_declared : (job : Draft) (p : Packet) → is_declared job p ≡ true → is_writable job p ≡ true
    → list_all (λ b. is_some (access_of job b)) (touches p) ≡ true
touches_declared job p read written =
    list_all-append (λ b. is_some (access_of job b)) (reads p) (writes p)
    ∙ and_from (list_all (λ b. is_some (access_of job b)) (reads p)) (list_all (λ b. is_some (access_of job b)) (writes p))
    (all_declared job may_read (reads p) read) (all_declared job may_write (writes p) written)

-- who may write may read
pub writable_readable : (o : Option Access) → option_map_or may_write o false ≡ true → option_map_or may_read o false ≡ true
writable_readable None never = never
writable_readable (Some access.Read) never = refl
writable_readable (Some access.Write) is = refl
writable_readable (Some access.Hold) never = never
writable_readable (Some access.Move) is = refl

-- and touches nothing that is only held
pub touches_readable : (job : Draft) (p : Packet) → is_declared job p ≡ true → is_writable job p ≡ true → list_all (can_read job) (touches p) ≡ true
touches_readable job p read written =
    list_all-append (can_read job) (reads p) (writes p)
    ∙ and_from (list_all (can_read job) (reads p)) (list_all (can_read job) (writes p)) read
    (list_all-from_AllPass (can_read job) (writes p)
    (All-weaker (λ b. can_write job b ≡ true) (λ b. can_read job b ≡ true) (λ b is. writable_readable (access_of job b) is) (writes p)
    (AllPass-from_list_all (can_write job) (writes p) written)))

-- a packet that stays within, and within its buffers, has no fault
pub no_packet_fault : (spec : DeviceSpec) (job : Draft) (n : ℕ) (p : Packet) → is_declared job p ≡ true → is_writable job p ≡ true
    → is_in_range p spec.buffers ≡ true → packet_fault spec job n p ≡ None
no_packet_fault spec job n p read written in_range =
    let undeclared = when (is_undeclared job p) (PacketUndeclared n) in
    let on_hold = when (is_on_hold job p) (PacketOnHold n) in
    let read_only = when (not (is_writable job p)) (PacketReadOnly n) in
    let range = when (not (is_in_range p spec.buffers)) (PacketRange n) in
    none_more undeclared (on_hold ∷ read_only ∷ range ∷ [])
    (none_where (is_undeclared job p) (PacketUndeclared n) (ap not (touches_declared job p read written)))
    (none_more on_hold (read_only ∷ range ∷ []) (none_where (is_on_hold job p) (PacketOnHold n) (ap not (touches_readable job p read written)))
    (none_more read_only (range ∷ []) (none_where (not (is_writable job p)) (PacketReadOnly n) (ap not written))
    (none_more range [] (none_where (not (is_in_range p spec.buffers)) (PacketRange n) (ap not in_range)) refl)))

-- packets that do have none, one after another
pub no_faults : (spec : DeviceSpec) (job : Draft) (n : ℕ) (ps : List Packet)
    → AllByRecursion (λ p. IsTrue (is_declared job p) × IsTrue (is_writable job p)) ps → AllByRecursion (λ p. IsTrue (is_in_range p spec.buffers)) ps
    → first_of (map (λ p. packet_fault spec job p.0 p.1) (enumerate_from n ps)) ≡ None
no_faults spec job n [] within ranges = refl
no_faults spec job n (p ∷ ps) within ranges =
    none_more (packet_fault spec job n p) (map (λ p. packet_fault spec job p.0 p.1) (enumerate_from (n + 1) ps))
    (no_packet_fault spec job n p within.0.0 within.0.1 ranges.0) (no_faults spec job (n + 1) ps within.1 ranges.1)

-- what is above nothing is something
lt_ne : {n : ℕ} → 0 ≡ n → 0 < n → ⊥
lt_ne none some = absurd (omega arith)

-- each number is new where none stands before
pub all_new : (xs : List ℕ) → AllByRecursion (IsNew []) xs
all_new [] = tt
all_new (x ∷ xs) = (refl, all_new xs)

-- a sound draft is a job
pub job_from : (spec : DeviceSpec) (job : Draft) → IsSound spec job → IsJob spec job
job_from spec job sound =
    let entity = when (not (nat_lt job.entity (length spec.entities))) NoEntity in
    let credits = when (job.credits == 0) NoCredits in
    let declared = when (nat_lt 16 (length job.declared)) (TooMany Declared) in
    let after = when (nat_lt 16 (length job.after)) (TooMany After) in
    let packets = when (nat_lt 64 (length job.packets)) (TooMany Packets) in
    let missing = option_map NoBuffer (find (λ b. nat_le (length spec.buffers) b) (buffers_of job)) in
    let twice = option_map DeclaredTwice (repeat_after [] (buffers_of job)) in
    let moved = option_map MoveNotKernel (wrongly_moved spec job) in
    let faulty = first_of (map (λ p. packet_fault spec job p.0 p.1) (enumerate_from 0 job.packets)) in
    let some : job.credits ≡ 0 → ⊥ = λ none. lt_ne (sym none) sound.credits in
    let fails : All (λ b. nat_le (length spec.buffers) b ≡ false) (buffers_of job) =
    All-weaker (λ b. b < length spec.buffers) (λ b. nat_le (length spec.buffers) b ≡ false) (λ b lt. lt-leb (length spec.buffers) b lt) (buffers_of job) sound.buffers in
    let found : find (λ b. nat_le (length spec.buffers) b) (buffers_of job) ≡ None =
    finds_none (λ b. nat_le (length spec.buffers) b) (buffers_of job) (recursion_from_All (λ b. nat_le (length spec.buffers) b ≡ false) (buffers_of job) fails) in
    let once : repeat_after [] (buffers_of job) ≡ None = none_repeats [] (buffers_of job) (all_new (buffers_of job)) sound.distinct in
    none_more entity (credits ∷ declared ∷ after ∷ packets ∷ missing ∷ twice ∷ moved ∷ faulty ∷ [])
    (none_where (not (nat_lt job.entity (length spec.entities))) NoEntity (ap not (lt-ltb job.entity (length spec.entities) sound.entity)))
    (none_more credits (declared ∷ after ∷ packets ∷ missing ∷ twice ∷ moved ∷ faulty ∷ []) (none_where (job.credits == 0) NoCredits (ne_eqb job.credits 0 some))
    (none_more declared (after ∷ packets ∷ missing ∷ twice ∷ moved ∷ faulty ∷ [])
    (none_where (nat_lt 16 (length job.declared)) (TooMany Declared) (le-ltb 16 (length job.declared) sound.few_declared))
    (none_more after (packets ∷ missing ∷ twice ∷ moved ∷ faulty ∷ [])
    (none_where (nat_lt 16 (length job.after)) (TooMany After) (le-ltb 16 (length job.after) sound.few_after))
    (none_more packets (missing ∷ twice ∷ moved ∷ faulty ∷ [])
    (none_where (nat_lt 64 (length job.packets)) (TooMany Packets) (le-ltb 64 (length job.packets) sound.few_packets))
    (none_more missing (twice ∷ moved ∷ faulty ∷ []) (ap (option_map NoBuffer) found)
    (none_more twice (moved ∷ faulty ∷ []) (ap (option_map DeclaredTwice) once)
    (none_more moved (faulty ∷ []) (ap (option_map MoveNotKernel) (none_wrongly_moved spec job sound.moves))
    (none_more faulty []
    (no_faults spec job 0 job.packets
    (recursion_from_All (λ p. IsTrue (is_declared job p) × IsTrue (is_writable job p)) job.packets sound.within)
    (recursion_from_All (λ p. IsTrue (is_in_range p spec.buffers)) job.packets sound.ranges))
    refl))))))))
