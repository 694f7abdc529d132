-- Which heads of queues a ring may take.
use Rattle.std.proofs.Common.{◌≡◌, ℕ, true, false, ◌==◌, List, Some, None, Option, refl, sym, ap, subst, ◌∙◌, arith, slice_get}
use Rattle.std.specs.Prelude.{option_map}
use Rattle.std.specs.Option.{option_map_or}
use Rattle.std.specs.List.{list_all}
use Rattle.std.proofs.lemmas.Bool.{and_parts, eqb-true, eq-eqb}
use Rattle.drm_lists.proofs.Searches.{find_first}
use Rattle.drm_types.specs.Firsts.{first}
use Rattle.drm_fence.specs.declared.phase.Phase.{Phase}
use Rattle.drm_fence.specs.declared.phase.Phase.TheVariants.{Queued, Scheduled, Ended}
use Rattle.drm_fence.specs.Phases.{is_queued, has_ended}
use Rattle.drm_state.specs.declared.journal.JobRecord.{JobRecord}
use Rattle.drm_state.specs.State.{DeviceState}
use Rattle.drm_state.specs.Journal.{numbered, is_at}
use Rattle.drm_state.specs.Order.{is_met, is_ready}
use Rattle.drm_state.specs.Choice.{queue_of, is_head_of}
use Rattle.drm_state.specs.Steady.{IsSteady}
use Rattle.drm_table.specs.Plain.{WaitsStand}
use Rattle.drm_state.proofs.ChoiceIs.{first-filter, numbered_get, is_queued_of}
use Rattle.drm_state.proofs.LatestStands.{latest_stand, met_goes_down, GoesDown}

-- the number of the head of an entity's queue
abbrev pub head_number : List JobRecord → ℕ → Option ℕ
head_number journal entity = option_map (λ (n : ℕ × JobRecord). n.0) (first (queue_of entity journal))

-- it is the head
pub head_found : (journal : List JobRecord) (entity age : ℕ) → head_number journal entity ≡ Some age → is_head_of entity journal age ≡ true
head_found journal entity age is = by_first (first (queue_of entity journal)) is
  where
    by_first : (o : Option (ℕ × JobRecord)) → option_map (λ (n : ℕ × JobRecord). n.0) o ≡ Some age → option_map_or (λ (n : ℕ × JobRecord). n.0 == age) o false ≡ true
    by_first None none = absurd (cc (none))
    by_first (Some n) some = let same : n.0 ≡ age = cc (some) in eq-eqb n.0 age same

-- a queue with no head has no head
pub no_head : (journal : List JobRecord) (entity other : ℕ) → head_number journal entity ≡ None → is_head_of entity journal other ≡ true → false ≡ true
no_head journal entity other is heads = by_first (first (queue_of entity journal)) is heads
  where
    by_first : (o : Option (ℕ × JobRecord)) → option_map (λ (n : ℕ × JobRecord). n.0) o ≡ None → option_map_or (λ (n : ℕ × JobRecord). n.0 == other) o false ≡ true → false ≡ true
    by_first None none some = some
    by_first (Some n) some here = absurd (cc (some))

-- its record is queued, and of the entity
pub head_queued : (journal : List JobRecord) (entity age : ℕ) (r : JobRecord) → head_number journal entity ≡ Some age → slice_get journal age ≡ Some r
    → (r.job.entity ≡ entity) × (is_queued r.phase ≡ true)
head_queued journal entity age r is at = by_first (first (queue_of entity journal)) refl is
  where
    by_first : (o : Option (ℕ × JobRecord)) → first (queue_of entity journal) ≡ o → option_map (λ (n : ℕ × JobRecord). n.0) o ≡ Some age
        → (r.job.entity ≡ entity) × (is_queued r.phase ≡ true)
    by_first None none some = absurd (cc (some))
    by_first (Some n) is_n some =
        let number : n.0 ≡ age = cc (some) in
        let found = find_first (is_queued_of entity) (numbered journal) n (sym (first-filter (is_queued_of entity) (numbered journal)) ∙ is_n) in
        let there = numbered_get journal 0 found.0 n found.1 in
        let place : found.0 ≡ age = omega (arith, there.0, number) in
        let same : n.1 ≡ r = cc (there.1, at, place) in
        let passes = and_parts (n.1.job.entity == entity) (is_queued n.1.phase) found.2 in
        (ap (λ (z : JobRecord). z.job.entity) (sym same) ∙ eqb-true n.1.job.entity entity passes.0, ap (λ (z : JobRecord). is_queued z.phase) (sym same) ∙ passes.1)

pub queued_goes_on : (p : Phase) → is_queued p ≡ true → has_ended p ≡ false
queued_goes_on Queued is = refl
queued_goes_on Scheduled is = absurd (cc (is))
queued_goes_on (Ended o) is = absurd (cc (is))

-- what a look at the head of a queue found
pub record IsLook (journal : List JobRecord) (entity age : ℕ) (head : JobRecord) : Type 0 where
  pub found : head_number journal entity ≡ Some age
  pub at : slice_get journal age ≡ Some head

-- whether the head is ready, by the dependencies that are kept for it
pub ready_by_waits : (d : DeviceState) (journal : List JobRecord) (waits : List (List (ℕ × ℕ))) (ring entity age : ℕ) (head : JobRecord) (deps : List (ℕ × ℕ)) → IsSteady d
    → d.journal ≡ journal → WaitsStand journal waits → IsLook journal entity age head → slice_get waits age ≡ Some deps → head.ring ≡ ring
    → is_ready journal age head ≡ list_all (λ e. is_at journal e.1 (is_met ring)) deps
ready_by_waits d journal waits ring entity age head deps steady same stand look at home =
    let queued = head_queued journal entity age head look.found look.at in
    subst (λ n. is_ready journal age head ≡ list_all (λ e. is_at journal e.1 (is_met n)) deps) home
    (latest_stand journal age head deps (is_met head.ring)
    (subst (λ j. GoesDown j (is_met head.ring)) same (met_goes_down d head.ring steady))
    (stand.stand age head deps look.at (queued_goes_on head.phase queued.1) at))
