-- Jobs that have ended hold nothing up and are queued for no ring, and stay so.
use Rattle.std.proofs.Common.{◌≡◌, ℕ, suc, ◌+◌, ◌<◌, ◌≤◌, Bool, true, false, not, ◌&&◌, ◌==◌, List, [], ◌∷◌, length, Some, None, refl, sym, ap, subst, ◌∙◌, inl, inr, arith, slice_get}
use Rattle.std.specs.Prelude.{option_map}
use Rattle.std.specs.List.{enumerate_from}
use Rattle.std.proofs.lemmas.Bool.{and_parts, both_ways, cases_Bool, cases_eq, not-true, or_left}
use Rattle.std.proofs.lemmas.Option.{slice_get_within}
use Rattle.drm_lists.proofs.Places.{get_numbered, stands_within}
use Rattle.drm_fence.specs.declared.phase.Phase.{Phase}
use Rattle.drm_fence.specs.declared.phase.Phase.TheVariants.{Queued, Scheduled, Ended}
use Rattle.drm_fence.specs.Phases.{has_ended, is_queued}
use Rattle.drm_state.specs.declared.journal.JobRecord.{JobRecord}
use Rattle.drm_state.specs.State.{DeviceState}
use Rattle.drm_state.specs.Journal.{numbered}
use Rattle.drm_state.specs.Order.{comes_after, is_met}
use Rattle.drm_state.proofs.ChoiceIs.{numbered_get}
use Rattle.drm_state.proofs.Found.{find_at, find_none}
use Rattle.drm_reason.specs.declared.retired.Retired.{Retired}
use Rattle.drm_reason.specs.Reasons.{is_going, must_follow}
use Rattle.drm_reason.specs.Retired.{AreRetired, RetiredStay, first_queued_for}
use Rattle.drm_reason.specs.Standing.{is_unmet}
use Rattle.drm_reason.specs.Watching.{IsKnownBelow, Knows}
use Rattle.drm_reason.proofs.Looks.{ended_stays}

-- ---- nothing of them holds a job up

never_unmet : (job x : JobRecord) (i : ℕ) → has_ended x.phase ≡ true → is_unmet job (i, x) ≡ false
never_unmet job x i ended =
    elim (cases_Bool (is_unmet job (i, x))) [
      | inr fails ↦ fails
      | inl waits ↦
          let parts = and_parts (comes_after job.job i x.job) (not (is_met job.ring x)) waits in
          absurd (both_ways (is_met job.ring x) (not-true (is_met job.ring x) parts.1) (or_left (has_ended x.phase) (not (is_queued x.phase) && (x.ring == job.ring)) ended))
    ]

never_going : (job x : JobRecord) (i : ℕ) → has_ended x.phase ≡ true → is_going job (i, x) ≡ false
never_going job x i ended =
    elim (cases_Bool (is_going job (i, x))) [
      | inr fails ↦ fails
      | inl goes ↦
          let parts = and_parts (must_follow job i x) (not (has_ended x.phase)) goes in
          absurd (both_ways (has_ended x.phase) (not-true (has_ended x.phase) parts.1) ended)
    ]

known : (d : DeviceState) (retired : Retired) (n : ℕ) (test : JobRecord → ℕ × JobRecord → Bool) → ((job x : JobRecord) (i : ℕ) → has_ended x.phase ≡ true → test job (i, x) ≡ false)
    → n < length d.journal → AreRetired d retired → IsKnownBelow d.journal n test retired.below
known d retired n test never within are = record {
  armed = λ some. stands_within d.journal n within;
  within = λ i less. are.armed i less;
  none = λ job at i x less there. never job x i (are.ended i x less there);
}

-- so a look at a job may begin behind them
pub knows_from : (d : DeviceState) (retired : Retired) (n : ℕ) → n < length d.journal → AreRetired d retired
    → Knows d (record { fence = n; met = retired.below; ended = retired.below })
knows_from d retired n within are = record {
  met = known d retired n is_unmet never_unmet within are;
  ended = known d retired n is_going never_going within are;
}

-- ---- one more

pub retired_more : (d : DeviceState) (old new : Retired) (job : JobRecord) → slice_get d.journal old.below ≡ Some job → has_ended job.phase ≡ true → new.below ≡ old.below + 1
    → AreRetired d old → AreRetired d new
retired_more d old new job at ended one are = record {
  armed = λ i less.
      elim (cases_eq i old.below) [
        | inl same ↦ let here = slice_get_within d.journal old.below job at in omega (arith, same, here)
        | inr apart ↦ are.armed i (omega (arith, less, one, apart))
      ];
  ended = λ i x less there.
      elim (cases_eq i old.below) [
        | inl same ↦
            let here : slice_get d.journal old.below ≡ Some x = subst (λ (m : ℕ). slice_get d.journal m ≡ Some x) same there in
            let is : job ≡ x = cc (at, here) in subst (λ (r : JobRecord). has_ended r.phase ≡ true) is ended
        | inr apart ↦ are.ended i x (omega (arith, less, one, apart)) there
      ];
}

-- ---- they stay so

pub retired_stay : RetiredStay
retired_stay old new retired grows are = record {
  armed = λ i less.
      let (x, at) = stands_within old.journal i (are.armed i less) in
      let (x', at', later) = grows.journal i x at in slice_get_within new.journal i x' at';
  ended = λ i x' less there'.
      let (x, at) = stands_within old.journal i (are.armed i less) in
      let (y, at_y, later) = grows.journal i x at in
      let same : y ≡ x' = cc (at_y, there') in
      subst (λ (r : JobRecord). has_ended r.phase ≡ true) same (ended_stays x.phase y.phase later.phase (are.ended i x less at));
}

-- ---- the first job that is queued for a ring

abbrev pub waits_for_ring : ℕ → JobRecord → Bool
waits_for_ring ring r = (r.ring == ring) && is_queued r.phase

-- none of the records below this number is
abbrev pub NoneQueuedBelow : List JobRecord → ℕ → ℕ → Type 0
NoneQueuedBelow js ring below = (i : ℕ) (r : JobRecord) → i < below → slice_get js i ≡ Some r → waits_for_ring ring r ≡ false

not_queued : (phase : Phase) → has_ended phase ≡ true → is_queued phase ≡ false
not_queued Queued ended = absurd (let never : false ≡ true = ended in cc (never))
not_queued Scheduled ended = refl
not_queued (Ended outcome) ended = refl

-- none that has ended is
pub none_of_retired : (d : DeviceState) (retired : Retired) (ring : ℕ) → AreRetired d retired → NoneQueuedBelow d.journal ring retired.below
none_of_retired d retired ring are i r less at =
    elim (cases_Bool (waits_for_ring ring r)) [
      | inr fails ↦ fails
      | inl waits ↦
          let parts = and_parts (r.ring == ring) (is_queued r.phase) waits in
          absurd (both_ways (is_queued r.phase) (not_queued r.phase (are.ended i r less at)) parts.1)
    ]

length_numbered : {X : Type 0} (xs : List X) (n : ℕ) → length (enumerate_from n xs) ≡ length xs
length_numbered [] n = refl
length_numbered (x ∷ xs) n = ap suc (length_numbered xs (n + 1))

before : (js : List JobRecord) (ring below i : ℕ) (n : ℕ × JobRecord) → NoneQueuedBelow js ring below → i < below → slice_get (numbered js) i ≡ Some n
    → waits_for_ring ring n.1 ≡ false
before js ring below i n none less at = none i n.1 less (numbered_get js 0 i n at).1

pub queued_found : (js : List JobRecord) (ring k : ℕ) (r : JobRecord) → slice_get js k ≡ Some r → waits_for_ring ring r ≡ true → NoneQueuedBelow js ring k
    → Some k ≡ first_queued_for js ring
queued_found js ring k r at waits none =
    let same : k ≡ 0 + k = omega arith in
    ap (λ (m : ℕ). Some m) same
    ∙ sym (ap (option_map (λ (n : ℕ × JobRecord). n.0))
    (find_at (λ (n : ℕ × JobRecord). waits_for_ring ring n.1) (numbered js) k (0 + k, r) (get_numbered js 0 k r at) waits
    (λ i n less there. before js ring k i n none less there)))

pub none_queued : (js : List JobRecord) (ring k : ℕ) → length js ≤ k → NoneQueuedBelow js ring k → None ≡ first_queued_for js ring
none_queued js ring k all none =
    sym (ap (option_map (λ (n : ℕ × JobRecord). n.0))
    (find_none (λ (n : ℕ × JobRecord). waits_for_ring ring n.1) (numbered js)
    (λ i n there.
    let at = (numbered_get js 0 i n there).1 in
    let within = subst (λ (m : ℕ). i < m) (length_numbered js 0) (slice_get_within (numbered js) i n there) in
    none i n.1 (omega (arith, within, all)) at)))

-- one record more that is not
pub none_queued_more : (js : List JobRecord) (ring k : ℕ) (x : JobRecord) → slice_get js k ≡ Some x → waits_for_ring ring x ≡ false → NoneQueuedBelow js ring k
    → NoneQueuedBelow js ring (k + 1)
none_queued_more js ring k x at fails none i r less there =
    elim (cases_eq i k) [
      | inl same ↦
          let here : slice_get js k ≡ Some r = subst (λ (m : ℕ). slice_get js m ≡ Some r) same there in
          let one : x ≡ r = cc (at, here) in subst (λ (q : JobRecord). waits_for_ring ring q ≡ false) one fails
      | inr apart ↦ none i r (omega (arith, less, apart)) there
    ]
