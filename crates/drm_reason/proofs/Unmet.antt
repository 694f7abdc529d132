-- What a job waits for, as it is found: the least fence that is not met, and the least job that has to end before.
use Rattle.std.proofs.Common.{◌≡◌, ℕ, ◌<◌, true, false, not, List, take, Some, None, Option, refl, sym, ap, ◌∙◌, inl, inr, arith, slice_get}
use Rattle.std.specs.Prelude.{find, option_map}
use Rattle.std.proofs.lemmas.Bool.{and_from, and_parts, both_ways, cases_Bool, not-true, not_from_false}
use Rattle.drm_fence.specs.Phases.{has_ended}
use Rattle.drm_state.specs.declared.journal.JobRecord.{JobRecord}
use Rattle.drm_state.specs.Journal.{numbered}
use Rattle.drm_state.specs.Order.{comes_after, is_met, is_ready, dependencies}
use Rattle.drm_reason.specs.Reasons.{is_going, least_going, least_unmet, must_follow}
use Rattle.drm_reason.specs.Standing.{IsGoing, IsLeastGoing, IsUnmet, is_unmet}
use Rattle.drm_reason.proofs.Finds.{all_where_none, find-filter, finds_before, finds_none_before, first_before, none_before, none_where_all}

-- ---- fences that are not met

pub unmet_by_both : (js : List JobRecord) (n : ℕ) (job : JobRecord) → least_unmet js n job ≡ find (is_unmet job) (take n (numbered js))
unmet_by_both js n job =
    find-filter (λ (m : ℕ × JobRecord). not (is_met job.ring m.1)) (λ (m : ℕ × JobRecord). comes_after job.job m.0 m.1.job) (take n (numbered js))

to_unmet : (js : List JobRecord) (n : ℕ) (job : JobRecord) (f : ℕ) (x : JobRecord) → f < n → slice_get js f ≡ Some x → is_unmet job (f, x) ≡ true
    → IsUnmet js n job f x
to_unmet js n job f x less at is =
    let parts = and_parts (comes_after job.job f x.job) (not (is_met job.ring x)) is in
    record { before = less; at = at; follows = parts.0; unmet = not-true (is_met job.ring x) parts.1 }

from_unmet : (js : List JobRecord) (n : ℕ) (job : JobRecord) (f : ℕ) (x : JobRecord) → IsUnmet js n job f x → is_unmet job (f, x) ≡ true
from_unmet js n job f x is =
    and_from (comes_after job.job f x.job) (not (is_met job.ring x)) is.follows (not_from_false (is_met job.ring x) is.unmet)

-- what fails the test is not such a record
apart_from_unmet : (js : List JobRecord) (n : ℕ) (job : JobRecord) (f : ℕ) (x : JobRecord) → is_unmet job (f, x) ≡ false → IsUnmet js n job f x → ⊥
apart_from_unmet js n job f x fails is = both_ways (is_unmet job (f, x)) fails (from_unmet js n job f x is)

pub record IsLeastUnmet (js : List JobRecord) (n : ℕ) (job : JobRecord) (f : ℕ) (x : JobRecord) : Type 0 where
  pub unmet : IsUnmet js n job f x
  pub least : (i : ℕ) (other : JobRecord) → i < f → IsUnmet js n job i other → ⊥

pub unmet_found : (js : List JobRecord) (n : ℕ) (job : JobRecord) (m : ℕ × JobRecord) → least_unmet js n job ≡ Some m → IsLeastUnmet js n job m.0 m.1
unmet_found js n job m is =
    let found = first_before js n (is_unmet job) m (sym (unmet_by_both js n job) ∙ is) in
    record {
      unmet = to_unmet js n job m.0 m.1 found.within found.at found.passes;
      least = λ i x less other. apart_from_unmet js n job i x (found.before i x less other.at) other;
    }

pub unmet_is : (js : List JobRecord) (n : ℕ) (job : JobRecord) (f : ℕ) (x : JobRecord) → IsLeastUnmet js n job f x → least_unmet js n job ≡ Some (f, x)
unmet_is js n job f x is =
    unmet_by_both js n job
    ∙ finds_before js n (is_unmet job) f x (record {
      within = is.unmet.before;
      at = is.unmet.at;
      passes = from_unmet js n job f x is.unmet;
      before = before;
    })
  where
    before : (i : ℕ) (y : JobRecord) → i < f → slice_get js i ≡ Some y → is_unmet job (i, y) ≡ false
    before i y less at =
        elim (cases_Bool (is_unmet job (i, y))) [
          | inr fails ↦ fails
          | inl waits ↦ absurd (is.least i y less (to_unmet js n job i y (omega (arith, less, is.unmet.before)) at waits))
        ]

-- a job that is ready waits for none, and the other way round
pub ready_where_none : (js : List JobRecord) (n : ℕ) (job : JobRecord) → least_unmet js n job ≡ None → is_ready js n job ≡ true
ready_where_none js n job none = all_where_none (λ (m : ℕ × JobRecord). is_met job.ring m.1) (dependencies js n job.job) none

pub none_where_ready : (js : List JobRecord) (n : ℕ) (job : JobRecord) → is_ready js n job ≡ true → least_unmet js n job ≡ None
none_where_ready js n job ready = none_where_all (λ (m : ℕ × JobRecord). is_met job.ring m.1) (dependencies js n job.job) ready

-- ---- jobs that have to end before

to_going : (js : List JobRecord) (n : ℕ) (job : JobRecord) (f : ℕ) (x : JobRecord) → f < n → slice_get js f ≡ Some x → is_going job (f, x) ≡ true
    → IsGoing js n job f x
to_going js n job f x less at is =
    let parts = and_parts (must_follow job f x) (not (has_ended x.phase)) is in
    record { before = less; at = at; follows = parts.0; going = not-true (has_ended x.phase) parts.1 }

from_going : (js : List JobRecord) (n : ℕ) (job : JobRecord) (f : ℕ) (x : JobRecord) → IsGoing js n job f x → is_going job (f, x) ≡ true
from_going js n job f x is = and_from (must_follow job f x) (not (has_ended x.phase)) is.follows (not_from_false (has_ended x.phase) is.going)

apart_from_going : (js : List JobRecord) (n : ℕ) (job : JobRecord) (f : ℕ) (x : JobRecord) → is_going job (f, x) ≡ false → IsGoing js n job f x → ⊥
apart_from_going js n job f x fails is = both_ways (is_going job (f, x)) fails (from_going js n job f x is)

-- what is told of them is so
pub going_stands : (js : List JobRecord) (n : ℕ) (job : JobRecord) → IsLeastGoing js n job (least_going js n job)
going_stands js n job = by_found (find (is_going job) (take n (numbered js))) refl
  where
    by_found : (o : Option (ℕ × JobRecord)) → find (is_going job) (take n (numbered js)) ≡ o
        → IsLeastGoing js n job (option_map (λ (m : ℕ × JobRecord). m.0) o)
    by_found None none = λ i x other. apart_from_going js n job i x (none_before js n (is_going job) i x none other.before other.at) other
    by_found (Some m) is =
        let found = first_before js n (is_going job) m is in (
          (m.1, to_going js n job m.0 m.1 found.within found.at found.passes),
          λ i x less other. apart_from_going js n job i x (found.before i x less other.at) other,
        )

-- and what is so is told
pub going_is : (js : List JobRecord) (n : ℕ) (job : JobRecord) (behind : Option ℕ) → IsLeastGoing js n job behind → least_going js n job ≡ behind
going_is js n job None none = ap (option_map (λ (m : ℕ × JobRecord). m.0)) (finds_none_before js n (is_going job) each)
  where
    each : (i : ℕ) (x : JobRecord) → i < n → slice_get js i ≡ Some x → is_going job (i, x) ≡ false
    each i x less at =
        elim (cases_Bool (is_going job (i, x))) [
          | inr fails ↦ fails
          | inl goes ↦ absurd (none i x (to_going js n job i x less at goes))
        ]
going_is js n job (Some f) is =
    ap (option_map (λ (m : ℕ × JobRecord). m.0))
    (finds_before js n (is_going job) f is.0.0 (record {
      within = is.0.1.before;
      at = is.0.1.at;
      passes = from_going js n job f is.0.0 is.0.1;
      before = before;
    }))
  where
    before : (i : ℕ) (y : JobRecord) → i < f → slice_get js i ≡ Some y → is_going job (i, y) ≡ false
    before i y less at =
        elim (cases_Bool (is_going job (i, y))) [
          | inr fails ↦ fails
          | inl goes ↦ absurd (is.1 i y less (to_going js n job i y (omega (arith, less, is.0.1.before)) at goes))
        ]
