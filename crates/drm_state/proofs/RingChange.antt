-- Rings of which one changes.
use Rattle.std.proofs.Common.{◌≡◌, ◌≢◌, ℕ, ◌<◌, ◌≤◌, List, [], ◌∷◌, set, length, Some, sym, ap, subst, ◌∙◌, slice_get}
use Rattle.std.specs.Option.{option_map_or}
use Rattle.std.specs.Prelude.{sum_by}
use Rattle.std.proofs.lemmas.List.{length-set}
use Rattle.std.proofs.lemmas.Option.{slice_get-get_or}
use Rattle.std.proofs.Common.{get_or}
use Rattle.drm_lists.proofs.Changed.{get_set_same, get_set_other}
use Rattle.drm_state.specs.State.{RingState, DeviceState}
use Rattle.drm_types.specs.Firsts.{first}
use Rattle.drm_state.specs.Ring.{pending_of, credits_of, credit_limit_of, ring_changed}
use Rattle.drm_state.specs.Lawful.{IsPendingList, IsOnce, IsLawfulRing}

-- the state of a ring that is there
pub ring_there : (d : DeviceState) (ring : ℕ) → length d.rings ≡ length d.spec.rings → ring < length d.spec.rings
    → (s : RingState) × (slice_get d.rings ring ≡ Some s)
ring_there d ring count here =
    let none : RingState = record { pending = []; since = 0 } in
    (get_or d.rings ring none, slice_get-get_or d.rings ring none (subst (λ n. ring < n) (sym count) here))

pub ring_changed_is : (rings : List RingState) (ring : ℕ) (s : RingState) (change : RingState → RingState) → slice_get rings ring ≡ Some s
    → ring_changed rings ring change ≡ set rings ring (change s)
ring_changed_is rings ring s change is = ap (λ o. option_map_or (λ r. set rings ring (change r)) o rings) is

pub ring_changed_count : (rings : List RingState) (ring : ℕ) (s : RingState) (change : RingState → RingState) → slice_get rings ring ≡ Some s
    → length (ring_changed rings ring change) ≡ length rings
ring_changed_count rings ring s change is = ap length (ring_changed_is rings ring s change is) ∙ length-set rings ring (change s)

-- the pending list of the ring that changed
pub pending_here : (rings : List RingState) (ring : ℕ) (s : RingState) (change : RingState → RingState) → slice_get rings ring ≡ Some s
    → option_map_or (λ (r : RingState). r.pending) (slice_get (ring_changed rings ring change) ring) [] ≡ (change s).pending
pending_here rings ring s change is =
    let there : slice_get (ring_changed rings ring change) ring ≡ Some (change s) =
    ap (λ rs. slice_get rs ring) (ring_changed_is rings ring s change is) ∙ get_set_same rings ring s (change s) is in
    ap (λ o. option_map_or (λ (r : RingState). r.pending) o []) there

-- the pending lists of the others
pub pending_there : (rings : List RingState) (ring k : ℕ) (s : RingState) (change : RingState → RingState) → slice_get rings ring ≡ Some s → k ≢ ring
    → option_map_or (λ (r : RingState). r.pending) (slice_get (ring_changed rings ring change) k) []
    ≡ option_map_or (λ (r : RingState). r.pending) (slice_get rings k) []
pending_there rings ring k s change is apart =
    let there : slice_get (ring_changed rings ring change) k ≡ slice_get rings k =
    ap (λ rs. slice_get rs k) (ring_changed_is rings ring s change is) ∙ get_set_other rings ring k (change s) apart in
    ap (λ o. option_map_or (λ (r : RingState). r.pending) o []) there

-- a ring is lawful by what its pending list is
pub ring_lawful_by : (d : DeviceState) (k : ℕ) (numbers : List ℕ) → pending_of d k ≡ numbers → IsPendingList d.journal k numbers → IsOnce numbers
    → sum_by (credits_of d k) numbers ≤ credit_limit_of d k → IsLawfulRing d k
ring_lawful_by d k numbers is pends once credits = record {
  pending = subst (IsPendingList d.journal k) (sym is) pends;
  once = subst IsOnce (sym is) once;
  credits = subst (λ ns. sum_by (credits_of d k) ns ≤ credit_limit_of d k) (sym is) credits;
}

-- a list that has a first element
pub first_is : (xs : List ℕ) (f : ℕ) → first xs ≡ Some f → (rest : List ℕ) × (xs ≡ f ∷ rest)
first_is [] f is = absurd (cc (is))
first_is (x ∷ xs) f is = let same : x ≡ f = cc (is) in (xs, ap (λ y. y ∷ xs) same)
