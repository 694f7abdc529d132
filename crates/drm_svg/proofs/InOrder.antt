-- Bars that are in order: the one of a job that waits is found where those before it end.
use Rattle.std.proofs.Common.{◌≡◌, ℕ, suc, zero, ◌+◌, ◌<◌, ◌≤◌, Bool, true, false, List, [], ◌∷◌, Option, Some, None, refl, arith, length, find, get_or, cond}
use Rattle.std.specs.Prelude.{slice_get}
use Rattle.std.specs.List.Sorted.{IsNonDecreasingBy}
use Rattle.std.proofs.lemmas.Bool.{eqb-false, ne_eqb}
use Rattle.drm_picture.specs.declared.bars.Kind.{Kind}
use Rattle.drm_picture.specs.declared.bars.Kind.TheVariants as kind
use Rattle.drm_svg.specs.declared.placing.Placed.{Placed}
use Rattle.drm_svg.specs.LaneBars.{if_waiting, is_waiting, order_by, order_of, waits_with}

-- none is found where all fail
none_found : {X : Type 0} (test : X → Bool) (xs : List X) → ((k : ℕ) (d : X) → k < length xs → test (get_or xs k d) ≡ false) → find test xs ≡ None
none_found test [] fails = refl
none_found test (x ∷ xs) fails = rw (fails 0 x (omega arith)) (none_found test xs (λ k d within. fails (suc k) d (omega (arith, within))))

-- the first of two, where the second is none if the first fails
first_or_none : {X : Type 0} (passes : Bool) (x : X) (rest : Option X) → (passes ≡ false → rest ≡ None) → cond passes (Some x) rest ≡ cond passes (Some x) None
first_or_none true x rest none = refl
first_or_none false x rest none = none refl

-- where the bars before a place are not the one of the job, nor those behind it if the one there is not, it is the one
-- there or none
found_at : (fence : ℕ) (bars : List Placed) (place : ℕ) → ((k : ℕ) (d : Placed) → k < place → k < length bars → is_waiting fence (get_or bars k d) ≡ false)
    → ((k : ℕ) (d : Placed) → place ≤ k → k < length bars → is_waiting fence (get_or bars place d) ≡ false → is_waiting fence (get_or bars k d) ≡ false)
    → find (is_waiting fence) bars ≡ if_waiting fence (slice_get bars place)
found_at fence [] place before behind = refl
found_at fence (bar ∷ bars) zero before behind =
    first_or_none (is_waiting fence bar) bar (find (is_waiting fence) bars)
    (λ fails. none_found (is_waiting fence) bars (λ k d within. behind (suc k) d (omega arith) (omega (arith, within)) fails))
found_at fence (bar ∷ bars) (suc place) before behind =
    rw (before 0 bar (omega arith) (omega arith))
    (found_at fence bars place (λ k d lt within. before (suc k) d (omega (arith, lt)) (omega (arith, within)))
    (λ k d le within. behind (suc k) d (omega (arith, le)) (omega (arith, within))))

-- a bar that stands before the fence or behind it is not the one of its job
below : (k : Kind) (number fence : ℕ) → order_by k number ≤ fence → waits_with fence k number ≡ false
below kind.Waiting number fence le = ne_eqb number fence (λ same. omega (arith, same, le))
below kind.Job number fence le = refl
below kind.Queued number fence le = refl
below kind.Stopped number fence le = refl
below kind.Lock number fence le = refl
below kind.Fence number fence le = refl

above : (k : Kind) (number fence : ℕ) → fence + 1 < order_by k number → waits_with fence k number ≡ false
above kind.Waiting number fence lt = ne_eqb number fence (λ same. omega (arith, same, lt))
above kind.Job number fence lt = refl
above kind.Queued number fence lt = refl
above kind.Stopped number fence lt = refl
above kind.Lock number fence lt = refl
above kind.Fence number fence lt = refl

-- one that stands at the fence or behind it, and is not the one of its job, stands behind that
other : (k : Kind) (number fence : ℕ) → fence < order_by k number → waits_with fence k number ≡ false → fence + 1 < order_by k number
other kind.Waiting number fence lt fails = let differs = eqb-false number fence fails in omega (arith, lt, differs)
other kind.Job number fence lt fails = absurd (omega (arith, lt))
other kind.Queued number fence lt fails = absurd (omega (arith, lt))
other kind.Stopped number fence lt fails = absurd (omega (arith, lt))
other kind.Lock number fence lt fails = absurd (omega (arith, lt))
other kind.Fence number fence lt fails = absurd (omega (arith, lt))

-- in bars that are in order, the one of a job that waits is at the place before which the bars stand before the fence,
-- if it is there
pub found_in_order : (bars : List Placed) (fence place : ℕ) → IsNonDecreasingBy order_of bars
    → ((k : ℕ) (d : Placed) → k < place → k < length bars → order_of (get_or bars k d) ≤ fence)
    → ((k : ℕ) (d : Placed) → place ≤ k → k < length bars → fence < order_of (get_or bars k d))
    → find (is_waiting fence) bars ≡ if_waiting fence (slice_get bars place)
found_in_order bars fence place rise before behind =
    found_at fence bars place
    (λ k d lt within. let bar = get_or bars k d in below bar.bar.kind bar.bar.opening.number fence (before k d lt within))
    (λ k d le within fails.
    let here = get_or bars place d in
    let bar = get_or bars k d in
    let from : fence + 1 < order_of here = other here.bar.kind here.bar.opening.number fence (behind place d (omega arith) (omega (arith, le, within))) fails in
    let up = rise place k d le within in
    above bar.bar.kind bar.bar.opening.number fence (omega (arith, from, up)))
