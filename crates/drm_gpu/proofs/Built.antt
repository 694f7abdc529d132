-- What holds of a device that was just built.
use Rattle.std.proofs.Common.{◌≡◌, ◌<◌, ◌≤◌, ◌+◌, ℕ, zero, suc, true, List, [], ◌∷◌, length, map, replicate, drop, refl, sym, ap, ◌∙◌, subst, None, arith}
use Rattle.std.specs.Prelude.{nat_le}
use Rattle.std.proofs.lemmas.Bool.{and_parts, leb-true}
use Rattle.std.proofs.lemmas.List.Elements.{All-nil}
use Rattle.std.proofs.lemmas.List.{length-map, length-replicate}
use Rattle.drm_types.proofs.Firsts.{none_at, none_when}
use Rattle.drm_types.specs.declared.spec.DeviceSpec.{DeviceSpec}
use Rattle.drm_types.specs.Limits.{is_between, whole, spec_fault, spec_tests}
use Rattle.drm_resv.specs.Reservation.{Reservation, WithRoom}
use Rattle.drm_state.specs.Keeps.{word_at}
use Rattle.drm_state.specs.Reservation.{IsOfJob, Fits}
use Rattle.ww_lock.specs.Lifetime.{AllFit}

-- ---- its description is within the limits

pub few_buffers : (spec : DeviceSpec) → spec_fault spec ≡ None → length spec.buffers ≤ 64
few_buffers spec none =
    let count : is_between 1 64 (length spec.buffers) ≡ true = none_when (is_between 1 64 (length spec.buffers)) (record { part = 0; index = 0 })
    (none_at (spec_tests spec) 0 (whole 0 (is_between 1 64 (length spec.buffers))) none refl) in
    leb-true (length spec.buffers) 64 (and_parts (nat_le 1 (length spec.buffers)) (nat_le (length spec.buffers) 64) count).1

pub few_entities : (spec : DeviceSpec) → spec_fault spec ≡ None → length spec.entities ≤ 64
few_entities spec none =
    let count : is_between 1 64 (length spec.entities) ≡ true = none_when (is_between 1 64 (length spec.entities)) (record { part = 6; index = 0 })
    (none_at (spec_tests spec) 6 (whole 6 (is_between 1 64 (length spec.entities))) none refl) in
    leb-true (length spec.entities) 64 (and_parts (nat_le 1 (length spec.entities)) (nat_le (length spec.entities) 64) count).1

pub some_jobs : (spec : DeviceSpec) → spec_fault spec ≡ None → 0 < spec.max_jobs
some_jobs spec none =
    let count : is_between 1 65535 spec.max_jobs ≡ true = none_when (is_between 1 65535 spec.max_jobs) (record { part = 8; index = 0 })
    (none_at (spec_tests spec) 8 (whole 8 (is_between 1 65535 spec.max_jobs)) none refl) in
    let least = leb-true 1 spec.max_jobs (and_parts (nat_le 1 spec.max_jobs) (nat_le spec.max_jobs 65535) count).0 in
    omega (arith, least)

-- ---- and its reservations fit it

abbrev empty : Reservation
empty = record { entries = []; history = [] }

empty_fits : (b : ℕ) → Fits b [] empty
empty_fits b = record { history = refl; of_jobs = All-nil (IsOfJob b []); covers = λ i r usage at. absurd (cc (at)) }

pub blank_fit : (b n : ℕ) (xs : List WithRoom) → map (λ r. r.kept) xs ≡ replicate n empty → AllFit (λ b (r : WithRoom). Fits b [] r.kept) b xs
blank_fit b n [] all = tt
blank_fit b zero (x ∷ xs) all = absurd (cc (all))
blank_fit b (suc n) (x ∷ xs) all =
    let one : x.kept ≡ empty = cc (all) in
    let rest : map (λ r. r.kept) xs ≡ replicate n empty = ap (drop 1) all in
    (subst (Fits b []) (sym one) (empty_fits b), blank_fit (b + 1) n xs rest)

pub count_of : (n : ℕ) (xs : List WithRoom) → map (λ r. r.kept) xs ≡ replicate n empty → length xs ≡ n
count_of n xs all = sym (length-map xs (λ (r : WithRoom). r.kept)) ∙ (ap length all ∙ length-replicate n empty)

-- ---- and it shows no fence
