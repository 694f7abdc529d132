-- How many elements stand before the first one that passes a test, by places.
use Rattle.std.proofs.Common.{◌≡◌, ℕ, zero, suc, ◌<◌, ◌≤◌, Bool, true, false, cond, List, [], ◌∷◌, ◌++◌, length, set, Option, Some, None, refl, sym, ap, subst, ◌∙◌, arith, slice_get}
use Rattle.std.specs.Prelude.{find}
use Rattle.std.specs.Option.{option_map_or}
use Rattle.drm_ring.specs.RingRows.{RingRow, pending_at, ring_row_changed, PassesTo}
use Rattle.drm_state.specs.declared.journal.JobRecord.{JobRecord}
use Rattle.drm_state.specs.Rows.{is_open, passed_of, passed_row}

-- the first that passes stands behind them
pub passed_finds : (test : ℕ → Bool) (xs : List ℕ) → slice_get xs (passed_of test xs) ≡ find test xs
passed_finds test [] = refl
passed_finds test (x ∷ xs) =
    elim (test x) as (λ t. slice_get (x ∷ xs) (cond t zero (suc (passed_of test xs))) ≡ cond t (Some x) (find test xs)) [
      | true ↦ refl
      | false ↦ passed_finds test xs
    ]

-- where a ring has passed over its jobs by what it was answered, it stands there
pub passes_is : (Answers : ℕ → Bool → Type 0) (test : ℕ → Bool) (xs : List ℕ) (from to : ℕ) → ((f : ℕ) (b : Bool) → Answers f b → b ≡ test f)
    → PassesTo Answers xs from to → from ≤ passed_of test xs → to ≡ passed_of test xs
passes_is Answers test xs from to same is known =
    stands xs from to known is.passed.forth is.passed.within
    (λ k f behind before at. sym (same f false (is.passed.done k f behind before at)))
    (λ f at. sym (same f true (is.next f at)))
  where
    stands : (xs : List ℕ) (from to : ℕ) → from ≤ passed_of test xs → from ≤ to → to ≤ length xs
        → ((k f : ℕ) → from ≤ k → k < to → slice_get xs k ≡ Some f → test f ≡ false)
        → ((f : ℕ) → slice_get xs to ≡ Some f → test f ≡ true) → to ≡ passed_of test xs
    stands [] from to known forth within done next = omega (arith, within)
    stands (x ∷ xs) from zero known forth within done next = ap (λ t. cond t zero (suc (passed_of test xs))) (sym (next x refl))
    stands (x ∷ xs) zero (suc to) known forth within done next =
        ap suc (stands xs zero to (omega arith) (omega arith) (omega (arith, within))
        (λ k f behind before at. done (suc k) f (omega arith) (omega (arith, before)) at) next)
        ∙ ap (λ t. cond t zero (suc (passed_of test xs))) (sym (done zero x (omega arith) (omega arith) refl))
    stands (x ∷ xs) (suc from) (suc to) known forth within done next =
        elim (test x) as (λ t. suc from ≤ cond t zero (suc (passed_of test xs)) → suc to ≡ cond t zero (suc (passed_of test xs))) [
          | true ↦ λ le. absurd (omega (arith, le))
          | false ↦ λ le. ap suc (stands xs from to (omega (arith, le)) (omega (arith, forth)) (omega (arith, within))
              (λ k f behind before at. done (suc k) f (omega (arith, behind)) (omega (arith, before)) at) next)
        ] known

-- so it does in the list of all rings
pub row_passes : (rings : List RingRow) (ring to : ℕ) (journal : List JobRecord) → to ≡ passed_of (is_open journal) (pending_at rings ring)
    → ring_row_changed rings ring (λ r. record r { passed = to }) ≡ ring_row_changed rings ring (passed_row journal)
row_passes rings ring to journal is = by_row (slice_get rings ring) is
  where
    by_row : (o : Option RingRow) → to ≡ passed_of (is_open journal) (option_map_or (λ (r : RingRow). r.state.pending) o [])
        → option_map_or (λ (r : RingRow). set rings ring (record r { passed = to })) o rings
        ≡ option_map_or (λ (r : RingRow). set rings ring (passed_row journal r)) o rings
    by_row None is = refl
    by_row (Some r) is = ap (λ n. let new : RingRow = record r { passed = n } in set rings ring new) is

-- no fewer where what did not pass does not pass
pub passed_grows : (p q : ℕ → Bool) (xs : List ℕ) → ((k x : ℕ) → slice_get xs k ≡ Some x → p x ≡ false → q x ≡ false) → passed_of p xs ≤ passed_of q xs
passed_grows p q [] stays = omega arith
passed_grows p q (x ∷ xs) stays =
    let rest = passed_grows p q xs (λ k y at. stays (suc k) y at) in
    elim (p x) as (λ t. p x ≡ t → cond t zero (suc (passed_of p xs)) ≤ cond (q x) zero (suc (passed_of q xs))) [
      | true ↦ λ is. omega arith
      | false ↦ λ is. subst (λ t. suc (passed_of p xs) ≤ cond t zero (suc (passed_of q xs))) (sym (stays 0 x refl is)) (omega (arith, rest))
    ] refl

pub passed_same : (p q : ℕ → Bool) (xs : List ℕ) → ((k x : ℕ) → slice_get xs k ≡ Some x → p x ≡ q x) → passed_of p xs ≡ passed_of q xs
passed_same p q [] same = refl
passed_same p q (x ∷ xs) same =
    ap (λ t. cond t zero (suc (passed_of p xs))) (same 0 x refl)
    ∙ ap (λ n. cond (q x) zero (suc n)) (passed_same p q xs (λ k y at. same (suc k) y at))

-- nor in a longer list
pub passed_longer : (test : ℕ → Bool) (xs : List ℕ) (x : ℕ) → passed_of test xs ≤ passed_of test (xs ++ x ∷ [])
passed_longer test [] x = omega arith
passed_longer test (y ∷ ys) x =
    let rest = passed_longer test ys x in
    elim (test y) as (λ t. cond t zero (suc (passed_of test ys)) ≤ cond t zero (suc (passed_of test (ys ++ x ∷ [])))) [ true ↦ omega arith | false ↦ omega (arith, rest) ]

-- behind a first one that does not pass
pub passed_rest : (test : ℕ → Bool) (x : ℕ) (xs : List ℕ) → test x ≡ false → passed_of test (x ∷ xs) ≡ suc (passed_of test xs)
passed_rest test x xs done = ap (λ t. cond t zero (suc (passed_of test xs))) done
