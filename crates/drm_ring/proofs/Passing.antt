-- Up to which place a ring has passed over its jobs.
use Rattle.std.proofs.Common.{◌≡◌, ℕ, ◌+◌, ◌<◌, ◌≤◌, Bool, true, false, List, [], length, get_or, set, Some, sym, ap, subst, ◌∙◌, inl, inr, arith, slice_get}
use Rattle.std.specs.Option.{option_map_or}
use Rattle.std.proofs.lemmas.Bool.{cases_eq}
use Rattle.std.proofs.lemmas.Option.{slice_get_within}
use Rattle.drm_lists.proofs.Places.{at_index}
use Rattle.drm_ring.specs.RingRows.{RingRow, pending_at, passed_at, ring_row_changed, HasPassed, PassesTo}

-- nothing was passed over so far
pub passed_none : (Answers : ℕ → Bool → Type 0) (xs : List ℕ) (from : ℕ) → from ≤ length xs → HasPassed Answers xs from from
passed_none Answers xs from within = record {
  forth = omega arith;
  within = within;
  done = λ k f behind before at. absurd (omega (arith, behind, before));
}

-- one more was answered false
pub passed_more : (Answers : ℕ → Bool → Type 0) (xs : List ℕ) (from to x : ℕ) (b : Bool) → HasPassed Answers xs from to → slice_get xs to ≡ Some x → Answers x b → b ≡ false
    → HasPassed Answers xs from (to + 1)
passed_more Answers xs from to x b so_far at answer is =
    let inside = slice_get_within xs to x at in
    record {
      forth = let forth = so_far.forth in omega (arith, forth);
      within = omega (arith, inside);
      done = λ k f behind before at_k.
          elim (cases_eq k to) [
            | inl same ↦ let one : x ≡ f = cc (at, at_k, same) in subst (λ z. Answers z false) one (subst (Answers x) is answer)
            | inr apart ↦ so_far.done k f behind (omega (arith, before, apart)) at_k
          ];
    }

-- the next one was answered true
pub passes_before : (Answers : ℕ → Bool → Type 0) (xs : List ℕ) (from to x : ℕ) (b : Bool) → HasPassed Answers xs from to → slice_get xs to ≡ Some x → Answers x b → b ≡ true
    → PassesTo Answers xs from to
passes_before Answers xs from to x b passed at answer is = record {
  passed = passed;
  next = λ f at_f. let one : x ≡ f = cc (at, at_f) in subst (λ z. Answers z true) one (subst (Answers x) is answer);
}

-- there is no next one
pub passes_all : (Answers : ℕ → Bool → Type 0) (xs : List ℕ) (from to : ℕ) → HasPassed Answers xs from to → length xs ≤ to → PassesTo Answers xs from to
passes_all Answers xs from to passed past = record {
  passed = passed;
  next = λ f at. let inside = slice_get_within xs to f at in absurd (omega (arith, inside, past));
}

-- what one list passed over, its ring did among all rings
pub rings_pass : (Answers : ℕ → Bool → Type 0) (lists rings : List RingRow) (ring : ℕ) (row new : RingRow) → lists ≡ rings → ring < length rings → row ≡ get_or lists ring row
    → PassesTo Answers row.state.pending row.passed new.passed → new ≡ record row { passed = new.passed }
    → (to : ℕ) × PassesTo Answers (pending_at rings ring) (passed_at rings ring) to × (set lists ring new ≡ ring_row_changed rings ring (λ r. record r { passed = to }))
rings_pass Answers lists rings ring row new view there value passes rest =
    let here : ring < length lists = subst (λ (rs : List RingRow). ring < length rs) (sym view) there in
    let at : slice_get rings ring ≡ Some row = ap (λ rs. slice_get rs ring) (sym view) ∙ at_index lists ring row value here in (
      new.passed,
      subst (λ o. PassesTo Answers (option_map_or (λ (r : RingRow). r.state.pending) o []) (option_map_or (λ (r : RingRow). r.passed) o 0) new.passed) (sym at) passes,
      ap (λ rs. set rs ring new) view ∙ (ap (set rings ring) rest
          ∙ sym (ap (λ o. option_map_or (λ (r : RingRow). let passed : RingRow = record r { passed = new.passed } in set rings ring passed) o rings) at)),
    )
