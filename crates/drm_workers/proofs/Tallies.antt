-- Records are counted by their rings.
use Rattle.std.proofs.Common.{◌≡◌, ◌≢◌, ◌<◌, ◌≤◌, ◌+◌, ◌==◌, ℕ, Bool, List, [], ◌∷◌, arith, suc, zero, refl, sym, ap, ◌∙◌, subst, length, drop, set, Some, slice_get, inl, inr, eq-eqb, ne_eqb}
use Rattle.std.specs.Prelude.{if◌then◌else◌}
use Rattle.std.specs.List.{filter}
use Rattle.std.proofs.lemmas.Bool.{cases_eq}
use Rattle.std.proofs.lemmas.Option.{slice_get_within, slice_get-get_or}
use Rattle.drm_lists.proofs.Changed.{get_set_same, get_set_other}
use Rattle.drm_state.specs.declared.journal.JobRecord.{JobRecord}
use Rattle.drm_workers.specs.Reports.{records_of, AreCounts}

-- what is counted, with what is left to count, is what there is
abbrev pub Tally : List JobRecord → ℕ → List ℕ → Type 0
Tally records place counts =
    (ring k : ℕ) → slice_get counts ring ≡ Some k → k + records_of ring (drop place records) ≡ records_of ring records

split_at : (rs : List JobRecord) (i : ℕ) (r : JobRecord) → slice_get rs i ≡ Some r → drop i rs ≡ r ∷ drop (suc i) rs
split_at [] i r at = absurd (cc (at))
split_at (x ∷ rs) zero r at = let is : x ≡ r = cc (at) in ap (λ z. z ∷ rs) is
split_at (x ∷ rs) (suc i) r at = split_at rs i r at

next_left : (rs : List JobRecord) (i : ℕ) (r : JobRecord) → slice_get rs i ≡ Some r → drop i rs ≡ r ∷ drop (i + 1) rs
next_left rs i r at = let next : suc i ≡ i + 1 = omega arith in split_at rs i r at ∙ ap (λ k. r ∷ drop k rs) next

of_ring : (r : JobRecord) (rs : List JobRecord) (ring : ℕ) → r.ring ≡ ring → records_of ring (r ∷ rs) ≡ records_of ring rs + 1
of_ring r rs ring e =
    let one : records_of ring (r ∷ rs) ≡ suc (records_of ring rs) =
    ap (λ (b : Bool). length (if b then r ∷ filter (λ x. x.ring == ring) rs else filter (λ x. x.ring == ring) rs)) (eq-eqb r.ring ring e) in
    omega (arith, one)

not_of_ring : (r : JobRecord) (rs : List JobRecord) (ring : ℕ) → r.ring ≢ ring → records_of ring (r ∷ rs) ≡ records_of ring rs
not_of_ring r rs ring e = ap (λ (b : Bool). length (if b then r ∷ filter (λ x. x.ring == ring) rs else filter (λ x. x.ring == ring) rs)) (ne_eqb r.ring ring e)

no_more : (ring : ℕ) (rs : List JobRecord) → records_of ring rs ≤ length rs
no_more ring [] = omega arith
no_more ring (r ∷ rs) = elim (cases_eq r.ring ring) [
  | inl e ↦ omega (arith, of_ring r rs ring e, no_more ring rs)
  | inr ne ↦ omega (arith, not_of_ring r rs ring ne, no_more ring rs)
]

-- a record of a ring that is counted
pub counted : (rs : List JobRecord) (i : ℕ) (r : JobRecord) (counts new : List ℕ) (c : ℕ) → slice_get rs i ≡ Some r → slice_get counts r.ring ≡ Some c
    → new ≡ set counts r.ring (c + 1) → Tally rs i counts → Tally rs (i + 1) new
counted rs i r counts new c at here is tally = subst (Tally rs (i + 1)) (sym is) (λ ring k get. elim (cases_eq r.ring ring) [
  | inl e ↦
      let got : slice_get (set counts r.ring (c + 1)) r.ring ≡ Some k = ap (slice_get (set counts r.ring (c + 1))) e ∙ get in
      let more : c + 1 ≡ k = cc (get_set_same counts r.ring c (c + 1) here, got) in
      omega (arith, more, tally ring c (ap (slice_get counts) (sym e) ∙ here), ap (records_of ring) (next_left rs i r at), of_ring r (drop (i + 1) rs) ring e)
  | inr ne ↦
      let old : slice_get counts ring ≡ Some k = sym (get_set_other counts r.ring ring (c + 1) (λ e. ne (sym e))) ∙ get in
      omega (arith, tally ring k old, ap (records_of ring) (next_left rs i r at), not_of_ring r (drop (i + 1) rs) ring ne)
])

-- a record of a ring that is not
pub passed_over : (rs : List JobRecord) (i : ℕ) (r : JobRecord) (counts : List ℕ) → slice_get rs i ≡ Some r → length counts ≤ r.ring
    → Tally rs i counts → Tally rs (i + 1) counts
passed_over rs i r counts at beyond tally ring k get =
    let within : ring < length counts = slice_get_within counts ring k get in
    omega (arith, tally ring k get, ap (records_of ring) (next_left rs i r at), not_of_ring r (drop (i + 1) rs) ring (λ e. omega (arith, e, within, beyond)))

-- a count that is yet to rise is below the number of records
pub has_room : (rs : List JobRecord) (i : ℕ) (r : JobRecord) (counts : List ℕ) (c : ℕ) → slice_get rs i ≡ Some r → slice_get counts r.ring ≡ Some c → Tally rs i counts
    → c + 1 ≤ length rs
has_room rs i r counts c at here tally =
    omega (arith, tally r.ring c here, ap (records_of r.ring) (next_left rs i r at), of_ring r (drop (i + 1) rs) r.ring refl, no_more r.ring rs)

none_left : (rs : List JobRecord) (i : ℕ) → length rs ≤ i → drop i rs ≡ []
none_left [] zero past = refl
none_left [] (suc i) past = refl
none_left (r ∷ rs) zero past = absurd (omega (arith, past))
none_left (r ∷ rs) (suc i) past = none_left rs i (omega (arith, past))

-- what is told of each ring is the number of its records, where it is what was counted
pub told_right : (rs seen : List JobRecord) (items told counts : List ℕ) (rings n : ℕ) → seen ≡ rs → told ≡ items → n ≡ rings
    → ((ring k : ℕ) → slice_get counts ring ≡ Some k → k ≡ records_of ring seen)
    → (length told ≡ n) × ((ring k : ℕ) → slice_get told ring ≡ Some k → slice_get counts ring ≡ Some k) → AreCounts rings rs items
told_right rs seen items told counts rings n all is count counted same = (
  omega (arith, ap length is, count, same.0),
  λ ring k at. counted ring k (same.1 ring k (ap (λ l. slice_get l ring) is ∙ at)) ∙ ap (records_of ring) all,
)

-- and the other way round
pub as_told : (rs seen : List JobRecord) (items told counts : List ℕ) (rings n : ℕ) → seen ≡ rs → told ≡ items → n ≡ rings → rings ≤ length counts
    → ((ring k : ℕ) → slice_get counts ring ≡ Some k → k ≡ records_of ring seen) → AreCounts rings rs items
    → (length told ≡ n) × ((ring k : ℕ) → slice_get told ring ≡ Some k → slice_get counts ring ≡ Some k)
as_told rs seen items told counts rings n all is count wide counted are = (
  omega (arith, ap length is, count, are.0),
  λ ring k at.
      let here : slice_get items ring ≡ Some k = ap (λ l. slice_get l ring) (sym is) ∙ at in
      let within : ring < length items = slice_get_within items ring k here in
      let there = slice_get-get_or counts ring 0 (omega (arith, within, are.0, wide)) in
      there ∙ ap Some (counted ring _ there ∙ (ap (records_of ring) all ∙ sym (are.1 ring k here))),
)
