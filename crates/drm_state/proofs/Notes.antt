-- Noting fences: what was noted stays, or a later fence of its entity stands in its place.
use Rattle.std.proofs.Common.{◌≡◌, ℕ, zero, suc, ◌≤◌, true, false, ◌==◌, cond, max, List, [], ◌∷◌, Some, refl, sym, ap, subst, inl, inr, ◌⊎◌, arith, slice_get}
use Rattle.std.specs.Prelude.{Contains, All, fold, nat_le}
use Rattle.std.proofs.lemmas.Bool.{eqb-true, cases_Bool, leb-true, leb-false}
use Rattle.std.proofs.lemmas.List.Elements.{All-cons, All-head, All-tail}
use Rattle.drm_lists.proofs.Places.{contains_at, place_of}
use Rattle.drm_resv.specs.Latest.{noted}

-- a fence of the entity, no earlier
abbrev pub Reaches : List (ℕ × ℕ) → ℕ → ℕ → Type 0
Reaches deps entity fence = (g : ℕ) × Contains deps (entity, g) × (fence ≤ g)

-- what stands first, and what stands behind
first_in : {X : Type 0} (x : X) (xs : List X) → Contains (x ∷ xs) x
first_in x xs = contains_at (x ∷ xs) 0 x refl

behind : {X : Type 0} (y : X) (xs : List X) (x : X) → Contains xs x → Contains (y ∷ xs) x
behind y xs x c = let p = place_of xs x c in contains_at (y ∷ xs) (suc p.0) x p.1

in_list : {X : Type 0} (y : X) (xs : List X) (x : X) → Contains (y ∷ xs) x → (x ≡ y) ⊎ Contains xs x
in_list {X} y xs x c = let p = place_of (y ∷ xs) x c in by_place p.0 p.1
  where
    by_place : (k : ℕ) → slice_get (y ∷ xs) k ≡ Some x → (x ≡ y) ⊎ Contains xs x
    by_place zero at = inl (let same : y ≡ x = cc (at) in sym same)
    by_place (suc k) at = inr (contains_at xs k x at)

-- a list that has nothing
in_nothing : (x : ℕ × ℕ) → Contains [] x → ⊥
in_nothing x c = let p = place_of [] x c in cc (p.1)

-- the fence that was noted is reached
pub noted_reaches : (list : List (ℕ × ℕ)) (entity fence : ℕ) → Reaches (noted list entity fence) entity fence
noted_reaches [] entity fence = (fence, first_in (entity, fence) [], omega arith)
noted_reaches (d ∷ rest) entity fence =
    elim (d.0 == entity) as (λ t. (d.0 == entity) ≡ t → Reaches (cond t ((d.0, max d.1 fence) ∷ rest) (d ∷ noted rest entity fence)) entity fence) [
      | true ↦ λ is.
          (max d.1 fence, subst (λ e. Contains ((d.0, max d.1 fence) ∷ rest) (e, max d.1 fence)) (eqb-true d.0 entity is) (first_in (d.0, max d.1 fence) rest), omega arith)
      | false ↦ λ is. let r = noted_reaches rest entity fence in (r.0, behind d (noted rest entity fence) (entity, r.0) r.1, r.2)
    ] refl

-- what was reached stays so
pub noted_keeps : (list : List (ℕ × ℕ)) (entity fence other f : ℕ) → Reaches list other f → Reaches (noted list entity fence) other f
noted_keeps [] entity fence other f r = absurd (in_nothing (other, r.0) r.1)
noted_keeps (d ∷ rest) entity fence other f r =
    elim (in_list d rest (other, r.0) r.1) [
      | inl first ↦
          elim (d.0 == entity) as (λ t. Reaches (cond t ((d.0, max d.1 fence) ∷ rest) (d ∷ noted rest entity fence)) other f) [
            | true ↦ (
              max d.1 fence,
              subst (λ e. Contains ((d.0, max d.1 fence) ∷ rest) (e, max d.1 fence)) (sym (ap (λ (x : ℕ × ℕ). x.0) first)) (first_in (d.0, max d.1 fence) rest),
              later r.0 d.1 fence f (ap (λ (x : ℕ × ℕ). x.1) first) r.2,
            )
            | false ↦ (r.0, subst (λ e. Contains (d ∷ noted rest entity fence) e) (sym first) (first_in d (noted rest entity fence)), r.2)
          ]
      | inr inside ↦
          elim (d.0 == entity) as (λ t. Reaches (cond t ((d.0, max d.1 fence) ∷ rest) (d ∷ noted rest entity fence)) other f) [
            | true ↦ (r.0, behind (d.0, max d.1 fence) rest (other, r.0) inside, r.2)
            | false ↦
                let k = noted_keeps rest entity fence other f (r.0, inside, r.2) in (k.0, behind d (noted rest entity fence) (other, k.0) k.1, k.2)
          ]
    ]
  where
    later : (g d fence f : ℕ) → g ≡ d → f ≤ g → f ≤ max d fence
    later g d fence f same le = omega (arith, same, le)

-- what holds of all and of the new one holds of all after
pub noted_all : (P : ℕ × ℕ → Type 0) (list : List (ℕ × ℕ)) (entity fence : ℕ) → All P list → P (entity, fence) → All P (noted list entity fence)
noted_all P [] entity fence all new = All-cons P (entity, fence) [] new all
noted_all P (d ∷ rest) entity fence all new =
    elim (d.0 == entity) as (λ t. (d.0 == entity) ≡ t → All P (cond t ((d.0, max d.1 fence) ∷ rest) (d ∷ noted rest entity fence))) [
      | true ↦ λ is. All-cons P (d.0, max d.1 fence) rest (either_one (eqb-true d.0 entity is)) (All-tail P d rest all)
      | false ↦ λ is. All-cons P d (noted rest entity fence) (All-head P d rest all) (noted_all P rest entity fence (All-tail P d rest all) new)
    ] refl
  where
    larger : (a b : ℕ) → (max a b ≡ a) ⊎ (max a b ≡ b)
    larger a b =
        elim (cases_Bool (nat_le a b)) [
          | inl le ↦ let lt = leb-true a b le in inr (omega (arith, lt))
          | inr gt ↦ let lt = leb-false a b gt in inl (omega (arith, lt))
        ]

    either_one : d.0 ≡ entity → P (d.0, max d.1 fence)
    either_one same =
        elim (larger d.1 fence) [
          | inl old ↦ subst (λ n. P (d.0, n)) (sym old) (All-head P d rest all)
          | inr it ↦ subst (λ n. P (d.0, n)) (sym it) (subst (λ e. P (e, fence)) (sym same) new)
        ]

-- a list of things that each name an entity and a fence, noted one after another
abbrev pub noted_each : {X : Type 0} → (X → ℕ) → (X → ℕ) → List (ℕ × ℕ) → List X → List (ℕ × ℕ)
noted_each entity fence list xs = fold (λ d x. noted d (entity x) (fence x)) list xs

pub each_keeps : {X : Type 0} (entity fence : X → ℕ) (list : List (ℕ × ℕ)) (xs : List X) (other f : ℕ) → Reaches list other f → Reaches (noted_each entity fence list xs) other f
each_keeps entity fence list [] other f r = r
each_keeps entity fence list (x ∷ xs) other f r = each_keeps entity fence (noted list (entity x) (fence x)) xs other f (noted_keeps list (entity x) (fence x) other f r)

pub each_reaches : {X : Type 0} (entity fence : X → ℕ) (list : List (ℕ × ℕ)) (xs : List X) (k : ℕ) (x : X) → slice_get xs k ≡ Some x
    → Reaches (noted_each entity fence list xs) (entity x) (fence x)
each_reaches entity fence list [] k x at = absurd (cc (at))
each_reaches entity fence list (y ∷ xs) zero x at =
    let same : y ≡ x = cc (at) in
    subst (λ z. Reaches (noted_each entity fence list (y ∷ xs)) (entity z) (fence z)) same
    (each_keeps entity fence (noted list (entity y) (fence y)) xs (entity y) (fence y) (noted_reaches list (entity y) (fence y)))
each_reaches entity fence list (y ∷ xs) (suc k) x at = each_reaches entity fence (noted list (entity y) (fence y)) xs k x at

pub each_all : {X : Type 0} (P : ℕ × ℕ → Type 0) (entity fence : X → ℕ) (list : List (ℕ × ℕ)) (xs : List X) → All P list
    → ((k : ℕ) (x : X) → slice_get xs k ≡ Some x → P (entity x, fence x)) → All P (noted_each entity fence list xs)
each_all P entity fence list [] all each = all
each_all P entity fence list (x ∷ xs) all each =
    each_all P entity fence (noted list (entity x) (fence x)) xs (noted_all P list (entity x) (fence x) all (each 0 x refl)) (λ k y at. each (suc k) y at)
