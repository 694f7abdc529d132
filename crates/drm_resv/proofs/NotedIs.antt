-- Noting a fence, by places.
use Rattle.std.proofs.Common.{◌≡◌, ℕ, zero, suc, ◌<◌, true, false, ◌||◌, cond, eqb, max, take, drop, length-set, get_or, List, [], ◌∷◌, ◌++◌, map, set, length, Some, refl, sym, ap, ◌∙◌, subst, ◌≤◌, arith, slice_get}
use Rattle.std.specs.List.{IsDistinct, AllByRecursion, list_any}
use Rattle.std.proofs.lemmas.Option.{slice_get-get_or}
use Rattle.std.proofs.lemmas.Bool.{eqb-true, eqb-false}
use Rattle.std.proofs.lemmas.List.Elements.{All-from_recursion, recursion_from_All}
use Rattle.std.proofs.lemmas.Map.Steps.{length-le_from_distinct_below}
use Rattle.drm_resv.specs.Latest.{noted, IsPerEntity}

-- where the entity has a fence
pub noted_at : (xs : List (ℕ × ℕ)) (k : ℕ) (d : ℕ × ℕ) (entity fence : ℕ) → slice_get xs k ≡ Some d → eqb d.0 entity ≡ true
    → ((i : ℕ) (y : ℕ × ℕ) → i < k → slice_get xs i ≡ Some y → eqb y.0 entity ≡ false) → noted xs entity fence ≡ set xs k (d.0, max d.1 fence)
noted_at [] k d entity fence at is before = absurd (cc (at))
noted_at (x ∷ xs) zero d entity fence at is before =
    let same : x ≡ d = cc (at) in
    let here : eqb x.0 entity ≡ true = ap (λ (z : ℕ × ℕ). eqb z.0 entity) same ∙ is in
    ap (λ t. cond t ((x.0, max x.1 fence) ∷ xs) (x ∷ noted xs entity fence)) here ∙ ap (λ (z : ℕ × ℕ). (z.0, max z.1 fence) ∷ xs) same
noted_at (x ∷ xs) (suc k) d entity fence at is before =
    let passed : eqb x.0 entity ≡ false = before 0 x (omega arith) refl in
    ap (λ t. cond t ((x.0, max x.1 fence) ∷ xs) (x ∷ noted xs entity fence)) passed
    ∙ ap (λ r. x ∷ r) (noted_at xs k d entity fence at is (λ i y lt. before (suc i) y (omega (arith, lt))))

-- where it has none
pub noted_new : (xs : List (ℕ × ℕ)) (entity fence : ℕ) → ((i : ℕ) (y : ℕ × ℕ) → i < length xs → slice_get xs i ≡ Some y → eqb y.0 entity ≡ false)
    → noted xs entity fence ≡ xs ++ (entity, fence) ∷ []
noted_new [] entity fence before = refl
noted_new (x ∷ xs) entity fence before =
    let passed : eqb x.0 entity ≡ false = before 0 x (omega arith) refl in
    ap (λ t. cond t ((x.0, max x.1 fence) ∷ xs) (x ∷ noted xs entity fence)) passed
    ∙ ap (λ r. x ∷ r) (noted_new xs entity fence (λ i y lt. before (suc i) y (omega (arith, lt))))

-- no entity of the list is the one that is noted first
keys_apart : (xs : List (ℕ × ℕ)) (key entity fence : ℕ) → eqb key entity ≡ false → AllByRecursion (λ y. eqb key y ≡ false) (map (λ (d : ℕ × ℕ). d.0) xs)
    → AllByRecursion (λ y. eqb key y ≡ false) (map (λ (d : ℕ × ℕ). d.0) (noted xs entity fence))
keys_apart [] key entity fence apart all = (apart, tt)
keys_apart (x ∷ xs) key entity fence apart all =
    elim (eqb x.0 entity) as (λ t. AllByRecursion (λ y. eqb key y ≡ false) (map (λ (d : ℕ × ℕ). d.0) (cond t ((x.0, max x.1 fence) ∷ xs) (x ∷ noted xs entity fence)))) [
      | true ↦ all
      | false ↦ (all.0, keys_apart xs key entity fence apart all.1)
    ]

pub distinct_noted : (xs : List (ℕ × ℕ)) (entity fence : ℕ) → IsDistinct eqb (map (λ (d : ℕ × ℕ). d.0) xs)
    → IsDistinct eqb (map (λ (d : ℕ × ℕ). d.0) (noted xs entity fence))
unfolding IsDistinct
distinct_noted [] entity fence once = (tt, tt)
distinct_noted (x ∷ xs) entity fence once =
    elim (eqb x.0 entity) as (λ t. eqb x.0 entity ≡ t → IsDistinct eqb (map (λ (d : ℕ × ℕ). d.0) (cond t ((x.0, max x.1 fence) ∷ xs) (x ∷ noted xs entity fence)))) [
      | true ↦ λ is. once
      | false ↦ λ is. (keys_apart xs x.0 entity fence is once.0, distinct_noted xs entity fence once.1)
    ] refl

pub per_entity_none : IsPerEntity []
unfolding IsDistinct
per_entity_none = record { once = tt; within = All-from_recursion (λ (d : ℕ × ℕ). d.0 < 64) [] tt }

below_noted : (xs : List (ℕ × ℕ)) (entity fence : ℕ) → entity < 64 → AllByRecursion (λ (d : ℕ × ℕ). d.0 < 64) xs
    → AllByRecursion (λ (d : ℕ × ℕ). d.0 < 64) (noted xs entity fence)
below_noted [] entity fence lt all = (lt, tt)
below_noted (x ∷ xs) entity fence lt all =
    elim (eqb x.0 entity) as (λ t. AllByRecursion (λ (d : ℕ × ℕ). d.0 < 64) (cond t ((x.0, max x.1 fence) ∷ xs) (x ∷ noted xs entity fence))) [
      | true ↦ all
      | false ↦ (all.0, below_noted xs entity fence lt all.1)
    ]

pub per_entity_noted : (xs : List (ℕ × ℕ)) (entity fence : ℕ) → entity < 64 → IsPerEntity xs → IsPerEntity (noted xs entity fence)
per_entity_noted xs entity fence lt is = record {
  once = distinct_noted xs entity fence is.once;
  within = All-from_recursion (λ (d : ℕ × ℕ). d.0 < 64) (noted xs entity fence) (below_noted xs entity fence lt (recursion_from_All (λ (d : ℕ × ℕ). d.0 < 64) xs is.within));
}

eqb_turned : (a b : ℕ) → eqb a b ≡ false → eqb b a ≡ false
eqb_turned a b apart =
    elim (eqb b a) as (λ t. eqb b a ≡ t → t ≡ false) [
      | true ↦ λ is. absurd (eqb-false a b apart (sym (eqb-true b a is)))
      | false ↦ λ is. refl
    ] refl

apart_before : (xs : List (ℕ × ℕ)) (entity : ℕ) → ((i : ℕ) (y : ℕ × ℕ) → i < length xs → slice_get xs i ≡ Some y → eqb y.0 entity ≡ false)
    → AllByRecursion (λ y. eqb entity y ≡ false) (map (λ (d : ℕ × ℕ). d.0) xs)
apart_before [] entity before = tt
apart_before (x ∷ xs) entity before =
    (eqb_turned x.0 entity (before 0 x (omega arith) refl), apart_before xs entity (λ i y lt. before (suc i) y (omega (arith, lt))))

length_keys : (xs : List (ℕ × ℕ)) → length (map (λ (d : ℕ × ℕ). d.0) xs) ≡ length xs
length_keys [] = refl
length_keys (x ∷ xs) = ap suc (length_keys xs)

keys_below : (xs : List (ℕ × ℕ)) → AllByRecursion (λ (d : ℕ × ℕ). d.0 < 64) xs → (q : ℕ) → list_any (eqb q) (map (λ (d : ℕ × ℕ). d.0) xs) ≡ true → q < 64
keys_below [] all q is = let never : false ≡ true = is in absurd (cc (never))
keys_below (x ∷ xs) all q is =
    elim (eqb q x.0) as (λ t. eqb q x.0 ≡ t → (t || list_any (eqb q) (map (λ (d : ℕ × ℕ). d.0) xs)) ≡ true → q < 64) [
      | true ↦ λ here any. omega (arith, eqb-true q x.0 here, all.0)
      | false ↦ λ here any. keys_below xs all.1 q any
    ] refl is

pub place_left : (xs : List (ℕ × ℕ)) (entity : ℕ) → entity < 64 → IsPerEntity xs
    → ((i : ℕ) (y : ℕ × ℕ) → i < length xs → slice_get xs i ≡ Some y → eqb y.0 entity ≡ false) → length xs < 64
unfolding IsDistinct
place_left xs entity lt is before =
    let with_it : IsDistinct eqb (entity ∷ map (λ (d : ℕ × ℕ). d.0) xs) = (apart_before xs entity before, is.once) in
    let below : (q : ℕ) → list_any (eqb q) (map (λ (d : ℕ × ℕ). d.0) ((entity, 0) ∷ xs)) ≡ true → q < 64 =
    keys_below ((entity, 0) ∷ xs) (lt, recursion_from_All (λ (d : ℕ × ℕ). d.0 < 64) xs is.within) in
    let most = length-le_from_distinct_below (entity ∷ map (λ (d : ℕ × ℕ). d.0) xs) 64 with_it below in omega (arith, most, length_keys xs)

-- a list that is filled up by one as long is that one
pub refill_all : {X : Type 0} (ws ys : List X) → take (length ws) (ws ++ ys) ≡ ws
refill_all [] ys = refl
refill_all (w ∷ ws) ys = ap (λ r. w ∷ r) (refill_all ws ys)

pub refill_set : {X : Type 0} (xs ws : List X) → ws ≡ xs → (k : ℕ) (x : X) → take (length xs) (set ws k x ++ drop (length (set ws k x)) xs) ≡ set xs k x
refill_set {X} xs ws same k x =
    ap (λ (v : List X). take (length xs) (set v k x ++ drop (length (set v k x)) xs)) same
    ∙ ap (λ n. take n (set xs k x ++ drop (length (set xs k x)) xs)) (sym (length-set xs k x)) ∙ refill_all (set xs k x) (drop (length (set xs k x)) xs)

-- what the code writes where the entity has a fence
pub noted_by_set : (items seen ws now : List (ℕ × ℕ)) (place entity fence m : ℕ) → seen ≡ items → ws ≡ items → items ≡ now
    → m ≡ max (get_or ws place (0, 0)).1 fence → place < length items
    → ((k : ℕ) (d : ℕ × ℕ) → k < place → slice_get seen k ≡ Some d → eqb d.0 entity ≡ false)
    → ((d : ℕ × ℕ) → slice_get seen place ≡ Some d → eqb d.0 entity ≡ true)
    → take (length items) (set ws place ((get_or ws place (0, 0)).0, m) ++ drop (length (set ws place ((get_or ws place (0, 0)).0, m))) items)
    ≡ noted now entity fence
noted_by_set items seen ws now place entity fence m seen_is ws_is view m_is lt before here =
    let d : ℕ × ℕ = get_or items place (0, 0) in
    let at : slice_get items place ≡ Some (get_or items place (0, 0)) = slice_get-get_or items place (0, 0) lt in
    let Before : List (ℕ × ℕ) → Type 0 = λ l. (k : ℕ) (d : ℕ × ℕ) → k < place → slice_get l k ≡ Some d → eqb d.0 entity ≡ false in
    let Here : List (ℕ × ℕ) → Type 0 = λ l. (d : ℕ × ℕ) → slice_get l place ≡ Some d → eqb d.0 entity ≡ true in
    let is = noted_at items place (get_or items place (0, 0)) entity fence at (subst Here seen_is here (get_or items place (0, 0)) at) (subst Before seen_is before) in
    refill_set items ws ws_is place ((get_or ws place (0, 0)).0, m)
    ∙ ap (λ n. set items place ((get_or ws place (0, 0)).0, n)) m_is
    ∙ ap (λ (l : List (ℕ × ℕ)). set items place ((get_or l place (0, 0)).0, max (get_or l place (0, 0)).1 fence)) ws_is
    ∙ sym is ∙ ap (λ (l : List (ℕ × ℕ)). noted l entity fence) view

-- and where it has none
pub before_all : (items seen : List (ℕ × ℕ)) (place entity : ℕ) → seen ≡ items → length items ≤ place
    → ((k : ℕ) (d : ℕ × ℕ) → k < place → slice_get seen k ≡ Some d → eqb d.0 entity ≡ false)
    → (k : ℕ) (d : ℕ × ℕ) → k < length items → slice_get items k ≡ Some d → eqb d.0 entity ≡ false
before_all items seen place entity seen_is past before k d lt at =
    before k d (omega (arith, lt, past)) (subst (λ (l : List (ℕ × ℕ)). slice_get l k ≡ Some d) (sym seen_is) at)
