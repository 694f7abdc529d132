-- Lists that stand one behind another, as one more comes.
use Rattle.std.proofs.Common.{◌≡◌, ℕ, zero, suc, ◌+◌, ◌*◌, ◌-◌, ◌^◌, ◌<◌, ◌≤◌, List, [], ◌∷◌, ◌++◌, Some, length, take, drop, slice_range, slice_get, get_or, arith, sym, ap, ap₂, subst, ◌∙◌, refl, length-append, length-drop, length-take, drop_at, take_all}
use Rattle.std.proofs.lemmas.List.{drop-append-le, take-append-le}
use Rattle.drm_resv.specs.Latest.{IsPerEntity}
use Rattle.drm_resv.specs.Stored.{AreEnds, HasRoom, IsListed, ListsWithPlaces, lists_from}

-- the list of a job lies between the end of the one before and its own
listed_at : (xs : List (ℕ × ℕ)) (from : ℕ) (ends : List ℕ) (k d : ℕ) → k < length ends → AreEnds xs from ends
    → IsListed xs (get_or (from ∷ ends) k 0) (get_or ends k d)
listed_at xs from [] k d lt are = absurd (omega (arith, lt))
listed_at xs from (to ∷ ends) zero d lt are = are.0
listed_at xs from (to ∷ ends) (suc k) d lt are = listed_at xs to ends k d (omega (arith, lt)) are.1

list_at : (xs : List (ℕ × ℕ)) (from : ℕ) (ends : List ℕ) (k d : ℕ) → k < length ends
    → slice_get (lists_from xs from ends) k ≡ Some (slice_range xs (get_or (from ∷ ends) k 0) (get_or ends k d))
list_at xs from [] k d lt = absurd (omega (arith, lt))
list_at xs from (to ∷ ends) zero d lt = refl
list_at xs from (to ∷ ends) (suc k) d lt = list_at xs to ends k d (omega (arith, lt))

pub listed_few : (xs : List (ℕ × ℕ)) (from to : ℕ) → IsListed xs from to → length (slice_range xs from to) ≤ 64
listed_few xs from to is = omega (arith, is.few, length-take (to - from) (drop from xs))

-- there are as many lists as ends
pub length-lists_from : (xs : List (ℕ × ℕ)) (from : ℕ) (ends : List ℕ) → length (lists_from xs from ends) ≡ length ends
length-lists_from xs from [] = refl
length-lists_from xs from (to ∷ ends) = ap suc (length-lists_from xs to ends)

pub job_within : (xs : List (ℕ × ℕ)) (ends : List ℕ) (places : ℕ) (now : ListsWithPlaces) (job : ℕ)
    → ◌≡◌ {A = ListsWithPlaces} (record { lists = lists_from xs 0 ends; places = places }) now → job < length now.lists → job < length ends
job_within xs ends places now job view lt =
    omega (arith, lt, ap (λ (v : ListsWithPlaces). length v.lists) view, length-lists_from xs 0 ends)

-- what the code reads of a job's list
pub of_job : (xs ys : List (ℕ × ℕ)) (ends read : List ℕ) (places : ℕ) (now : ListsWithPlaces) (job from to : ℕ) → AreEnds xs 0 ends
    → ◌≡◌ {A = ListsWithPlaces} (record { lists = lists_from xs 0 ends; places = places }) now → job < length now.lists
    → ys ≡ xs → read ≡ ends → from ≡ get_or (0 ∷ read) job 0 → to ≡ get_or ends job to
    → IsListed ys from to × (slice_get now.lists job ≡ Some (slice_range ys from to))
of_job xs ys ends read places now job from to are view lt ys_are read_is from_is to_is =
    let within = job_within xs ends places now job view lt in
    let begins : get_or (0 ∷ ends) job 0 ≡ from = sym (from_is ∙ ap (λ (es : List ℕ). get_or (0 ∷ es) job 0) read_is) in (
      subst (λ zs. IsListed zs from to) (sym ys_are) (subst (λ t. IsListed xs from t) (sym to_is) (subst (λ f. IsListed xs f (get_or ends job to)) begins (listed_at xs 0 ends job to within are))),
      ap (λ (v : ListsWithPlaces). slice_get v.lists job) (sym view) ∙ list_at xs 0 ends job to within
          ∙ ap₂ (λ f t. Some (slice_range xs f t)) begins (sym to_is) ∙ ap (λ zs. Some (slice_range zs from to)) (sym ys_are),
    )

-- so many lists have at most 64 fences each
pub few_fences : (xs : List (ℕ × ℕ)) (from : ℕ) (ends : List ℕ) → AreEnds xs from ends → length xs ≤ from + 64 * length ends
few_fences xs from [] are = omega (arith, are)
few_fences xs from (to ∷ ends) are = omega (arith, are.0.few, few_fences xs to ends are.1)

-- where a list has room for one more, so have its fences, and their end is a `u32`
pub fits_one_more : (xs more : List (ℕ × ℕ)) (ends : List ℕ) (places room : ℕ) (now : ListsWithPlaces) → AreEnds xs 0 ends → HasRoom places room
    → ◌≡◌ {A = ListsWithPlaces} (record { lists = lists_from xs 0 ends; places = places }) now → length now.lists < now.places → length more ≤ 64
    → (length ends < places) × (length xs + length more ≤ room) × (length (xs ++ more) < 2 ^ 32)
fits_one_more xs more ends places room now are has view lt few =
    let left : length ends < places =
    omega (arith, lt, ap (λ (v : ListsWithPlaces). length v.lists) view, ap (λ (v : ListsWithPlaces). v.places) view, length-lists_from xs 0 ends) in
    let most = few_fences xs 0 ends are in (
      left,
      omega (arith, most, has.room, left, few),
      omega (arith, most, has.counted, left, few, length-append xs more),
    )

-- what stands in a list stays as it grows
range_stays : (xs more : List (ℕ × ℕ)) (from to : ℕ) → from ≤ to → to ≤ length xs → slice_range (xs ++ more) from to ≡ slice_range xs from to
range_stays xs more from to low top =
    ap (take (to - from)) (drop-append-le from xs more (omega arith))
    ∙ take-append-le (to - from) (drop from xs) more (omega (arith, length-drop from xs))

-- behind all that is there stands what was put there
range_new : (xs more : List (ℕ × ℕ)) (from : ℕ) → from ≡ length xs → slice_range (xs ++ more) from (length (xs ++ more)) ≡ more
range_new xs more from at =
    ap (take (length (xs ++ more) - from)) (drop_at xs more from (sym at))
    ∙ take_all (length (xs ++ more) - from) more (omega (arith, at, length-append xs more))

listed_stays : (xs more : List (ℕ × ℕ)) (from to : ℕ) → IsListed xs from to → IsListed (xs ++ more) from to
listed_stays xs more from to is = record {
  ordered = is.ordered;
  within = omega (arith, is.within, length-append xs more);
  few = is.few;
  once = subst IsPerEntity (sym (range_stays xs more from to is.ordered is.within)) is.once;
}

listed_new : (xs more : List (ℕ × ℕ)) (from : ℕ) → from ≡ length xs → IsPerEntity more → length more ≤ 64 → IsListed (xs ++ more) from (length (xs ++ more))
listed_new xs more from at once few = record {
  ordered = omega (arith, at, length-append xs more);
  within = omega arith;
  few = omega (arith, at, few, length-append xs more);
  once = subst IsPerEntity (sym (range_new xs more from at)) once;
}

-- one list more
ends_then : (xs more : List (ℕ × ℕ)) (from : ℕ) (ends : List ℕ) → AreEnds xs from ends → IsPerEntity more → length more ≤ 64
    → AreEnds (xs ++ more) from (ends ++ length (xs ++ more) ∷ [])
ends_then xs more from [] are once few = (listed_new xs more from are once few, refl)
ends_then xs more from (to ∷ ends) are once few = (listed_stays xs more from to are.0, ends_then xs more to ends are.1 once few)

-- the lists are as they were, and it
lists_then : (xs more : List (ℕ × ℕ)) (from : ℕ) (ends : List ℕ) → AreEnds xs from ends
    → lists_from (xs ++ more) from (ends ++ length (xs ++ more) ∷ []) ≡ lists_from xs from ends ++ more ∷ []
lists_then xs more from [] are = ap (λ l. l ∷ []) (range_new xs more from are)
lists_then xs more from (to ∷ ends) are =
    ap₂ (λ l ls. l ∷ ls) (range_stays xs more from to are.0.ordered are.0.within) (lists_then xs more to ends are.1)

-- the two lists after a list was put behind the others
pub put_last : (xs ys more : List (ℕ × ℕ)) (ends new : List ℕ) (to : ℕ) → AreEnds xs 0 ends → IsPerEntity more → length more ≤ 64
    → ys ≡ xs ++ more → to ≡ length ys → new ≡ ends ++ to ∷ []
    → AreEnds ys 0 new × (lists_from ys 0 new ≡ lists_from xs 0 ends ++ more ∷ [])
put_last xs ys more ends new to are once few ys_are to_is new_are =
    let all : new ≡ ends ++ length (xs ++ more) ∷ [] = new_are ∙ ap (λ t. ends ++ t ∷ []) (to_is ∙ ap length ys_are) in (
      subst (λ zs. AreEnds zs 0 new) (sym ys_are) (subst (λ es. AreEnds (xs ++ more) 0 es) (sym all) (ends_then xs more 0 ends are once few)),
      ap₂ (λ zs es. lists_from zs 0 es) ys_are all ∙ lists_then xs more 0 ends are,
    )
