-- The least active fence, entry by entry.
use Rattle.std.proofs.Common.{◌≡◌, ℕ, min, Option, Some, None, refl, ap, arith}
use Rattle.std.specs.Option.{option_map_or}
use Rattle.drm_resv.specs.Active.{lesser}

-- the lesser of two that may be there
abbrev pub joined : Option ℕ → Option ℕ → Option ℕ
joined None o = o
joined (Some x) o = Some (option_map_or (λ y. min x y) o x)

join_lesser : (found : Option ℕ) (x : ℕ) (o : Option ℕ) → joined found (Some (option_map_or (λ y. min x y) o x)) ≡ joined (lesser found x) o
join_lesser None x o = refl
join_lesser (Some y) x None = refl
join_lesser (Some y) x (Some z) = ap Some (assoc y x z)
  where
    assoc : (a b d : ℕ) → min a (min b d) ≡ min (min a b) d
    assoc a b d = omega arith
