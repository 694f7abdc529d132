-- The laws of what a pass has armed.
use Rattle.std.proofs.Common.{◌<◌, ℕ, List, [], ◌∷◌, arith, subst, All, IsPermutation}
use Rattle.std.proofs.lemmas.List.Elements.{All-nil, All-cons}
use Rattle.drm_workers.specs.Numbers.{armings, ArmingsRise, JoinedArmings}
use Rattle.drm_workers.proofs.Rising.{AllBelow, count_of, longer, rises, below}
use Rattle.drm_workers.proofs.Permuted.{armings_permuted, armings_append}

all_below : (high : ℕ) (xs : List ℕ) → AllBelow high xs → All (λ n. n < high) xs
all_below high [] h = All-nil (λ n. n < high)
all_below high (x ∷ xs) h = All-cons (λ n. n < high) x xs h.0 (all_below high xs h.1)

pub armings_rise : ArmingsRise
armings_rise pass ordered =
    (rises pass.calls 0 ordered.chain (λ c h. omega arith), all_below (count_of pass.last) (armings pass.calls) (below pass.calls (count_of pass.last) (λ c h. longer c.1 pass.last (ordered.lefts c h))))

pub joined_armings : JoinedArmings
joined_armings one other new joined = (
  record { chain = joined.chain; lefts = joined.lefts },
  subst (λ xs. IsPermutation xs (armings new.calls)) (armings_append one.calls other.calls) (armings_permuted _ new.calls joined.calls),
)
