-- Which entities wait for which fences.
use Rattle.std.specs.Prelude.{ℕ, not, ◌&&◌, ◌==◌, List, filter, count_by, All, IsFalse}
use Rattle.drm_fence.specs.declared.pair.Pair.{Pair}

-- the pairs that wait, in any order, and how many entities and fences there may be
pub record Waiting : Type 0 where
  pub entities : ℕ
  pub fences : ℕ
  pub pairs : List Pair

-- how many fences the entity waits for
abbrev pub unmet_in : List Pair → ℕ → ℕ
unmet_in pairs entity = count_by (λ p. p.entity == entity) pairs

-- the entity has no pair for a fence of this one
abbrev pub HasNoPair : List Pair → ℕ → ℕ → Type 0
HasNoPair pairs entity of = All (λ p. IsFalse ((p.entity == entity) && (p.of == of))) pairs

-- without the pairs of a fence that are met when it is scheduled
abbrev pub without_early : List Pair → ℕ → List Pair
without_early pairs fence = filter (λ p. not ((p.fence == fence) && p.is_early)) pairs

abbrev pub without_fence : List Pair → ℕ → List Pair
without_fence pairs fence = filter (λ p. not (p.fence == fence)) pairs

abbrev pub without_entity : List Pair → ℕ → List Pair
without_entity pairs entity = filter (λ p. not (p.entity == entity)) pairs
