-- What a board keeps of its pivot, its values and its tasks.
use Rattle.std.specs.Prelude.{ℕ}
use Rattle.ww_lock.specs.Fences.{NotBack}

-- a ward says these facts of its pivots P, its values X and its tasks T
pub record Facts (P X T : Type 0) : Type 1 where
  -- the pivot may stand at home
  pub good : P → Type 0
  -- the value may stand at this place beside the pivot
  pub fits : ℕ → P → X → Type 0
  -- the second pivot may come of the first
  pub grows : P → P → Type 0
  -- the pivot shows this word for the fence of this number
  pub posted : P → ℕ → ℕ
  -- the pivot waits for the task to be reported
  pub busy : P → T → Type 0

-- what the facts say of growing is lawful
pub record AreLawful {P X T : Type 0} (facts : Facts P X T) : Type 0 where
  -- a pivot may come of itself
  pub reflexive : (p : P) → facts.grows p p
  -- what comes of a pivot that came of another comes of that other too
  pub transitive : (p q r : P) → facts.grows p q → facts.grows q r → facts.grows p r
  -- a pivot shows no fence word earlier than the one that it came of
  pub onward : (p q : P) → facts.grows p q → (f : ℕ) → NotBack (facts.posted p f) (facts.posted q f)
