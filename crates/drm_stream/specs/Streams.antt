-- What contracts see of a source and of a sink.
use Rattle.std.specs.Prelude.{◌≡◌, ℕ, Bool, List, Option}

-- a source: the bytes that its reads will give, where they are known, how many reads there were, whether one of them
-- failed, and whether one was refused memory
pub record SourceState : Type 0 where
  pub remaining : Option (List ℕ)
  pub reads : ℕ
  pub failed : Bool
  pub refused : Bool

-- a sink: the bytes that its writer holds, where they are known, and whether a write failed
pub record SinkState : Type 0 where
  pub contents : Option (List ℕ)
  pub failed : Bool

-- no read failed, and none was refused memory
abbrev pub NoReadFailed : SourceState → SourceState → Type 0
NoReadFailed old new = (new.failed ≡ old.failed) × (new.refused ≡ old.refused)

-- no write failed
abbrev pub NoWriteFailed : SinkState → SinkState → Type 0
NoWriteFailed old new = new.failed ≡ old.failed
