-- What was put, of which a part may still be with a pen.
use Rattle.std.specs.Prelude.{◌≡◌, ℕ, List, ◌++◌}

-- the text was put behind what a picture and a pen had
pub record Adds (picture pen text picture' pen' : List ℕ) : Type 0 where
  pub whole : picture' ++ pen' ≡ picture ++ (pen ++ text)
