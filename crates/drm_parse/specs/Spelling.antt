-- What it means that texts are read as what they spell.
use Rattle.std.specs.Prelude.{◌≡◌, ℕ, List, ◌↔◌, Result, Ok}
use Rattle.drm_text.specs.declared.fault.Fault.{Fault}
use Rattle.drm_text.specs.declared.fault.ReadError.{ReadError}
use Rattle.drm_text.specs.Reading.{Gives}

-- where the text spells something, this was read, or memory was refused
abbrev pub IsReadAsSpelled : {X : Type 0} → (List ℕ → X → Type 0) → List ℕ → Result X ReadError → Type 0
IsReadAsSpelled {X} Spells text result = (x : X) → Spells text x → Gives (λ y. y) result (Ok x)

-- a text is judged to be what it spells, and as nothing else
abbrev pub IsJudgedAsSpelled : {X : Type 0} → (List ℕ → Result X Fault) → (List ℕ → X → Type 0) → Type 0
IsJudgedAsSpelled {X} judge Spells = (text : List ℕ) (x : X) → (judge text ≡ Ok x) ↔ Spells text x

-- a text spells one thing at most
abbrev pub SpellsOne : {X : Type 0} → (List ℕ → X → Type 0) → Type 0
SpellsOne {X} Spells = (text : List ℕ) (x y : X) → Spells text x → Spells text y → x ≡ y
