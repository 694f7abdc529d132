-- What is said, by its parts.
use Rattle.std.proofs.Common.{◌≡◌, ◌∙◌, ℕ, List, ap, sym}
use Rattle.drm_engine.specs.Filling.{filled}

abbrev both : List ℕ → List ℕ → List ℕ × List ℕ
both words numbers = (words, numbers)

-- the words that are put are those that are said, and so are the numbers
pub filled_by : (said : List ℕ × List ℕ) (words numbers put : List ℕ) → said ≡ both words numbers → put ≡ words → filled put numbers ≡ filled said.0 said.1
filled_by said words numbers put is same =
    ap (λ (w : List ℕ). filled w numbers) same ∙ sym (ap (λ (p : List ℕ × List ℕ). filled p.0 p.1) is)
