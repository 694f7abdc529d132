-- What a caller that is inside may show and bring home.
use Rattle.std.specs.Prelude.{ℕ, ◌≡◌, ◌≢◌, List, [], ◌∷◌}
use Rattle.ww_lock.specs.declared.board.View.{View}
use Rattle.ww_lock.specs.declared.board.TaskChange.{TaskChange}
use Rattle.ww_lock.specs.Facts.{Facts}
use Rattle.ww_lock.specs.Rule.{In}
use Rattle.ww_lock.specs.Steps.{Turns}

module _ {P X T : Type 0} (facts : Facts P X T) where
  -- a caller may bring the pivot q home where q is good and came of the pivot found. Each of the held values xs fits q,
  -- and so does each value that is not owed and fitted the pivot found. No fence word is left to show
  abbrev pub MayLeave : View P X T → List (ℕ × X) → P → TaskChange T → Type 0
  MayLeave v xs q change = (p : P) × (v.pivot.seen ≡ p ∷ []) × facts.good q × facts.grows p q
      × ((b : ℕ) (x : X) → In (b, x) xs → facts.fits b q x)
      × ((b : ℕ) (x : X) → ((y : X) → In (b, y) v.lock.owes → ⊥) → facts.fits b p x → facts.fits b q x)
      × ((f : ℕ) → facts.posted q f ≡ facts.posted p f) × Turns facts.busy p q v.task change

  -- a caller may show the pivot q by this word of one fence where q is good, came of the pivot found, and is fitted by
  -- the values as above. The other fence words stay, and q waits for each task that the pivot found waits for
  abbrev pub MayPost : View P X T → List (ℕ × X) → P → ℕ → ℕ → Type 0
  MayPost v xs q fence word = (p : P) × (v.pivot.seen ≡ p ∷ []) × facts.good q × facts.grows p q
      × ((b : ℕ) (x : X) → In (b, x) xs → facts.fits b q x)
      × ((b : ℕ) (x : X) → ((y : X) → In (b, y) v.lock.owes → ⊥) → facts.fits b p x → facts.fits b q x)
      × (word ≡ facts.posted q fence) × ((g : ℕ) → g ≢ fence → facts.posted q g ≡ facts.posted p g)
      × ((t : T) → facts.busy p t → facts.busy q t)
