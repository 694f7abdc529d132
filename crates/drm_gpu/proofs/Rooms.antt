-- What is kept, value by value.
use Rattle.std.proofs.Common.{◌≡◌, ◌<◌, ℕ, zero, suc, List, [], ◌∷◌, length, set, get_or, refl, ap, arith}
use Rattle.drm_resv.specs.Reservation.{WithRoom}
use Rattle.drm_state.specs.Held.{kept_of}

-- a value of the same buffer that keeps the same
pub kept_set : (hs : List (ℕ × WithRoom)) (i : ℕ) (d : ℕ × WithRoom) (r : WithRoom) → i < length hs → r.kept ≡ (get_or hs i d).1.kept → kept_of (set hs i ((get_or hs i d).0, r)) ≡ kept_of hs
kept_set [] i d r lt e = refl
kept_set (h ∷ hs) zero d r lt e = ap (λ x. (h.0, x) ∷ kept_of hs) e
kept_set (h ∷ hs) (suc i) d r lt e = ap (λ l. (h.0, h.1.kept) ∷ l) (kept_set hs i d r (omega (arith, lt)) e)
