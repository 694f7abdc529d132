-- Pieces that are read one after another are those that were counted first.
use Rattle.std.proofs.Common.{◌≡◌, ℕ, List, [], ◌∷◌, refl}
use Rattle.drm_text.specs.declared.fault.Position.{Position}
use Rattle.drm_text.specs.declared.fault.TextFault.TheVariants as what
use Rattle.drm_text.specs.Reading.{◌>>=◌, or_fault, fault_at}
use Rattle.drm_parse.specs.Job.{fill_in_turn, route_in_turn, byte_alone, number_alone, four_of, five_of, fill_of, route_of, fill_at, route_at}

pub fill_is_in_turn : (position : Position) (pieces : List (List ℕ))
    → fill_at position pieces ≡ (or_fault (fill_in_turn pieces) (fault_at position what.Word) >>= λ packet. or_fault packet (fault_at position what.Number))
unfolding fill_at four_of fill_of fill_in_turn byte_alone
fill_is_in_turn position [] = refl
fill_is_in_turn position (a ∷ []) = refl
fill_is_in_turn position (a ∷ b ∷ []) = refl
fill_is_in_turn position (a ∷ b ∷ c ∷ []) = refl
fill_is_in_turn position (a ∷ b ∷ c ∷ d ∷ []) = refl
fill_is_in_turn position (a ∷ b ∷ c ∷ d ∷ e ∷ rest) = refl

pub route_is_in_turn : (position : Position) (pieces : List (List ℕ))
    → route_at position pieces ≡ (or_fault (route_in_turn pieces) (fault_at position what.Word) >>= λ route. or_fault route (fault_at position what.Number))
unfolding route_at five_of route_of route_in_turn number_alone
route_is_in_turn position [] = refl
route_is_in_turn position (a ∷ []) = refl
route_is_in_turn position (a ∷ b ∷ []) = refl
route_is_in_turn position (a ∷ b ∷ c ∷ []) = refl
route_is_in_turn position (a ∷ b ∷ c ∷ d ∷ []) = refl
route_is_in_turn position (a ∷ b ∷ c ∷ d ∷ e ∷ []) = refl
route_is_in_turn position (a ∷ b ∷ c ∷ d ∷ e ∷ f ∷ rest) = refl
