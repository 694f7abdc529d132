-- The first buffer that a draft declares twice, found one place after another.
use Rattle.std.proofs.Common.{◌≡◌, ℕ, ◌+◌, ◌<◌, ◌==◌, ◌||◌, Bool, true, false, cond, List, [], ◌∷◌, ◌++◌, map, length, get_or, take, drop, Option, Some, is_some, refl, sym, ap, ◌∙◌}
use Rattle.std.specs.Prelude.{find, option_map}
use Rattle.std.specs.List.{list_any}
use Rattle.std.proofs.lemmas.List.{at_drop_more, take_more, map-append}
use Rattle.drm_types.specs.declared.access.Access.{Access}
use Rattle.drm_types.specs.Firsts.{when, first_of}
use Rattle.drm_types.proofs.Firsts.{first_of_one}
use Rattle.drm_job.specs.Fault.{repeat_after}

-- the buffers that are declared
abbrev pub buffers : List (ℕ × Access) → List ℕ
buffers declared = map (λ d. d.0) declared

-- what is left to look at, from a place on
abbrev pub left_at : List (ℕ × Access) → ℕ → Option ℕ
left_at declared i = repeat_after (buffers (take i declared)) (buffers (drop i declared))

-- one place of it
pub look_at : (declared : List (ℕ × Access)) (i : ℕ) (d : ℕ × Access) (b : Bool) → i < length declared → d ≡ get_or declared i d
    → list_any (λ y. y == d.0) (buffers (take i declared)) ≡ b
    → left_at declared i ≡ first_of (when b d.0 ∷ left_at declared (i + 1) ∷ [])
look_at declared i d b lt is test =
    let before : buffers (take (i + 1) declared) ≡ buffers (take i declared) ++ d.0 ∷ [] =
    ap buffers (take_more declared i d lt ∙ ap (λ x. take i declared ++ x ∷ []) (sym is))
    ∙ map-append (λ (x : ℕ × Access). x.0) (take i declared) (d ∷ []) in
    at_drop_more (λ r. repeat_after (buffers (take i declared)) (buffers r)) declared i d lt
    ∙ (ap (λ x. repeat_after (buffers (take i declared)) (buffers (x ∷ drop (i + 1) declared))) (sym is)
    ∙ (ap (λ t. first_of (when t d.0 ∷ repeat_after (buffers (take i declared) ++ d.0 ∷ []) (buffers (drop (i + 1) declared)) ∷ [])) test
    ∙ ap (λ r. first_of (when b d.0 ∷ repeat_after r (buffers (drop (i + 1) declared)) ∷ [])) (sym before)))

-- a place that repeats no earlier one is passed
pub passed : (declared : List (ℕ × Access)) (i : ℕ) (d : ℕ × Access) → i < length declared → d ≡ get_or declared i d
    → list_any (λ y. y == d.0) (buffers (take i declared)) ≡ false → left_at declared i ≡ left_at declared (i + 1)
passed declared i d lt is test = look_at declared i d false lt is test ∙ first_of_one (left_at declared (i + 1))

-- a buffer stands among these where it is declared by them
pub among : (declared : List (ℕ × Access)) (b : ℕ)
    → list_any (λ y. y == b) (buffers declared) ≡ is_some (option_map (λ d. d.1) (find (λ d. d.0 == b) declared))
among [] b = refl
among (d ∷ ds) b =
    elim (d.0 == b) as (λ t. (t || list_any (λ y. y == b) (buffers ds)) ≡ is_some (option_map (λ d. d.1) (cond t (Some d) (find (λ d. d.0 == b) ds)))) [
      | true ↦ refl
      | false ↦ among ds b
    ]
