-- A step of one seat keeps the fence words' part of the rule.
use Rattle.std.proofs.Common.{◌≡◌, ◌≢◌, ℕ, ◌+◌, ◌<◌, ◌≤◌, List, [], ◌∷◌, ◌++◌, length, get_or, set, sym, ◌∙◌, subst, ⊎_elim, inl, arith, get_or-set_other, get_or-set_same}
use mathlib.Core.Logic.{dite}
use native.Mathlib.Decide.{ℕ_discrete}
use Rattle.atomic_table.proofs.Lists.{at_snoc}
use Rattle.ww_lock.specs.Fences.{NotBack, not_back_twice}
use Rattle.ww_lock.specs.Rule.{In, At, Looks}
use Rattle.ww_lock.proofs.Lists.{in_both, in_last, seats}

module _ (n posts : ℕ) (views : List (List (ℕ × ℕ))) where
  -- the words of the fences stay
  pub looks_stay : (word : ℕ → ℕ) (words words' : List ℕ) → ((f : ℕ) → f < posts → get_or words' (n + 2 + f) 0 ≡ get_or words (n + 2 + f) 0) → Looks word n posts words views → Looks word n posts words' views
  looks_stay word words words' same r = record { at = λ f l. same f l ∙ r.at f l; past = r.past }

  -- the pivot changes, and posts the same words
  pub looks_turn : (word word' : ℕ → ℕ) (words words' : List ℕ) → ((f : ℕ) → f < posts → get_or words' (n + 2 + f) 0 ≡ get_or words (n + 2 + f) 0) → ((f : ℕ) → word' f ≡ word f) → Looks word n posts words views → Looks word' n posts words' views
  looks_turn word word' words words' same still r = record { at = λ f l. same f l ∙ (r.at f l ∙ sym (still f)); past = λ j v f x a h. subst (NotBack x) (sym (still f)) (r.past j v f x a h) }

  -- the pivot changes, and posts one word
  pub looks_post : (word word' : ℕ → ℕ) (words : List ℕ) (f : ℕ) → f < posts → n + 2 + posts ≤ length words → ((g : ℕ) → g ≢ f → word' g ≡ word g) → ((g : ℕ) → NotBack (word g) (word' g)) → Looks word n posts words views
      → Looks word' n posts (set words (n + 2 + f) (word' f)) views
  looks_post word word' words f near wide still on r = record {
    at = λ g l. dite (ℕ_discrete g f)
        (λ e. subst (λ (k : ℕ). get_or (set words (n + 2 + f) (word' f)) (n + 2 + k) 0 ≡ word' k) (sym e) (get_or-set_same words (n + 2 + f) (word' f) 0 (omega arith)))
        (λ ne. get_or-set_other words (n + 2 + f) (n + 2 + g) (word' f) 0 (λ e. ne (omega arith)) ∙ (r.at g l ∙ sym (still g ne)));
    past = λ j v g x a h. not_back_twice x (word g) (word' g) (r.past j v g x a h) (on g);
  }

  module _ (word : ℕ → ℕ) (words : List ℕ) (r : Looks word n posts words views) (id : ℕ) (v : List (ℕ × ℕ)) (at : At views id v) where
    -- the seat looks at a word that is there
    pub looks_more : (f : ℕ) → f < posts → Looks word n posts words (set views id (v ++ (f, get_or words (n + 2 + f) 0) ∷ []))
    looks_more f l = let x : ℕ = get_or words (n + 2 + f) 0 in let w : List (ℕ × ℕ) = v ++ (f, x) ∷ [] in record {
      at = r.at;
      past = λ j u g y p h. seats (λ _ u. In (g, y) u → NotBack y (word g)) views id w
          (λ h. ⊎_elim (λ old. r.past id v g y at old) (λ new. subst (λ (z : ℕ × ℕ). NotBack z.1 (word z.0)) (sym new) (inl (sym (r.at f l)))) (in_last (g, y) (f, x) v h))
          (λ j u _ a h. r.past j u g y a h) j u p h;
    }

    -- the seat is split, and the new one has looked at as much
    pub looks_split : Looks word n posts words (views ++ v ∷ [])
    looks_split = record { at = r.at; past = λ j u g y p h. ⊎_elim (λ a. r.past j u g y a h) (λ e. r.past id v g y at (subst (In (g, y)) (sym e) h)) (at_snoc views v u j p) }

    -- the seat takes in what another one looked at
    pub looks_join : (other : ℕ) (u : List (ℕ × ℕ)) → At views other u → Looks word n posts words (set (set views id (v ++ u)) other [])
    looks_join other u there = record {
      at = r.at;
      past = λ j d g y p h. seats (λ _ d. In (g, y) d → NotBack y (word g)) (set views id (v ++ u)) other [] (λ h. absurd h)
          (λ j d _ a h. seats (λ _ d. In (g, y) d → NotBack y (word g)) views id (v ++ u) (λ h. ⊎_elim (λ t. r.past id v g y at t) (λ t. r.past other u g y there t) (in_both (g, y) v u h)) (λ j d _ a h. r.past j d g y a h) j d a h) j d p h;
    }
