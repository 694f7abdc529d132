-- Walks along the links.
use Rattle.std.proofs.Common.{◌≡◌, ◌≢◌, ℕ, zero, suc, ◌<◌, List, [], ◌∷◌, ◌++◌, set, length, get_or, Some, refl, ap, ◌∙◌, inl, inr, ◌⊎◌, arith, slice_get}
use Rattle.drm_entity.specs.Linked.{walk}

link_kept : (next : List ℕ) (k v x : ℕ) → x ≢ k → get_or (set next k v) x 0 ≡ get_or next x 0
link_kept [] k v x away = refl
link_kept (y ∷ next) zero v zero away = absurd (away refl)
link_kept (y ∷ next) zero v (suc x) away = refl
link_kept (y ∷ next) (suc k) v zero away = refl
link_kept (y ∷ next) (suc k) v (suc x) away = link_kept next k v x (λ same. away (ap suc same))

pub link_set : (next : List ℕ) (k v : ℕ) → k < length next → get_or (set next k v) k 0 ≡ v
link_set [] k v lt = absurd (omega (arith, lt))
link_set (y ∷ next) zero v lt = refl
link_set (y ∷ next) (suc k) v lt = link_set next k v (omega (arith, lt))

pub length_walk : (next : List ℕ) (x left : ℕ) → length (walk next x left) ≡ left
length_walk next x zero = refl
length_walk next x (suc left) = ap suc (length_walk next (get_or next x 0) left)

-- a link that is not read does not matter; that of the last number is not
pub walk_kept : (next : List ℕ) (k v x left : ℕ) → ((a : ℕ) → suc a < left → slice_get (walk next x left) a ≡ Some k → ⊥)
    → walk (set next k v) x left ≡ walk next x left
walk_kept next k v x zero apart = refl
walk_kept next k v x (suc zero) apart = refl
walk_kept next k v x (suc (suc left)) apart =
    let away : x ≢ k = λ same. apart zero (omega arith) (ap Some same) in
    ap (λ l. x ∷ l) (ap (λ n. walk (set next k v) n (suc left)) (link_kept next k v x away)
    ∙ walk_kept next k v (get_or next x 0) (suc left) (λ a lt at. apart (suc a) (omega (arith, lt)) at))

-- links that lead to the same give the same walk
pub walk_alike : (next new : List ℕ) (x left : ℕ) → ((k : ℕ) → get_or new k 0 ≡ get_or next k 0) → walk new x left ≡ walk next x left
walk_alike next new x zero alike = refl
walk_alike next new x (suc left) alike =
    ap (λ l. x ∷ l) (ap (λ n. walk new n left) (alike x) ∙ walk_alike next new (get_or next x 0) left alike)

-- one number more
pub walk_more : (next : List ℕ) (x n last : ℕ) → slice_get (walk next x (suc n)) n ≡ Some last
    → walk next x (suc (suc n)) ≡ walk next x (suc n) ++ get_or next last 0 ∷ []
walk_more next x zero last at = let same : x ≡ last = cc (at) in ap (λ y. x ∷ get_or next y 0 ∷ []) same
walk_more next x (suc n) last at = ap (λ l. x ∷ l) (walk_more next (get_or next x 0) n last at)

-- an element with one more at the end: one of the old, or the new one
pub get_push : (xs : List ℕ) (y k z : ℕ) → slice_get (xs ++ y ∷ []) k ≡ Some z → (slice_get xs k ≡ Some z) ⊎ ((k ≡ length xs) × (z ≡ y))
get_push [] y zero z at = inr (refl, cc (at))
get_push [] y (suc k) z at = absurd (cc (at))
get_push (x ∷ xs) y zero z at = inl at
get_push (x ∷ xs) y (suc k) z at = elim (get_push xs y k z at) [ inl old ↦ inl old | inr new ↦ inr (ap suc new.0, new.1) ]

pub get_pushed : (xs : List ℕ) (y : ℕ) → slice_get (xs ++ y ∷ []) (length xs) ≡ Some y
get_pushed [] y = refl
get_pushed (x ∷ xs) y = get_pushed xs y
