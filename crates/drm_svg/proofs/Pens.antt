-- What is put, one text behind another.
use Rattle.std.proofs.Common.{◌≡◌, ◌∙◌, ℕ, List, [], ◌∷◌, ◌++◌, ◌+◌, ◌<◌, ap, append-nil, append_assoc, flat_map, get_or, length, refl, subst, sym, take}
use Rattle.std.specs.List.{enumerate_from}
use Rattle.std.proofs.lemmas.Grind.{flat_map-append}
use Rattle.std.proofs.lemmas.List.{take_more}
use Rattle.drm_svg.specs.Pens.{Adds}
use Rattle.drm_svg.proofs.Places.{told_more}

-- a text that was placed
pub adds_placed : (a p text q : List ℕ) → q ≡ p ++ text → Adds a p text a q
adds_placed a p text q placed = record { whole = ap (λ (t : List ℕ). a ++ t) placed }

-- two texts that were placed
pub adds_two : (a p one other q : List ℕ) → q ≡ p ++ one ++ other → Adds a p (one ++ other) a q
adds_two a p one other q placed = adds_placed a p (one ++ other) q (placed ∙ append_assoc p one other)

pub adds_nothing : (a p : List ℕ) → Adds a p [] a p
adds_nothing a p = adds_placed a p [] p (sym (append-nil p))

-- a text of a pen that was moved to the picture
pub adds_moved : (a p b q : List ℕ) → b ≡ a ++ p → q ≡ [] → Adds a p [] b q
adds_moved a p b q moved bare =
    record { whole = ap (λ (t : List ℕ). b ++ t) bare ∙ append-nil b ∙ moved ∙ ap (λ (t : List ℕ). a ++ t) (sym (append-nil p)) }

-- a text, and one behind it
pub adds_more : {a p text b q more c r : List ℕ} → Adds a p text b q → Adds b q more c r → Adds a p (text ++ more) c r
adds_more {a} {p} {text} {b} {q} {more} {c} {r} one other = record {
  whole =
      other.whole
      ∙ sym (append_assoc b q more)
      ∙ ap (λ (t : List ℕ). t ++ more) one.whole
      ∙ append_assoc a (p ++ text) more
      ∙ ap (λ (t : List ℕ). a ++ t) (append_assoc p text more);
}

-- the same text
pub adds_same : {a p text other b q : List ℕ} → text ≡ other → Adds a p text b q → Adds a p other b q
adds_same {a} {p} {text} {other} {b} {q} same adds = subst (λ (t : List ℕ). Adds a p t b q) same adds

-- no text of a list yet
pub adds_first : (a p : List ℕ) → p ≡ [] → Adds a [] [] a p
adds_first a p bare = adds_placed a [] [] p bare

-- the text of one element more
pub adds_next : {X : Type 0} {a p b q c r : List ℕ} (f : X → List ℕ) (xs : List X) (k : ℕ) (d : X) → k < length xs
    → Adds a p (flat_map f (take k xs)) b q → Adds b q (f (get_or xs k d)) c r → Adds a p (flat_map f (take (k + 1) xs)) c r
adds_next f xs k d within so put =
    let x = get_or xs k d in
    adds_same
    (ap (λ (t : List ℕ). flat_map f (take k xs) ++ t) (sym (append-nil (f x)))
    ∙ sym (flat_map-append f (take k xs) (x ∷ []))
    ∙ ap (flat_map f) (sym (take_more xs k d within)))
    (adds_more so put)

-- the same where the list is lent
pub adds_lent : {X : Type 0} {a p b q c r : List ℕ} (f : X → List ℕ) (xs lent : List X) (k : ℕ) (d : X) → lent ≡ xs → k < length lent
    → Adds a p (flat_map f (take k xs)) b q → Adds b q (f (get_or lent k d)) c r → Adds a p (flat_map f (take (k + 1) xs)) c r
adds_lent {X} {a} {p} {b} {q} {c} {r} f xs lent k d same within so put =
    adds_next f xs k d (subst (λ (l : List X). k < length l) same within) so (subst (λ (l : List X). Adds b q (f (get_or l k d)) c r) same put)

-- the text of one element more with its place
pub adds_told : {X : Type 0} {a p b q c r : List ℕ} (h : ℕ × X → List ℕ) (xs : List X) (k : ℕ) (d : X) → k < length xs
    → Adds a p (flat_map h (enumerate_from 0 (take k xs))) b q → Adds b q (h (k, get_or xs k d)) c r
    → Adds a p (flat_map h (enumerate_from 0 (take (k + 1) xs))) c r
adds_told h xs k d within so put = adds_same (sym (told_more h xs k d within)) (adds_more so put)

-- all that was put is in the picture once the pen is moved
pub all_put : (a text b q c : List ℕ) → Adds a [] text b q → c ≡ b ++ q → c ≡ a ++ text
all_put a text b q c adds moved = moved ∙ adds.whole
