-- A lock tries again until it may answer.
use Rattle.std.proofs.Common.{◌≡◌, ℕ, ◌<◌, List, [], ◌∷◌, ◌++◌, length, sym, ap, ◌∙◌, subst, ⊎_elim, inr, ◌⊎◌, true, false, append_assoc, append-nil}
use Rattle.std.proofs.lemmas.Bool.{false≢true}
use lib.ListN.{get_elem?}
use Rattle.ww_lock.specs.declared.acquire.Acquire.{Acquire}
use Rattle.ww_lock.specs.Steps.{with_claim, with_met, with_mets}
use Rattle.ww_lock.specs.Held.{Lacks, HasAt}
use Rattle.ww_lock.specs.Acquiring.{IsSameAcquire, Waited, MayWait, view}
use Rattle.ww_lock.proofs.Lists.{in_last, at_in}

module _ {P X T : Type 0} where
  -- nothing was tried since, or each try failed and let the caller wait
  abbrev pub Since : ℕ → Acquire P X T → Acquire P X T → Type 0
  Since b a a' = (a' ≡ a) ⊎ ((a.sealed ≡ false) × Lacks b a.seat.held.items × ((ms : List (ℕ × ℕ)) × MayWait b a ms × Waited ms a a'))

  -- one try for value b failed, and found the holder h
  abbrev pub Failed : ℕ → ℕ → Acquire P X T → Acquire P X T → Type 0
  Failed b h a a' = (a.sealed ≡ false) × Lacks b a.seat.held.items × IsSameAcquire a a' × (view a' ≡ with_met b h (view a)) × (a'.seat.held ≡ a.seat.held)

  -- the tries of a lock are noted after one more that failed
  pub failed : (b h : ℕ) (a a₁ a₂ : Acquire P X T) → Since b a a₁ → Failed b h a₁ a₂ → (a.sealed ≡ false) × Lacks b a.seat.held.items × ((ms : List (ℕ × ℕ)) × MayWait b a ms × Waited (ms ++ (b, h) ∷ []) a a₂)
  failed b h a a₁ a₂ since f = ⊎_elim
      (λ e. (
        ap (λ z. z.sealed) (sym e) ∙ f.0,
        subst (λ (z : Acquire P X T). Lacks b z.seat.held.items) e f.1,
        ([], (λ c k t. absurd t), ((f.2.0 ∙ ap (λ z. z.ticket) e, f.2.1 ∙ ap (λ z. z.sealed) e, f.2.2 ∙ ap (λ z. z.seat.place.id) e), f.4 ∙ ap (λ z. z.seat.held) e, f.3 ∙ ap (λ z. with_met b h (view z)) e)),
      ))
      (λ t. let ms = t.2.0 in let w = t.2.2 in (
        t.0,
        t.1,
        (
          ms,
          t.2.1,
          (
            (f.2.0 ∙ w.0.0, f.2.1 ∙ w.0.1, f.2.2 ∙ w.0.2),
            f.4 ∙ w.1,
            f.3 ∙ (ap (with_met b h) w.2 ∙ ap (λ (l : List (ℕ × ℕ)). record (view a) { lock = record (view a).lock { met = l } }) (append_assoc (view a).lock.met ms ((b, h) ∷ []))),
          ),
        ),
      )) since

  -- a lock goes on where its last try failed and let the caller wait
  pub waits : (b h : ℕ) (a a₁ a₂ : Acquire P X T) → Since b a a₁ → Failed b h a₁ a₂ → (0 < length a₂.seat.held.items → a₂.ticket < h) → Since b a a₂
  waits b h a a₁ a₂ since f may = let r = failed b h a a₁ a₂ since f in let ms = r.2.0 in let w = r.2.2 in
      let may' : 0 < length a.seat.held.items → a.ticket < h = λ some_held. subst (λ k. k < h) w.0.0 (may (subst (λ l. 0 < length l.items) (sym w.1) some_held)) in
      inr (r.0, r.1, (ms ++ (b, h) ∷ [], (λ c k t. ⊎_elim (r.2.1 c k) (λ e. (ap (λ z. z.0) e, λ some_held. subst (λ (l : ℕ). a.ticket < l) (sym (ap (λ z. z.1) e)) (may' some_held))) (in_last (c, k) (b, h) ms t)), w))

  -- a lock answers `Sealed` as its last try does
  pub sealed : (b : ℕ) (a a₁ a₂ : Acquire P X T) → Since b a a₁ → (a₁.sealed ≡ true) × (a₂ ≡ a₁) → (a.sealed ≡ true) × (a₂ ≡ a)
  sealed b a a₁ a₂ since f = ⊎_elim (λ e. (ap (λ z. z.sealed) (sym e) ∙ f.0, f.1 ∙ e)) (λ t. absurd (false≢true (sym t.0 ∙ (sym t.2.2.0.1 ∙ f.0)))) since

  -- a lock answers `Already` as its last try does
  pub already : (b : ℕ) (a a₁ a₂ : Acquire P X T) → Since b a a₁ → (a₁.sealed ≡ false) × ((i : ℕ) × HasAt b i a₁.seat.held.items) × (a₂ ≡ a₁) → (a.sealed ≡ false) × ((i : ℕ) × HasAt b i a.seat.held.items) × (a₂ ≡ a)
  already b a a₁ a₂ since f = ⊎_elim (λ e. (ap (λ z. z.sealed) (sym e) ∙ f.0, subst (λ (z : Acquire P X T). (i : ℕ) × HasAt b i z.seat.held.items) e f.1, f.2 ∙ e))
      (λ t. absurd (t.1 f.1.1.0 (at_in a.seat.held.items f.1.0 (b, f.1.1.0) (ap (λ z. get_elem? z.items f.1.0) (sym t.2.2.1) ∙ f.1.1.1)))) since

  -- a lock takes the value at its last try
  pub taken : (b : ℕ) (a a₁ a₂ : Acquire P X T) → Since b a a₁ → (a₁.sealed ≡ false) × Lacks b a₁.seat.held.items × IsSameAcquire a₁ a₂ × ((x : X) × (view a₂ ≡ with_claim b x (view a₁)) × (a₂.seat.held.items ≡ a₁.seat.held.items ++ (b, x) ∷ []))
      → (a.sealed ≡ false) × Lacks b a.seat.held.items × IsSameAcquire a a₂ × ((x : X) × (ms : List (ℕ × ℕ)) × MayWait b a ms × (view a₂ ≡ with_claim b x (with_mets ms (view a))) × (a₂.seat.held.items ≡ a.seat.held.items ++ (b, x) ∷ []))
  taken b a a₁ a₂ since f = let x = f.3.0 in ⊎_elim
      (λ e. (
        ap (λ z. z.sealed) (sym e) ∙ f.0,
        subst (λ (z : Acquire P X T). Lacks b z.seat.held.items) e f.1,
        (f.2.0 ∙ ap (λ z. z.ticket) e, f.2.1 ∙ ap (λ z. z.sealed) e, f.2.2 ∙ ap (λ z. z.seat.place.id) e),
        (x, [], (λ c k t. absurd t), f.3.1 ∙ (ap (λ z. with_claim b x (view z)) e ∙ ap (λ (ms : List (ℕ × ℕ)). with_claim b x (record (view a) { lock = record (view a).lock { met = ms } })) (sym (append-nil (view a).lock.met))), f.3.2 ∙ ap (λ z. z.seat.held.items ++ (b, x) ∷ []) e),
      ))
      (λ t. let w = t.2.2 in (t.0, t.1, (f.2.0 ∙ w.0.0, f.2.1 ∙ w.0.1, f.2.2 ∙ w.0.2), (x, t.2.0, t.2.1, f.3.1 ∙ ap (with_claim b x) w.2, f.3.2 ∙ ap (λ z. z.items ++ (b, x) ∷ []) w.1))) since
