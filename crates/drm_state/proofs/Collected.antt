-- What was collected, reservation by reservation.
use Rattle.std.proofs.Common.{◌≡◌, ℕ, ◌+◌, ◌<◌, List, [], ◌∷◌, ◌++◌, length, Some, None, take, get_or, refl, sym, ap, ◌∙◌, subst, inl, inr, ◌⊎◌}
use Rattle.std.specs.Prelude.{Contains}
use Rattle.std.proofs.lemmas.List.{take_more, map-append}
use Rattle.std.proofs.lemmas.List.Elements.{All-nil, All-weaker, Contains-push, Contains-push_cases, Contains-append_left}
use Rattle.drm_lists.proofs.Places.{contains_at, place_of}
use Rattle.drm_types.specs.declared.access.Access.{Access}
use Rattle.drm_types.specs.Usages.{wanted_usage}
use Rattle.drm_job.specs.declared.Draft.{Draft}
use Rattle.drm_job.specs.Uses.{access_of}
use Rattle.drm_resv.specs.declared.entry.Entry.{Entry}
use Rattle.drm_resv.specs.Entries.{entries_of}
use Rattle.drm_resv.specs.Noting.{all_noted}
use Rattle.drm_resv.specs.Reservation.{Reservation, WithRoom}
use Rattle.drm_state.specs.Collected.{IsAsked, IsCollected}
use Rattle.drm_state.specs.Held.{kept_of}
use Rattle.drm_state.proofs.HeldFacts.{kept_with}
use Rattle.drm_state.proofs.Notes.{each_keeps, each_reaches, each_all}

abbrev Holds : Type 0
Holds = List (ℕ × Reservation)

-- a dependency that was asked for
abbrev IsOfEntry : Draft → Holds → ℕ × ℕ → Type 0
IsOfEntry job held d = (e : Entry) × IsAsked job held e × (d ≡ (e.entity, e.fence))

-- nothing is asked for where nothing is held
pub collected_nothing : (job : Draft) → IsCollected job [] []
collected_nothing job = record { reached = λ e asked. absurd (let p = place_of [] (asked.0, asked.1) asked.3 in cc (p.1)); asked = All-nil (IsOfEntry job []) }

-- an entry that was asked for is so where more is held
asked_more : (job : Draft) (held : Holds) (h : ℕ × Reservation) (e : Entry) → IsAsked job held e → IsAsked job (held ++ h ∷ []) e
asked_more job held h e asked = (asked.0, asked.1, asked.2, Contains-append_left held (h ∷ []) (asked.0, asked.1) asked.3, asked.4, asked.5)

-- one that is asked for was so before, or is of the last reservation
asked_cases : (job : Draft) (held : Holds) (b : ℕ) (x : Reservation) (e : Entry) → IsAsked job (held ++ (b, x) ∷ []) e
    → IsAsked job held e ⊎ ((a : Access) × (access_of job b ≡ Some a) × Contains (entries_of (wanted_usage a) x.entries) e)
asked_cases job held b x e asked =
    elim (Contains-push_cases held (b, x) (asked.0, asked.1) asked.3) [
      | inl before ↦ inl (asked.0, asked.1, asked.2, before, asked.4, asked.5)
      | inr last ↦ inr (
        asked.2,
        subst (λ n. access_of job n ≡ Some asked.2) (sym (ap (λ (h : ℕ × Reservation). h.0) last)) asked.4,
        subst (λ (y : Reservation). Contains (entries_of (wanted_usage asked.2) y.entries) e) (sym (ap (λ (h : ℕ × Reservation). h.1) last)) asked.5,
      )
    ]

-- one more reservation, of a buffer that the job does not use
pub collected_unused : (job : Draft) (held : Holds) (deps : List (ℕ × ℕ)) (b : ℕ) (x : Reservation) → access_of job b ≡ None → IsCollected job held deps
    → IsCollected job (held ++ (b, x) ∷ []) deps
collected_unused job held deps b x unused is = record {
  reached = λ e asked. elim (asked_cases job held b x e asked) [
    | inl before ↦ is.reached e before
    | inr last ↦ absurd (let never : None ≡ Some last.0 = sym unused ∙ last.1 in cc (never))
  ];
  asked = All-weaker (IsOfEntry job held) (IsOfEntry job (held ++ (b, x) ∷ [])) (λ d t. (t.0, asked_more job held (b, x) t.0 t.1, t.2)) deps is.asked;
}

-- one more, of a buffer that it uses
pub collected_used : (job : Draft) (held : Holds) (deps : List (ℕ × ℕ)) (b : ℕ) (x : Reservation) (a : Access) → access_of job b ≡ Some a → IsCollected job held deps
    → IsCollected job (held ++ (b, x) ∷ []) (all_noted deps (entries_of (wanted_usage a) x.entries))
collected_used job held deps b x a used is = record {
  reached = λ e asked. elim (asked_cases job held b x e asked) [
    | inl before ↦ each_keeps (λ (e : Entry). e.entity) (λ (e : Entry). e.fence) deps new e.entity e.fence (is.reached e before)
    | inr last ↦
        let same : last.0 ≡ a = (let both : Some last.0 ≡ Some a = sym last.1 ∙ used in cc (both)) in
        let m = place_of new e (subst (λ c. Contains (entries_of (wanted_usage c) x.entries) e) same last.2) in
        each_reaches (λ (e : Entry). e.entity) (λ (e : Entry). e.fence) deps new m.0 e m.1
  ];
  asked = each_all (IsOfEntry job (held ++ (b, x) ∷ [])) (λ (e : Entry). e.entity) (λ (e : Entry). e.fence) deps new
      (All-weaker (IsOfEntry job held) (IsOfEntry job (held ++ (b, x) ∷ [])) (λ d t. (t.0, asked_more job held (b, x) t.0 t.1, t.2)) deps is.asked)
      (λ k e at. (e, (b, x, a, Contains-push held (b, x), used, contains_at new k e at), refl));
}
  where
    new : List Entry
    new = entries_of (wanted_usage a) x.entries

-- what is kept of one more
pub kept_more : (held : List (ℕ × WithRoom)) (i : ℕ) (h : ℕ × WithRoom) → i < length held → h ≡ get_or held i h
    → kept_of (take (i + 1) held) ≡ kept_of (take i held) ++ (h.0, h.1.kept) ∷ []
kept_more held i h lt is =
    ap kept_of (take_more held i h lt ∙ ap (λ g. take i held ++ g ∷ []) (sym is)) ∙ map-append kept_with (take i held) (h ∷ [])
