-- Armings over reservations that are held with their buffers.
use Rattle.std.proofs.Common.{◌≡◌, ℕ, ◌+◌, ◌<◌, Bool, List, [], ◌∷◌, ◌++◌, length, map, Some, None, Option, refl, sym, ap, subst, ◌∙◌, inl, inr, arith, slice_get, set, get_or}
use Rattle.std.specs.declared.alloc.Global.{Global}
use Rattle.std.specs.Option.{option_map_or}
use Rattle.std.specs.Prelude.{Vec, vec_len}
use Rattle.std.specs.Vec.{with_items}
use Rattle.std.proofs.lemmas.List.{length-map, with_items_is}
use Rattle.std.proofs.lemmas.Option.{slice_get_within, slice_get-get_or}
use Rattle.std.proofs.lemmas.Bool.{cases_eq}
use Rattle.drm_lists.proofs.Places.{to_map, from_map, list_ext}
use Rattle.drm_lists.proofs.Changed.{get_set_same, get_set_other}
use Rattle.drm_types.specs.declared.access.Usage.{Usage}
use Rattle.drm_job.specs.declared.Draft.{Draft}
use Rattle.drm_fence.specs.declared.timeline.FenceState.{FenceState}
use Rattle.drm_fence.specs.Fences.{has_ended_at}
use Rattle.drm_resv.specs.Entries.{added_to}
use Rattle.drm_resv.specs.Reservation.{Reservation, WithRoom}
use Rattle.drm_state.specs.declared.journal.JobRecord.{JobRecord}
use Rattle.drm_state.specs.State.{DeviceState}
use Rattle.drm_state.specs.Arming.{new_record, armed_device, armed_reservation}
use Rattle.drm_state.specs.Held.{buffers_of, kept_of, armed_held, AllFit}
use Rattle.drm_state.specs.Lawful.{EachTwo, KeepsEntityOrder}
use Rattle.drm_state.specs.Uses.{HasUse, HeldHaveUses}
use Rattle.drm_state.specs.Reservation.{usage_at, is_signaled, Fits}
use Rattle.drm_state.specs.Records.{fence_state_of}
use Rattle.drm_state.proofs.Alike.{ended_alike}
use Rattle.drm_state.proofs.FitsKept.{armed_fits}

-- one more use was added
pub held_next : (ended : ℕ → Bool) (fence : ℕ) (job : Draft) (old hs : List (ℕ × WithRoom)) (i : ℕ) (h new : ℕ × WithRoom) → slice_get old i ≡ Some h → slice_get hs i ≡ Some h
    → new.0 ≡ h.0 → HasUse ended fence job h.0 h.1 new.1
    → ((k : ℕ) (x : ℕ × WithRoom) → k < i → slice_get old k ≡ Some x → (m : ℕ × WithRoom) × (slice_get hs k ≡ Some m) × (m.0 ≡ x.0) × HasUse ended fence job x.0 x.1 m.1)
    → (k : ℕ) (x : ℕ × WithRoom) → k < i + 1 → slice_get old k ≡ Some x → (m : ℕ × WithRoom) × (slice_get (set hs i new) k ≡ Some m) × (m.0 ≡ x.0) × HasUse ended fence job x.0 x.1 m.1
held_next ended fence job old hs i h new at_old at_hs buffer has done k x lt at =
    elim (cases_eq k i) [
      | inl same ↦
          let at_i : slice_get old i ≡ Some x = subst (λ n. slice_get old n ≡ Some x) same at in
          let is : h ≡ x = cc (at_i, at_old) in (
            new,
            subst (λ n. slice_get (set hs i new) n ≡ Some new) (sym same) (get_set_same hs i h new at_hs),
            subst (λ (z : ℕ × WithRoom). new.0 ≡ z.0) is buffer,
            subst (λ (z : ℕ × WithRoom). HasUse ended fence job z.0 z.1 new.1) is has,
          )
      | inr apart ↦
          let m = done k x (omega (arith, lt, apart)) at in
          (m.0, get_set_other hs i k new apart ∙ m.1, m.2, m.3)
    ]

-- what a held reservation keeps
abbrev pub kept_with : ℕ × WithRoom → ℕ × Reservation
kept_with h = (h.0, h.1.kept)

-- a held reservation after the arming
abbrev pub armed_one : List JobRecord → Draft → ℕ × Reservation → ℕ × Reservation
armed_one journal job h = (h.0, armed_reservation journal job h.0 h.1)

-- what they keep after the uses were added is the definition's
pub held_armed : (js : List JobRecord) (fs : List FenceState) (job : Draft) (old new : List (ℕ × WithRoom)) → fs ≡ map fence_state_of js
    → HeldHaveUses (has_ended_at fs) (length js) job old new → kept_of new ≡ armed_held js job (kept_of old)
held_armed js fs job old new tie uses =
    list_ext (map kept_with new) (map (armed_one js job) (map kept_with old)) counts each
  where
    counts : length (map kept_with new) ≡ length (map (armed_one js job) (map kept_with old))
    counts = length-map new kept_with ∙ (uses.count ∙ sym (length-map (map kept_with old) (armed_one js job) ∙ length-map old kept_with))

    by_use : (buffer : ℕ) (r m : WithRoom) (o : Option Usage) → usage_at buffer job ≡ o → HasUse (has_ended_at fs) (length js) job buffer r m
        → m.kept ≡ armed_reservation js job buffer r.kept
    by_use buffer r m None is has =
        ap (λ (z : WithRoom). z.kept) (has.1 is)
        ∙ sym (ap (λ o. option_map_or (λ u. added_to (is_signaled js) r.kept (record { fence = length js; entity = job.entity; usage = u })) o r.kept) is)
    by_use buffer r m (Some u) is has =
        has.0 u is
        ∙ (ap (λ ended. added_to ended r.kept (record { fence = length js; entity = job.entity; usage = u })) (ended_alike js fs tie)
        ∙ sym (ap (λ o. option_map_or (λ u. added_to (is_signaled js) r.kept (record { fence = length js; entity = job.entity; usage = u })) o r.kept) is))

    each : (k : ℕ) (x : ℕ × Reservation) → slice_get (map kept_with new) k ≡ Some x → slice_get (map (armed_one js job) (map kept_with old)) k ≡ Some x
    each k x at =
        let m = from_map kept_with new k x at in
        let lt : k < length old = subst (λ n. k < n) uses.count (slice_get_within new k m.0 m.1) in
        let h = get_or old k m.0 in
        let at_old : slice_get old k ≡ Some h = slice_get-get_or old k m.0 lt in
        let u = uses.each k h at_old in
        let same : u.0 ≡ m.0 = cc (u.1, m.1) in
        let kept : u.0.1.kept ≡ armed_reservation js job h.0 h.1.kept = by_use h.0 h.1 u.0.1 (usage_at h.0 job) refl u.3 in
        let is : armed_one js job (kept_with h) ≡ kept_with u.0 = ap (λ b. (b, armed_reservation js job h.0 h.1.kept)) (sym u.2) ∙ ap (λ r. (u.0.0, r)) (sym kept) in
        to_map (armed_one js job) (map kept_with old) k (kept_with h) (to_map kept_with old k h at_old)
        ∙ ap (λ z. Some z) (is ∙ (ap kept_with same ∙ sym m.2))

-- where all fit before, all fit after the arming
pub held_fit : (d : DeviceState) (job : Draft) (held : List (ℕ × Reservation)) → EachTwo d.journal KeepsEntityOrder → AllFit d.journal held
    → AllFit (d.journal ++ new_record d job ∷ []) (armed_held d.journal job held)
held_fit d job held order fit k x at =
    let h = from_map (armed_one d.journal job) held k x at in
    let fits = armed_fits d job h.0.0 h.0.1 order (fit k h.0 h.1) in
    subst (λ (z : ℕ × Reservation). Fits z.0 (d.journal ++ new_record d job ∷ []) z.1) (sym h.2) fits

-- the uses that were added to the vector's items
pub held_in_vector : (v : Vec (ℕ × WithRoom) Global) (ended : ℕ → Bool) (fence count : ℕ) (job : Draft) (old new : List (ℕ × WithRoom)) → fence ≡ count → old ≡ v.items
    → HeldHaveUses ended fence job old new → HeldHaveUses ended count job v.items (with_items v new).items
held_in_vector v ended fence count job old new fence_is old_is uses =
    let same : length new ≡ vec_len v = uses.count ∙ (ap length old_is ∙ sym v.ok.0) in
    subst (λ xs. HeldHaveUses ended count job v.items xs) (sym (with_items_is v new same))
    (subst (λ n. HeldHaveUses ended n job v.items new) fence_is
    (subst (λ xs. HeldHaveUses ended fence job xs new) old_is uses))

-- what the held reservations are after a device armed the job
pub held_after : (d n : DeviceState) (fs : List FenceState) (job : Draft) (old new : List (ℕ × WithRoom)) → fs ≡ map fence_state_of d.journal → EachTwo d.journal KeepsEntityOrder
    → n ≡ armed_device d job → HeldHaveUses (has_ended_at fs) (length d.journal) job old new
    → (kept_of new ≡ armed_held d.journal job (kept_of old)) × (AllFit d.journal (kept_of old) → AllFit n.journal (kept_of new))
held_after d n fs job old new tie order armed uses =
    let kept = held_armed d.journal fs job old new tie uses in (
      kept,
      λ fit.
          subst (λ (z : DeviceState). AllFit z.journal (kept_of new)) (sym armed)
          (subst (λ hs. AllFit (d.journal ++ new_record d job ∷ []) hs) (sym kept) (held_fit d job (kept_of old) order fit)),
    )

-- the first of each pair, where what follows it is left out or changed
kept_firsts : (held : List (ℕ × WithRoom)) → map (λ h. h.0) (kept_of held) ≡ buffers_of held
kept_firsts [] = refl
kept_firsts (h ∷ hs) = ap (λ bs. h.0 ∷ bs) (kept_firsts hs)

armed_firsts : (js : List JobRecord) (job : Draft) (held : List (ℕ × Reservation)) → map (λ h. h.0) (armed_held js job held) ≡ map (λ h. h.0) held
armed_firsts js job [] = refl
armed_firsts js job (h ∷ hs) = ap (λ bs. h.0 ∷ bs) (armed_firsts js job hs)

-- an arming leaves the buffers that are held, in order
pub held_order : (js : List JobRecord) (job : Draft) (old new : List (ℕ × WithRoom)) → kept_of new ≡ armed_held js job (kept_of old) → buffers_of new ≡ buffers_of old
held_order js job old new kept =
    sym (kept_firsts new) ∙ (ap (λ (hs : List (ℕ × Reservation)). map (λ h. h.0) hs) kept ∙ (armed_firsts js job (kept_of old) ∙ kept_firsts old))
