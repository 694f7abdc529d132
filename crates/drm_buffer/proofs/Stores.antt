-- Buffers that go out and come back.
use Rattle.std.proofs.Common.{◌≡◌, ℕ, zero, suc, true, false, List, [], ◌∷◌, set, map, get_or, Some, refl, ap, ◌∙◌, slice_get}
use Rattle.std.proofs.lemmas.List.{map-set, set-set}
use Rattle.drm_lists.proofs.Changed.{set_same}
use Rattle.drm_buffer.specs.declared.place.Place.{Place}
use Rattle.drm_buffer.specs.declared.place.Place.TheVariants.{In}
use Rattle.drm_buffer.specs.Memory.{bytes_of, overwritten, written}
use Rattle.drm_buffer.specs.Stored.{Stored}
use Rattle.drm_buffer.specs.Places.{bytes_at, is_out_at, stored}

-- a place that shows what it showed
same_shown : (places : List Place) (n : ℕ) (old new : Place) → old ≡ get_or places n old → bytes_at new ≡ bytes_at old
    → map bytes_at (set places n new) ≡ map bytes_at places
same_shown [] n old new is shown = refl
same_shown (x ∷ xs) zero old new is shown = ap (λ b. b ∷ map bytes_at xs) (shown ∙ ap bytes_at is)
same_shown (x ∷ xs) (suc n) old new is shown = ap (λ bs. bytes_at x ∷ bs) (same_shown xs n old new is shown)

-- a buffer was taken out
pub taken : (places : List Place) (s : Stored) (n b : ℕ) (old new : Place) → stored places ≡ s → n ≡ b → old ≡ get_or places n old
    → bytes_at new ≡ bytes_at old → is_out_at new ≡ true → stored (set places n new) ≡ record s { out = set s.out b true }
taken places s n b old new is num old_is shown out =
    ap (λ bs. let z : Stored = record { bytes = bs; out = map is_out_at (set places n new) } in z) (same_shown places n old new old_is shown)
    ∙ (ap (λ os. let z : Stored = record { bytes = map bytes_at places; out = os } in z) (map-set is_out_at places n new ∙ ap (set (map is_out_at places) n) out)
    ∙ (ap (λ k. let z : Stored = record { bytes = map bytes_at places; out = set (map is_out_at places) k true } in z) num
    ∙ ap (λ (t : Stored). let z : Stored = record t { out = set t.out b true } in z) is))

-- a buffer was put back
pub put_back_in : (places : List Place) (s : Stored) (n b : ℕ) (bytes : List ℕ) → stored places ≡ s → n ≡ b
    → stored (set places n (In bytes)) ≡ record { bytes = set s.bytes b bytes; out = set s.out b false }
put_back_in places s n b bytes is num =
    ap (λ bs. let z : Stored = record { bytes = bs; out = map is_out_at (set places n (In bytes)) } in z) (map-set bytes_at places n (In bytes))
    ∙ (ap (λ os. let z : Stored = record { bytes = set (map bytes_at places) n bytes; out = os } in z) (map-set is_out_at places n (In bytes))
    ∙ (ap (λ k. let z : Stored = record { bytes = set (map bytes_at places) k bytes; out = set (map is_out_at places) k false } in z) num
    ∙ ap (λ (t : Stored). let z : Stored = record { bytes = set t.bytes b bytes; out = set t.out b false } in z) is))

-- a buffer that was taken out, written and put back
pub written_so : (old out new : Stored) (b offset : ℕ) (taken_bytes now bytes : List ℕ) → slice_get old.out b ≡ Some false
    → taken_bytes ≡ bytes_of old.bytes b → out ≡ record old { out = set old.out b true } → now ≡ overwritten taken_bytes offset bytes
    → new ≡ record { bytes = set out.bytes b now; out = set out.out b false }
    → new ≡ record old { bytes = written old.bytes b offset bytes }
written_so old out new b offset taken_bytes now bytes within was left over back =
    back
    ∙ (ap (λ (t : Stored). let z : Stored = record { bytes = set t.bytes b now; out = set t.out b false } in z) left
    ∙ (ap (λ os. let z : Stored = record { bytes = set old.bytes b now; out = os } in z) (set-set old.out b true false ∙ set_same old.out b false within)
    ∙ ap (λ bs. let z : Stored = record old { bytes = set old.bytes b bs } in z) (over ∙ ap (λ (r : List ℕ). overwritten r offset bytes) was)))
