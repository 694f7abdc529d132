-- A device that was just opened has nothing out.
use Rattle.std.proofs.Common.{◌≡◌, ℕ, zero, suc, map, length, replicate, Some, None, Option, sym, ap, ◌∙◌, refl, slice_get}
use Rattle.std.specs.Option.{option_map_or}
use Rattle.std.specs.Prelude.{option_map}
use Rattle.std.proofs.lemmas.List.{length-map, length-replicate}
use Rattle.drm_lists.proofs.Places.{map_to_same}
use Rattle.drm_sched.specs.declared.parts.Parts.{Parts}
use Rattle.drm_sched.specs.Marks.{Mark, MarkedDevice, mark_of, unmarked}
use Rattle.drm_sched.specs.Parts.{mark_of_row, marked_of, IsWholeMarked}
use Rattle.drm_state.specs.Rows.{ring_state_of}
use Rattle.drm_table.specs.Tables.{state_of, IsWhole, AllIn}
use Rattle.drm_table.proofs.Blanks.{map_same}

-- a device of whose rings none is marked
pub blank_marks : (d : Parts) → d.marks.items ≡ replicate (length d.table.rings) None → marked_of d ≡ unmarked (state_of d.table)
blank_marks d marks =
    let rings = d.table.rings in
    ap (λ ms. let z : MarkedDevice = record { state = state_of d.table; marks = ms } in z)
    (ap (map (option_map mark_of_row)) marks
    ∙ (map_same (option_map mark_of_row) (length rings) None
    ∙ (ap (λ n. replicate n None) (sym (length-map rings ring_state_of)) ∙ sym (map_to_same None (map ring_state_of rings)))))

no_mark : (n ring : ℕ) → option_map_or (λ (o : Option Mark). o) (slice_get (replicate n None) ring) None ≡ None
no_mark zero ring = refl
no_mark (suc n) zero = refl
no_mark (suc n) (suc ring) = no_mark n ring

pub blank_marked : (d : Parts) → d.marks.items ≡ replicate (length d.table.rings) None → IsWhole d.table → AllIn d.table → IsWholeMarked d
blank_marked d marks whole inside = record {
  table = whole;
  steady = record {
    state = whole.steady;
    count = count ∙ (length-replicate (length d.table.rings) None ∙ (sym (length-map d.table.rings ring_state_of) ∙ whole.steady.lawful.ring_count));
    out = λ ring m is. absurd (never ring m is);
    apart = λ i j m n other is_m is_n b in_m in_n. absurd (never i m is_m);
  };
  out = record {
    outside = λ ring m is b in_m. absurd (never ring m is);
    inside = λ b lt none. inside b lt;
  };
}
  where
    rows : (marked_of d).marks ≡ replicate (length d.table.rings) None
    rows = ap (map (option_map mark_of_row)) marks ∙ map_same (option_map mark_of_row) (length d.table.rings) None

    count : length (marked_of d).marks ≡ length (replicate {A = Option Mark} (length d.table.rings) None)
    count = ap length rows

    never : (ring : ℕ) (m : Mark) → mark_of (marked_of d) ring ≡ Some m → ⊥
    never ring m is =
        let none : mark_of (marked_of d) ring ≡ None = ap (λ ms. option_map_or (λ o. o) (slice_get ms ring) None) rows ∙ no_mark (length d.table.rings) ring in
        let clash : None ≡ Some m = sym none ∙ is in
        cc (clash)
