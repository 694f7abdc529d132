-- What is out of a device's memory is what its marks keep out: before a packet goes out, after it went, and when it is
-- back.
use Rattle.std.proofs.Common.{◌≡◌, ℕ, ◌<◌, Bool, true, false, ◌==◌, List, length, Some, None, Option, refl, sym, ap, subst, ◌∙◌, slice_get}
use Rattle.std.specs.Option.{option_map_or}
use Rattle.std.specs.List.{list_any}
use Rattle.std.specs.Prelude.{Contains}
use Rattle.std.proofs.lemmas.Bool.{both_ways, eqb-true}
use Rattle.std.proofs.lemmas.List.Folds.{Any-from_list_any}
use Rattle.drm_lists.proofs.Places.{place_of}
use Rattle.drm_buffer.specs.Stored.{Stored, is_out_of}
use Rattle.drm_job.proofs.Apart.{any_from}
use Rattle.drm_packet.specs.declared.Packet.{Packet}
use Rattle.drm_packet.specs.Touches.{touches}
use Rattle.drm_sched.specs.declared.parts.Parts.{Parts}
use Rattle.drm_sched.specs.Marks.{Mark, MarkedDevice, mark_of, out_by, is_out, buffer_out}
use Rattle.drm_sched.specs.Parts.{marked_of, HasOut, IsWholeMarked}
use Rattle.drm_table.specs.Outside.{next_asks_out}
use Rattle.drm_state.specs.Outcomes.{next_packet}
use Rattle.drm_state.specs.Ring.{current_of}
use Rattle.drm_table.specs.Tables.{state_of, NextIsIn}
use Rattle.drm_table.proofs.Stored.{next_there, same_count}
use Rattle.drm_sched.proofs.MarksKept.{is_out_at}

-- what passes in a list that has something that passes
pub any_there : {X : Type 0} (p : X → Bool) (xs : List X) → list_any p xs ≡ true → (x : X) × Contains xs x × (p x ≡ true)
any_there p xs is = let a = Any-from_list_any p xs is in (a.1, (a.0, a.2, a.3), a.4)

-- the mark that keeps a buffer out
pub kept_out_by : (d : MarkedDevice) (b : ℕ) → is_out d b ≡ true → (ring : ℕ) × (m : Mark) × (mark_of d ring ≡ Some m) × Contains (out_by d.state.journal (Some m)) b
kept_out_by d b is =
    let a = any_there (λ m. list_any (λ x. x == b) (out_by d.state.journal m)) d.marks is in by_mark a.0 a.1 a.2
  where
    by_mark : (o : Option Mark) → Contains d.marks o → list_any (λ x. x == b) (out_by d.state.journal o) ≡ true
        → (ring : ℕ) × (m : Mark) × (mark_of d ring ≡ Some m) × Contains (out_by d.state.journal (Some m)) b
    by_mark None there some = let never : false ≡ true = some in absurd (cc (never))
    by_mark (Some m) there some =
        let place = place_of d.marks (Some m) there in
        let x = any_there (λ x. x == b) (out_by d.state.journal (Some m)) some in
        (place.0, m, ap (λ o. option_map_or (λ z. z) o None) place.1, subst (Contains (out_by d.state.journal (Some m))) (eqb-true x.0 b x.2) x.1)

-- the memory and the marks agree on each buffer that is there
pub out_agrees : (d : MarkedDevice) (s : Stored) (b : ℕ) → HasOut d s.out → b < length d.state.spec.buffers → is_out_of s b ≡ is_out d b
out_agrees d s b has lt =
    elim (is_out d b) as (λ x. is_out d b ≡ x → is_out_of s b ≡ x) [
      | true ↦ λ is. let k = kept_out_by d b is in ap (λ o. option_map_or (λ z. z) o false) (has.outside k.0 k.1 k.2 b k.3)
      | false ↦ λ is.
          ap (λ o. option_map_or (λ z. z) o false)
          (has.inside b lt (λ ring m at c. both_ways (is_out d b) is (is_out_at d ring b m at c)))
    ] refl

-- a buffer that no mark keeps out is in the memory
pub is_inside : (d : Parts) (b : ℕ) → IsWholeMarked d → b < length d.table.memory.bytes → is_out (marked_of d) b ≡ false
    → slice_get d.table.memory.out b ≡ Some false
is_inside d b w there free =
    w.out.inside b (subst (λ n. b < n) (same_count d.table w.table) there)
    (λ ring m at c. both_ways (is_out (marked_of d) b) free (is_out_at (marked_of d) ring b m at c))

-- what the memory says of a buffer is what the marks say
pub says_out : (d : Parts) (b : ℕ) → IsWholeMarked d → b < length d.table.memory.bytes → is_out_of d.table.memory b ≡ is_out (marked_of d) b
says_out d b w there = out_agrees (marked_of d) d.table.memory b w.out (subst (λ n. b < n) (same_count d.table w.table) there)

any_agree : (p q : ℕ → Bool) (xs : List ℕ) → ((b : ℕ) → Contains xs b → p b ≡ q b) → list_any p xs ≡ list_any q xs
any_agree p q xs same =
    elim (list_any q xs) as (λ x. list_any q xs ≡ x → list_any p xs ≡ x) [
      | true ↦ λ is. let a = any_there q xs is in any_from p xs a.0 a.1 (same a.0 a.1 ∙ a.2)
      | false ↦ λ is.
          elim (list_any p xs) as (λ y. list_any p xs ≡ y → y ≡ false) [
            | true ↦ λ some. let a = any_there p xs some in absurd (both_ways (list_any q xs) is (any_from q xs a.0 a.1 (sym (same a.0 a.1) ∙ a.2)))
            | false ↦ λ none. refl
          ] refl
    ] refl

-- a buffer of the ring's next packet is out of the memory exactly where a mark keeps it out
pub asks_is : (d : Parts) (ring : ℕ) → IsWholeMarked d → ring < length d.table.spec.rings → next_asks_out d.table ring ≡ buffer_out (marked_of d) ring
asks_is d ring w there = by_current (current_of (state_of d.table) ring) refl
  where
    by_packet : (f : ℕ) → current_of (state_of d.table) ring ≡ Some f → (o : Option Packet) → next_packet d.table.journal.items f ≡ o
        → option_map_or (λ p. list_any (is_out_of d.table.memory) (touches p)) o false ≡ option_map_or (λ p. list_any (is_out (marked_of d)) (touches p)) o false
    by_packet f is None none = refl
    by_packet f is (Some p) next =
        any_agree (is_out_of d.table.memory) (is_out (marked_of d)) (touches p)
        (λ b touched. out_agrees (marked_of d) d.table.memory b w.out (next_there d.table ring f p w.table there (is, next) b touched))

    by_current : (o : Option ℕ) → current_of (state_of d.table) ring ≡ o
        → option_map_or (λ f. option_map_or (λ p. list_any (is_out_of d.table.memory) (touches p)) (next_packet d.table.journal.items f) false) o false
        ≡ option_map_or (λ f. option_map_or (λ p. list_any (is_out (marked_of d)) (touches p)) (next_packet d.table.journal.items f) false) o false
    by_current None is = refl
    by_current (Some f) is = by_packet f is (next_packet d.table.journal.items f) refl

-- where none is, a step finds its buffers
pub next_is_in : (d : Parts) (ring : ℕ) → IsWholeMarked d → ring < length d.table.spec.rings → next_asks_out d.table ring ≡ false → NextIsIn d.table ring
next_is_in d ring w there free f p is next b touched =
    w.out.inside b (next_there d.table ring f p w.table there (is, next) b touched) (λ k m at c.
    let asks : buffer_out (marked_of d) ring ≡ true =
    ap (λ o. option_map_or (λ g. option_map_or (λ q. list_any (is_out (marked_of d)) (touches q)) (next_packet d.table.journal.items g) false) o false) is
    ∙ (ap (λ o. option_map_or (λ q. list_any (is_out (marked_of d)) (touches q)) o false) next
    ∙ any_from (is_out (marked_of d)) (touches p) b touched (is_out_at (marked_of d) k b m at c)) in
    both_ways (next_asks_out d.table ring) free (asks_is d ring w there ∙ asks))
