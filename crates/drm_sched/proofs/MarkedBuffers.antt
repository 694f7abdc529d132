-- What is out of the memory stays what the marks keep out, when a packet goes out and when it comes back.
use Rattle.std.proofs.Common.{◌≡◌, ◌≢◌, ℕ, zero, suc, ◌<◌, Bool, true, false, cond, ◌==◌, List, length, Some, None, Option, refl, sym, ap, subst, ◌∙◌, inl, inr, ◌⊎◌, arith, slice_get}
use Rattle.std.specs.Option.{option_map_or}
use Rattle.std.specs.Prelude.{Contains}
use Rattle.std.proofs.lemmas.Bool.{eqb-true, cases_eq}
use Rattle.drm_lists.proofs.Places.{stands_within}
use Rattle.drm_lists.proofs.Changed.{get_set_same, get_set_other}
use Rattle.drm_buffer.specs.Stored.{set_out}
use Rattle.drm_packet.specs.declared.Packet.{Packet}
use Rattle.drm_packet.specs.declared.Packet.TheVariants.{Fill, Copy, Add, Stall}
use Rattle.drm_packet.specs.Touches.{touches}
use Rattle.drm_packet.specs.Parts.{target_of, source_of}
use Rattle.drm_packet.proofs.InStores.{apart_buffers, target_touched, source_touched, set_out_other}
use Rattle.drm_sched.specs.Marks.{Mark, MarkedDevice, mark_of, out_by, begun_device}
use Rattle.drm_sched.specs.Parts.{HasOut}

-- what a packet touches it writes or reads
touched_cases : (p : Packet) (b : ℕ) → Contains (touches p) b → (target_of p ≡ Some b) ⊎ (source_of p ≡ Some b)
touched_cases (Fill buffer offset len byte) b (zero, lt, at) = inl (ap (λ x. Some x) at)
touched_cases (Fill buffer offset len byte) b (suc k, lt, at) = absurd (omega (arith, lt))
touched_cases (Copy source from target to len) b (zero, lt, at) =
    elim (source == target) as (λ e. (source == target) ≡ e → (Some target ≡ Some b) ⊎ (cond e None (Some source) ≡ Some b)) [
      | true ↦ λ same. inl (ap (λ x. Some x) (sym (eqb-true source target same) ∙ at))
      | false ↦ λ other. inr (ap (λ x. Some x) at)
    ] refl
touched_cases (Copy source from target to len) b (suc zero, lt, at) = inl (ap (λ x. Some x) at)
touched_cases (Copy source from target to len) b (suc (suc k), lt, at) = absurd (omega (arith, lt))
touched_cases (Add source from target to len) b (zero, lt, at) =
    elim (source == target) as (λ e. (source == target) ≡ e → (Some target ≡ Some b) ⊎ (cond e None (Some source) ≡ Some b)) [
      | true ↦ λ same. inl (ap (λ x. Some x) (sym (eqb-true source target same) ∙ at))
      | false ↦ λ other. inr (ap (λ x. Some x) at)
    ] refl
touched_cases (Add source from target to len) b (suc zero, lt, at) = inl (ap (λ x. Some x) at)
touched_cases (Add source from target to len) b (suc (suc zero), lt, at) = inl (ap (λ x. Some x) at)
touched_cases (Add source from target to len) b (suc (suc (suc k)), lt, at) = absurd (omega (arith, lt))
touched_cases (Stall resets) b (k, lt, at) = absurd (omega (arith, lt))

-- the marks after a packet's buffers were marked
abbrev pub set_both : List Bool → Packet → Bool → List Bool
set_both out p x = set_out (set_out out (target_of p) x) (source_of p) x

pub set_touched : (out : List Bool) (p : Packet) (b : ℕ) (x y : Bool) → Contains (touches p) b → slice_get out b ≡ Some y → slice_get (set_both out p x) b ≡ Some x
set_touched out p b x y touched at =
    elim (touched_cases p b touched) [
      | inl is_t ↦
          set_out_other (set_out out (target_of p) x) (source_of p) b x (λ s is_s e. apart_buffers p b s is_t is_s (sym e))
          ∙ (ap (λ o. slice_get (set_out out o x) b) is_t ∙ get_set_same out b y x at)
      | inr is_s ↦
          ap (λ o. slice_get (set_out (set_out out (target_of p) x) o x) b) is_s
          ∙ get_set_same (set_out out (target_of p) x) b y x (set_out_other out (target_of p) b x (λ t is_t. apart_buffers p t b is_t is_s) ∙ at)
    ]

pub set_untouched : (out : List Bool) (p : Packet) (b : ℕ) (x : Bool) → (Contains (touches p) b → ⊥) → slice_get (set_both out p x) b ≡ slice_get out b
set_untouched out p b x apart =
    set_out_other (set_out out (target_of p) x) (source_of p) b x (λ s is_s e. apart (source_touched p b (is_s ∙ ap (λ z. Some z) (sym e))))
    ∙ set_out_other out (target_of p) b x (λ t is_t e. apart (target_touched p b (is_t ∙ ap (λ z. Some z) (sym e))))

-- a packet went out, of which nothing was
pub begun_out : (d : MarkedDevice) (ring : ℕ) (m : Mark) (p : Packet) (out : List Bool) → HasOut d out → ring < length d.marks → mark_of d ring ≡ None
    → out_by d.state.journal (Some m) ≡ touches p → ((b : ℕ) → Contains (touches p) b → slice_get out b ≡ Some false) → HasOut (begun_device d ring m) (set_both out p true)
begun_out d ring m p out has here none same free =
    let new = begun_device d ring m in
    let old = stands_within d.marks ring here in
    let mine : mark_of new ring ≡ Some m =
    ap (λ (o : Option (Option Mark)). option_map_or (λ x. x) o None) (get_set_same d.marks ring old.0 (Some m) old.1) in
    let others : (k : ℕ) → k ≢ ring → mark_of new k ≡ mark_of d k =
    λ k other. ap (λ (o : Option (Option Mark)). option_map_or (λ x. x) o None) (get_set_other d.marks ring k (Some m) other) in
    let away : (k : ℕ) (n : Mark) → mark_of d k ≡ Some n → k ≢ ring =
    λ k n is e. (let never : None ≡ Some n = sym none ∙ (ap (mark_of d) (sym e) ∙ is) in cc (never)) in
    record {
      outside = λ k n is b c.
          elim (cases_eq k ring) [
            | inl k_is ↦
                let it : n ≡ m = (let e : Some m ≡ Some n = sym mine ∙ (ap (mark_of new) (sym k_is) ∙ is) in cc (e)) in
                let touched : Contains (touches p) b = subst (λ (bs : List ℕ). Contains bs b) same (subst (λ z. Contains (out_by d.state.journal (Some z)) b) it c) in
                set_touched out p b true false touched (free b touched)
            | inr other ↦
                let was = has.outside k n (sym (others k other) ∙ is) b c in
                set_untouched out p b true (λ touched. (let never : Some false ≡ Some true = sym (free b touched) ∙ was in cc (never))) ∙ was
          ];
      inside = λ b lt kept.
          set_untouched out p b true (λ touched. kept ring m mine (subst (λ (bs : List ℕ). Contains bs b) (sym same) touched))
          ∙ has.inside b lt (λ k n is c. kept k n (others k (away k n is) ∙ is) c);
    }
