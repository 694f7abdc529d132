-- What a turn writes depends on the bytes of the buffers that its job touches alone, and a buffer that it does not
-- write stays.
use Rattle.std.proofs.Common.{◌≡◌, ◌≢◌, ℕ, zero, suc, true, false, List, [], ◌∷◌, length, length-set, get_or, get_or-set_other, set, take, Some, refl, sym, ap, subst, ◌∙◌, inl, inr, arith, slice_get}
use Rattle.std.specs.Prelude.{Contains}
use Rattle.std.specs.List.{AllByRecursion}
use Rattle.std.proofs.lemmas.Bool.{both_ways, cases_eq}
use Rattle.std.proofs.lemmas.List.Elements.{All-contains, All-take, All-weaker, recursion_from_All}
use Rattle.std.proofs.lemmas.List.Sums.{AllPass-from_list_all}
use Rattle.drm_types.specs.declared.access.Access.{Access}
use Rattle.drm_packet.specs.declared.Packet.{Packet}
use Rattle.drm_packet.specs.Effect.{effect}
use Rattle.drm_packet.specs.Touches.{writes}
use Rattle.drm_packet.proofs.Commute.{IsWrite, cases_packet}
use Rattle.drm_job.specs.declared.Draft.{Draft}
use Rattle.drm_job.specs.Uses.{can_write, is_declared, is_writable, StaysWithin}
use Rattle.drm_job.proofs.Apart.{IsWithin, may_touch, declares_touched}
use Rattle.drm_serial.specs.Serial.{Turn, after_packets, after_turn, serial}

-- as many buffers, and in each of these the same bytes
pub record AreAlike (These : ℕ → Type 0) (m n : List (List ℕ)) : Type 0 where
  pub count : length m ≡ length n
  pub bytes : (b : ℕ) → These b → get_or m b [] ≡ get_or n b []

-- the job's packets may touch the buffer
abbrev pub Touched : Draft → ℕ → Type 0
Touched job b = (d : ℕ × Access) × Contains job.declared d × (d.0 ≡ b) × (may_touch d.1 ≡ true)

-- what is written at one place of two lists of one length
pub set_alike : {X : Type 0} (xs ys : List X) (i : ℕ) (x d : X) → length xs ≡ length ys → get_or (set xs i x) i d ≡ get_or (set ys i x) i d
set_alike [] [] i x d same = refl
set_alike [] (y ∷ ys) i x d same = absurd (omega (arith, same))
set_alike (y ∷ xs) [] i x d same = absurd (omega (arith, same))
set_alike (y ∷ xs) (z ∷ ys) zero x d same = refl
set_alike (y ∷ xs) (z ∷ ys) (suc i) x d same = set_alike xs ys i x d (omega (arith, same))

-- a packet keeps the count of the buffers
pub count-effect : (p : Packet) (m : List (List ℕ)) → length (effect p m) ≡ length m
count-effect p m =
    elim (cases_packet p) [
      | inl same ↦ ap (λ (k : List (List ℕ)). length k) (same m)
      | inr w ↦
          ap (λ (k : List (List ℕ)). length k) (w.is m)
          ∙ length-set m w.target (w.content (get_or m w.target []) (get_or m w.source []))
    ]

-- a write of a packet leaves the same where it found the same
pub write_alike : (p : Packet) (w : IsWrite p) (m n : List (List ℕ)) (b : ℕ) → length m ≡ length n → get_or m b [] ≡ get_or n b []
    → get_or m w.target [] ≡ get_or n w.target [] → get_or m w.source [] ≡ get_or n w.source []
    → get_or (effect p m) b [] ≡ get_or (effect p n) b []
write_alike p w m n b count here own other =
    let in_m : List ℕ = w.content (get_or m w.target []) (get_or m w.source []) in
    let in_n : List ℕ = w.content (get_or n w.target []) (get_or n w.source []) in
    let content : in_m ≡ in_n =
    ap (λ o. w.content o (get_or m w.source [])) own ∙ ap (λ s. w.content (get_or n w.target []) s) other in
    let sets : get_or (set m w.target in_m) b [] ≡ get_or (set n w.target in_n) b [] =
    elim (cases_eq b w.target) [
      | inl b_is ↦
          subst (λ k. get_or (set m w.target in_m) k [] ≡ get_or (set n w.target in_n) k []) (sym b_is)
          (set_alike m n w.target in_m [] count ∙ ap (λ c. get_or (set n w.target c) w.target []) content)
      | inr apart ↦
          get_or-set_other m w.target b in_m [] apart ∙ (here ∙ sym (get_or-set_other n w.target b in_n [] apart))
    ] in
    ap (λ (k : List (List ℕ)). get_or k b []) (w.is m) ∙ (sets ∙ sym (ap (λ (k : List (List ℕ)). get_or k b []) (w.is n)))

-- a packet leaves memories alike that were alike in the buffers that its job touches
pub effect_alike : (job : Draft) (p : Packet) (m n : List (List ℕ)) → IsWithin job p → AreAlike (Touched job) m n
    → AreAlike (Touched job) (effect p m) (effect p n)
effect_alike job p m n within alike = record {
  count = count-effect p m ∙ (alike.count ∙ sym (count-effect p n));
  bytes = λ b touched. elim (cases_packet p) [
    | inl same ↦
        ap (λ (k : List (List ℕ)). get_or k b []) (same m)
        ∙ (alike.bytes b touched ∙ sym (ap (λ (k : List (List ℕ)). get_or k b []) (same n)))
    | inr w ↦
        write_alike p w m n b alike.count (alike.bytes b touched)
        (alike.bytes w.target (declares_touched job p w.target within w.touches_target))
        (alike.bytes w.source (declares_touched job p w.source within w.touches_source))
  ];
}

-- a packet leaves each buffer that its job does not write
pub effect_leaves : (job : Draft) (p : Packet) (m : List (List ℕ)) (b : ℕ) → IsWithin job p → can_write job b ≡ false
    → get_or (effect p m) b [] ≡ get_or m b []
effect_leaves job p m b within none =
    elim (cases_packet p) [
      | inl same ↦ ap (λ (k : List (List ℕ)). get_or k b []) (same m)
      | inr w ↦
          let writable : can_write job w.target ≡ true =
          All-contains (λ x. can_write job x ≡ true) (writes p) w.target (AllPass-from_list_all (can_write job) (writes p) within.writable) w.writes_target in
          let apart : b ≢ w.target = λ b_is. both_ways (can_write job b) none (subst (λ t. can_write job t ≡ true) (sym b_is) writable) in
          ap (λ (k : List (List ℕ)). get_or k b []) (w.is m)
          ∙ get_or-set_other m w.target b (w.content (get_or m w.target []) (get_or m w.source [])) [] apart
    ]

packets_alike : (job : Draft) (ps : List Packet) (m n : List (List ℕ)) → AllByRecursion (IsWithin job) ps → AreAlike (Touched job) m n
    → AreAlike (Touched job) (after_packets m ps) (after_packets n ps)
packets_alike job [] m n within alike = alike
packets_alike job (p ∷ ps) m n within alike =
    packets_alike job ps (effect p m) (effect p n) within.1 (effect_alike job p m n within.0 alike)

packets_leave : (job : Draft) (ps : List Packet) (m : List (List ℕ)) (b : ℕ) → AllByRecursion (IsWithin job) ps → can_write job b ≡ false
    → get_or (after_packets m ps) b [] ≡ get_or m b []
packets_leave job [] m b within none = refl
packets_leave job (p ∷ ps) m b within none =
    packets_leave job ps (effect p m) b within.1 none ∙ effect_leaves job p m b within.0 none

packets_count : (ps : List Packet) (m : List (List ℕ)) → length (after_packets m ps) ≡ length m
packets_count [] m = refl
packets_count (p ∷ ps) m = packets_count ps (effect p m) ∙ count-effect p m

-- what a turn has run stays within its job
ran_within : (turn : Turn) → StaysWithin turn.job → AllByRecursion (IsWithin turn.job) (take turn.ran turn.job.packets)
ran_within turn within =
    let P : Packet → Type 0 = λ p. (is_declared turn.job p ≡ true) × (is_writable turn.job p ≡ true) in
    let ran : List Packet = take turn.ran turn.job.packets in
    recursion_from_All (IsWithin turn.job) ran
    (All-weaker P (IsWithin turn.job) (λ p w. record { declared = w.0; writable = w.1 }) ran (All-take P turn.ran turn.job.packets within))

-- a turn leaves memories alike that were alike in the buffers that its job touches
pub turn_alike : (turn : Turn) (m n : List (List ℕ)) → StaysWithin turn.job → AreAlike (Touched turn.job) m n
    → AreAlike (Touched turn.job) (after_turn m turn) (after_turn n turn)
turn_alike turn m n within alike = packets_alike turn.job (take turn.ran turn.job.packets) m n (ran_within turn within) alike

-- a turn leaves each buffer that its job does not write
pub turn_leaves : (turn : Turn) (m : List (List ℕ)) (b : ℕ) → StaysWithin turn.job → can_write turn.job b ≡ false
    → get_or (after_turn m turn) b [] ≡ get_or m b []
turn_leaves turn m b within none = packets_leave turn.job (take turn.ran turn.job.packets) m b (ran_within turn within) none

-- and the count of the buffers
pub turn_count : (turn : Turn) (m : List (List ℕ)) → length (after_turn m turn) ≡ length m
turn_count turn m = packets_count (take turn.ran turn.job.packets) m

-- turns leave a buffer that none of their jobs writes
pub turns_leave : (turns : List Turn) (m : List (List ℕ)) (b : ℕ)
    → ((k : ℕ) (turn : Turn) → slice_get turns k ≡ Some turn → StaysWithin turn.job × (can_write turn.job b ≡ false))
    → get_or (serial m turns) b [] ≡ get_or m b []
turns_leave [] m b each = refl
turns_leave (t ∷ ts) m b each =
    let here = each 0 t refl in
    turns_leave ts (after_turn m t) b (λ k turn is. each (suc k) turn is) ∙ turn_leaves t m b here.0 here.1
