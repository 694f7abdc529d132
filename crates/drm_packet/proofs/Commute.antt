-- Packets that write nothing that the other touches commute.
use Rattle.std.proofs.Common.{◌≡◌, ◌≢◌, ℕ, ◌+◌, List, [], get_or, set, replicate, refl, sym, ap, subst, ◌∙◌, inl, inr, ◌⊎◌, arith, slice_range}
use Rattle.std.specs.Prelude.{Contains}
use Rattle.std.proofs.lemmas.List.{set_comm, get_or-set_other}
use Rattle.drm_packet.specs.declared.Packet.{Packet}
use Rattle.drm_packet.specs.declared.Packet.TheVariants.{Fill, Copy, Add, Stall}
use Rattle.drm_buffer.specs.Memory.{overwritten, sums}
use Rattle.drm_packet.specs.Effect.{effect}
use Rattle.drm_packet.specs.Touches.{writes, touches, AreApart}

-- a packet that writes one buffer by what stands in it and in another
pub record IsWrite (packet : Packet) : Type 0 where
  pub target : ℕ
  pub source : ℕ
  pub content : List ℕ → List ℕ → List ℕ
  pub is : (m : List (List ℕ)) → effect packet m ≡ set m target (content (get_or m target []) (get_or m source []))
  pub writes_target : Contains (writes packet) target
  pub touches_target : Contains (touches packet) target
  pub touches_source : Contains (touches packet) source

-- each packet changes nothing, or is a write
pub cases_packet : (packet : Packet) → ((m : List (List ℕ)) → effect packet m ≡ m) ⊎ IsWrite packet
cases_packet (Fill buffer offset len byte) = inr (record {
  target = buffer;
  source = buffer;
  content = λ own other. overwritten own offset (replicate len byte);
  is = λ m. refl;
  writes_target = (0, omega arith, refl);
  touches_target = (0, omega arith, refl);
  touches_source = (0, omega arith, refl);
})
cases_packet (Copy source source_offset target target_offset len) = inr (record {
  target = target;
  source = source;
  content = λ own other. overwritten own target_offset (slice_range other source_offset (source_offset + len));
  is = λ m. refl;
  writes_target = (0, omega arith, refl);
  touches_target = (1, omega arith, refl);
  touches_source = (0, omega arith, refl);
})
cases_packet (Add source source_offset target target_offset len) = inr (record {
  target = target;
  source = source;
  content = λ own other.
      overwritten own target_offset (sums (slice_range own target_offset (target_offset + len)) (slice_range other source_offset (source_offset + len)));
  is = λ m. refl;
  writes_target = (0, omega arith, refl);
  touches_target = (1, omega arith, refl);
  touches_source = (0, omega arith, refl);
})
cases_packet (Stall resets) = inl (λ m. refl)

-- two writes at places apart commute
pub writes_commute : {X : Type 0} (d : X) (f g : X → X → X) (s t u v : ℕ) (m : List X) → s ≢ u → s ≢ v → u ≢ t
    → set (set m u (g (get_or m u d) (get_or m v d))) s (f (get_or (set m u (g (get_or m u d) (get_or m v d))) s d) (get_or (set m u (g (get_or m u d) (get_or m v d))) t d))
    ≡ set (set m s (f (get_or m s d) (get_or m t d))) u (g (get_or (set m s (f (get_or m s d) (get_or m t d))) u d) (get_or (set m s (f (get_or m s d) (get_or m t d))) v d))
writes_commute d f g s t u v m su sv ut =
    let ts : t ≢ u = λ e. ut (sym e) in
    let us : u ≢ s = λ e. su (sym e) in
    let vs : v ≢ s = λ e. sv (sym e) in
    let a = get_or-set_other m u s (g (get_or m u d) (get_or m v d)) d su in
    let b = get_or-set_other m u t (g (get_or m u d) (get_or m v d)) d ts in
    let c = get_or-set_other m s u (f (get_or m s d) (get_or m t d)) d us in
    let e = get_or-set_other m s v (f (get_or m s d) (get_or m t d)) d vs in
    rw (a, b, c, e) (set_comm m u s (g (get_or m u d) (get_or m v d)) (f (get_or m s d) (get_or m t d)) us)

-- packets that write nothing that the other touches commute
pub packets_commute : (p q : Packet) → AreApart p q → (m : List (List ℕ)) → effect p (effect q m) ≡ effect q (effect p m)
packets_commute p q apart m =
    elim (cases_packet p) [
      | inl same ↦ same (effect q m) ∙ sym (ap (effect q) (same m))
      | inr w ↦ elim (cases_packet q) [
        | inl same ↦ ap (effect p) (same m) ∙ sym (same (effect p m))
        | inr x ↦
            let tx : w.target ≢ x.target = λ e. apart.first w.target w.writes_target (subst (Contains (touches q)) (sym e) x.touches_target) in
            let ts : w.target ≢ x.source = λ e. apart.first w.target w.writes_target (subst (Contains (touches q)) (sym e) x.touches_source) in
            let xs : x.target ≢ w.source = λ e. apart.second x.target x.writes_target (subst (Contains (touches p)) (sym e) w.touches_source) in
            let both = writes_commute [] w.content x.content w.target w.source x.target x.source m tx ts xs in
            (w.is (effect q m) ∙ ap (λ (n : List (List ℕ)). set n w.target (w.content (get_or n w.target []) (get_or n w.source []))) (x.is m))
            ∙ (both
            ∙ sym
            (x.is (effect p m)
            ∙ ap (λ (n : List (List ℕ)). set n x.target (x.content (get_or n x.target []) (get_or n x.source []))) (w.is m)))
      ]
    ]
