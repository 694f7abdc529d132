-- Two readbacks of one reading: the second is answered where the first was, with the same bytes.
use Rattle.std.proofs.Common.{◌≡◌, ℕ, List, [], ◌∷◌, Ok, Err, refl, sym, ap, ◌∙◌, subst}
use Rattle.drm_resv.specs.Reservation.{Reservation}
use Rattle.drm_sched.specs.Marks.{MarkedDevice}
use Rattle.drm_state.specs.Readers.{StaysHeld, BytesStay}
use Rattle.drm_state.specs.Reservation.{Fits}
use Rattle.drm_state.specs.declared.errors.ReadError.TheVariants.{Busy}
use Rattle.drm_gpu.specs.Passes.{PassState, IsGood, GrowsTo}
use Rattle.drm_gpu.specs.Reading.{ReadingState, HoldsFitting, ReadbacksAgree}

-- one reservation fits both devices
held_over : (s : ReadingState) (p : PassState) (d e : MarkedDevice) → IsGood d → IsGood e → GrowsTo d e → (f : HoldsFitting s d)
    → HoldsFitting (record s { pass = p }) e → StaysHeld s.buffer f.0 d.state e.state
held_over s p d e good_d good_e grows f g =
    let same : g.0 ≡ f.0 = the_same g.0 f.0 (sym g.1 ∙ f.1) in
    record {
      lawful_old = good_d;
      lawful_new = good_e;
      grows = grows;
      fits_old = f.2;
      fits_new = subst (Fits s.buffer e.state.journal) same g.2;
    }
  where
    the_same : (x y : Reservation) → ◌≡◌ {A = List (ℕ × Reservation)} ((s.buffer, x) ∷ []) ((s.buffer, y) ∷ []) → x ≡ y
    the_same x y is = let pair : ◌≡◌ {A = ℕ × Reservation} (s.buffer, x) (s.buffer, y) = cc (is) in ap (λ (p : ℕ × Reservation). p.1) pair

pub agree : BytesStay → ReadbacksAgree
agree stays s a b c u (Ok v) old new kept found one looked other =
    let grows : GrowsTo one.found other.found = subst (λ d. GrowsTo d other.found) (ap (λ (p : PassState). p.last) looked.1 ∙ one.event.3) other.later in
    let held = held_over s b one.found other.found one.lawful other.lawful grows one.event.4 other.event.4 in
    (refl, other.event.2 ∙ (stays.bytes s.buffer one.event.4.0 one.found.state other.found.state held one.event.1 ∙ sym one.event.2))
agree stays s a b c u (Err (Busy f)) old new kept found one looked other =
    let grows : GrowsTo one.found other.found = subst (λ d. GrowsTo d other.found) (ap (λ (p : PassState). p.last) looked.1 ∙ one.event.3) other.later in
    let held = held_over s b one.found other.found one.lawful other.lawful grows one.event.4 other.event.5 in
    absurd (other.event.1 (stays.ended s.buffer one.event.4.0 one.found.state other.found.state held one.event.1))
agree stays s a b c u (Err r) old new kept found one looked other = absurd other.event
