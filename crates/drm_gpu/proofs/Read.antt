-- What a readback tells.
use Rattle.std.proofs.Common.{◌≡◌, ℕ, List, length, false, refl, sym, ap, ◌∙◌, Some, None, Option, Result, Ok, Err}
use Rattle.std.specs.Prelude.{OnOk, IfErr, option_map}
use Rattle.std.proofs.lemmas.List.{length-map}
use Rattle.drm_buffer.specs.Memory.{bytes_of, sizes_of}
use Rattle.drm_resv.specs.Reservation.{Reservation}
use Rattle.drm_state.specs.declared.answer.Refusal.TheVariants as refusal
use Rattle.drm_state.specs.declared.errors.ReadError.{ReadError}
use Rattle.drm_state.specs.declared.errors.ReadError.TheVariants.{Busy}
use Rattle.drm_state.specs.Errors.{refusal_of_read}
use Rattle.drm_sched.specs.Begun.{out_or}
use Rattle.drm_state.specs.Writers.{HaveEnded}
use Rattle.drm_sched.specs.Marks.{MarkedDevice, is_out}
use Rattle.drm_state.specs.Refusals.{busy_fence}
use Rattle.ww_lock.specs.Rule.{In}
use Rattle.drm_gpu.specs.Reading.{ReadingState, HoldsFitting, ReadIs}
use Rattle.drm_gpu.proofs.Packets.{not_out}

pub count_by_sizes : (memory other : List (List ℕ)) → sizes_of memory ≡ sizes_of other → length memory ≡ length other
count_by_sizes memory other same = sym (length-map memory length) ∙ (ap length same ∙ length-map other length)

module _ (s : ReadingState) (x : Reservation) (has : In (s.buffer, x) s.held) (old new : List ℕ) (d : MarkedDevice) (free : is_out d s.buffer ≡ false) (fits : HoldsFitting s d) where
  refused : (busy : Option ℕ) (r : ReadError) → busy_fence d.state.journal x ≡ busy → option_map refusal.Busy busy ≡ Some (refusal_of_read r) → new ≡ old → (HaveEnded s.buffer d.state.journal → ⊥) → ReadIs s (Err r) old new d d
  refused (Some f) (Busy g) at why same going = let e : f ≡ g = cc (why) in (free, going, (x, has, at ∙ ap Some e), same, refl, fits)
  refused busy r at why same going = absurd (cc (why))

  pub read_is : (r : Result (Unit {0}) ReadError) → OnOk r ((is_out d s.buffer ≡ false) × (busy_fence d.state.journal x ≡ None) × (new ≡ bytes_of d.state.memory s.buffer)) → OnOk r (HaveEnded s.buffer d.state.journal)
      → IfErr r (λ r. (out_or (is_out d s.buffer) (option_map refusal.Busy (busy_fence d.state.journal x)) ≡ Some (refusal_of_read r)) × (new ≡ old))
      → IfErr r (λ r. is_out d s.buffer ≡ false → HaveEnded s.buffer d.state.journal → ⊥) → ReadIs s r old new d d
  read_is (Ok u) read writers busy writing = (read.0, writers, read.2, refl, fits)
  read_is (Err r) read writers busy writing =
      refused (busy_fence d.state.journal x) r refl (not_out (is_out d s.buffer) (option_map refusal.Busy (busy_fence d.state.journal x)) (Some (refusal_of_read r)) free busy.0) busy.1 (writing free)
