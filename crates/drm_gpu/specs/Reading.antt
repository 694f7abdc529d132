-- A readback.
use Rattle.std.specs.Prelude.{◌≡◌, ℕ, List, [], ◌∷◌, ◌++◌, false, Some, Result, Ok, Err}
use Rattle.drm_buffer.specs.Memory.{bytes_of}
use Rattle.drm_resv.specs.Reservation.{Reservation}
use Rattle.drm_state.specs.declared.errors.ReadError.{ReadError}
use Rattle.drm_state.specs.declared.errors.ReadError.TheVariants.{Busy}
use Rattle.drm_state.specs.Writers.{HaveEnded}
use Rattle.drm_sched.specs.Marks.{MarkedDevice, is_out}
use Rattle.drm_state.specs.Refusals.{busy_fence}
use Rattle.drm_state.specs.Reservation.{Fits}
use Rattle.ww_lock.specs.Rule.{In}
use Rattle.drm_gpu.specs.Passes.{Calls, PassState}

-- a pass that reads a buffer, and the reservation that it holds for it
pub record ReadingState : Type 0 where
  pub pass : PassState
  pub buffer : ℕ
  pub held : List (ℕ × Reservation)

-- the reservation of the buffer is held, and no other, and it fits the device
abbrev pub HoldsFitting : ReadingState → MarkedDevice → Type 0
HoldsFitting s d = (x : Reservation) × (s.held ≡ (s.buffer, x) ∷ []) × Fits s.buffer d.state.journal x

-- what a readback answers and writes, where it found this device: the buffer's bytes once all armed writers have ended.
-- It is refused by the least fence without outcome among the reservation's entries of WRITE and stronger. Either way
-- the reservation that is held fits the device
abbrev pub ReadIs : ReadingState → Result (Unit {0}) ReadError → List ℕ → List ℕ → MarkedDevice → MarkedDevice → Type 0
ReadIs s (Ok u) old new d e = (is_out d s.buffer ≡ false) × HaveEnded s.buffer d.state.journal × (new ≡ bytes_of d.state.memory s.buffer) × (e ≡ d) × HoldsFitting s d
ReadIs s (Err (Busy f)) old new d e =
    (is_out d s.buffer ≡ false) × (HaveEnded s.buffer d.state.journal → ⊥)
    × ((x : Reservation) × In (s.buffer, x) s.held × (busy_fence d.state.journal x ≡ Some f)) × (new ≡ old) × (e ≡ d) × HoldsFitting s d
ReadIs s (Err r) old new d e = ⊥

-- the pass has only looked at fences since
abbrev pub HasOnlyLooked : PassState → PassState → Type 0
HasOnlyLooked old new = (more : List (ℕ × ℕ)) × (new ≡ record old { looked = old.looked ++ more })

-- once a readback was answered, the next of the same reading is too, with the same bytes, whatever fences its pass
-- looked at between
abbrev pub ReadbacksAgree : Type 0
ReadbacksAgree =
    (s : ReadingState) (a b c : PassState) (u : Unit {0}) (r : Result (Unit {0}) ReadError) (old new kept found : List ℕ)
    → Calls (ReadIs s (Ok u) old new) s.pass a → HasOnlyLooked a b → Calls (ReadIs (record s { pass = b }) r kept found) b c → (r ≡ Ok u) × (found ≡ new)
