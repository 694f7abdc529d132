-- What a submission of the tests holds after a call.
use Rattle.std.specs.Prelude.{◌≡◌, ℕ, List, [], ◌∷◌, ◌++◌}
use Rattle.drm_resv.specs.Reservation.{Reservation}
use Rattle.drm_gpu.specs.Submissions.{Submission}
use Rattle.drm_gpu_tests.specs.Pairs.{IsPair}

-- it is of the same device, a pair, with the same job, and holds these
abbrev pub HoldsNow : List (ℕ × Reservation) → Submission → Submission → Type 0
HoldsNow held old new = IsPair new.pass.gpu.spec × (new.pass.gpu ≡ old.pass.gpu) × (new.job ≡ old.job) × (new.held ≡ held)

-- and holds this buffer besides
abbrev pub HoldsMore : ℕ → Submission → Submission → Type 0
HoldsMore buffer old new = (x : Reservation) × HoldsNow (old.held ++ (buffer, x) ∷ []) old new
