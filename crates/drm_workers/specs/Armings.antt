-- What one step more of a worker has armed.
use Rattle.std.specs.Prelude.{◌≡◌, ℕ, List, [], ◌∷◌, ◌++◌, Result, Ok, Err}
use Rattle.drm_job.specs.declared.Draft.{Draft}
use Rattle.drm_gpu.specs.Passes.{GrowsTo, PassState}
use Rattle.drm_workers.specs.Numbers.{armings}
use Rattle.drm_workers.specs.Jobs.{JobAt}

-- the pass is of the same device, of which it has the same part, and has armed nothing more
abbrev pub ArmsNoMore : PassState → PassState → Type 0
ArmsNoMore old new = (new.gpu ≡ old.gpu) × (armings new.calls ≡ armings old.calls) × (new.part ≡ old.part)

-- the pass is of the same device, of which it has the same part, has seen what came of that which it saw, and has
-- armed these numbers more
pub record HasArmed (numbers : List ℕ) (old new : PassState) : Type 0 where
  pub gpu : new.gpu ≡ old.gpu
  pub later : GrowsTo old.last new.last
  pub armed : armings new.calls ≡ armings old.calls ++ numbers
  pub part : new.part ≡ old.part

-- a submission is done: the job is armed under this number. Or the pass came back, and nothing is armed
abbrev pub Submits : PassState → Draft → Result (PassState × ℕ) PassState → Type 0
Submits old job (Ok r) = HasArmed (r.1 ∷ []) old r.0 × JobAt r.0.last.state.journal r.1 job
Submits old job (Err p) = HasArmed [] old p
