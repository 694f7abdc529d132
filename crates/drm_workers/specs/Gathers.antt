-- What the passes of all workers come to when they are joined.
use Rattle.std.specs.Prelude.{◌≡◌, ℕ, List, [], ◌∷◌, ◌++◌, IsPermutation}
use Rattle.ww_lock.specs.Rule.{In}
use Rattle.drm_gpu.specs.Passes.{GpuState, GrowsTo, PassState}
use Rattle.drm_workers.specs.Numbers.{IsOrdered, armings}
use Rattle.drm_workers.specs.Reports.{all_items}
use Rattle.drm_workers.specs.declared.work.Done.{Done}

-- the parts of the device that workers had
abbrev pub shares_of : List Done → List ℕ
shares_of [] = []
shares_of (done ∷ dones) = done.pass.part ++ shares_of dones

-- the pass of this device saw what came of that which each worker saw, has armed the numbers that they tell, and has
-- their parts of the device beside its own
pub record Gathers (gpu : GpuState) (own : List ℕ) (dones : List Done) (pass : PassState) : Type 0 where
  pub device : pass.gpu ≡ gpu
  pub part : pass.part ≡ own ++ shares_of dones
  pub ordered : IsOrdered pass
  pub armed : IsPermutation (armings pass.calls) (all_items (λ d. d.armed.items) dones)
  pub later : (d : Done) → In d dones → GrowsTo d.pass.last pass.last
