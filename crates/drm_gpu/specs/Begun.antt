-- What comes back where a submission or a readback did not begin.
use Rattle.std.specs.Prelude.{◌≡◌, true}
use Rattle.drm_job.specs.declared.Draft.{Draft}
use Rattle.drm_gpu.specs.declared.locking.BeginError.{BeginError}
use Rattle.drm_gpu.specs.declared.locking.BeginError.TheVariants.{Memory, TicketsOut}
use Rattle.drm_gpu.specs.declared.locking.BeginReadError.{BeginReadError}
use Rattle.drm_gpu.specs.declared.locking.BeginReadError.TheVariants as read
use Rattle.drm_gpu.specs.Passes.{PassState}

-- the pass comes back as it was, or knows that all tickets are drawn
abbrev pub IsBack : PassState → Draft → BeginError → Type 0
IsBack pass job (Memory p j) = (p ≡ pass) × (j ≡ job)
IsBack pass job (TicketsOut p j) = (p ≡ record pass { tickets_out = true }) × (j ≡ job)

abbrev pub IsBackFromRead : PassState → BeginReadError → Type 0
IsBackFromRead pass (read.Memory p) = p ≡ pass
IsBackFromRead pass (read.TicketsOut p) = p ≡ record pass { tickets_out = true }
