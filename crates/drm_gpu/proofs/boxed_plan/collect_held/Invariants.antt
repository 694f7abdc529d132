use Rattle.std.proofs.Common.{take}
use Rattle.drm_state.specs.Collected.{IsCollected}
use Rattle.drm_state.specs.Held.{kept_of}
use Rattle.drm_gpu.proofs.boxed_plan.collect_held.Given as goal

abbrev pub invariant-loop-buffer : goal.invariant-loop-buffer
invariant-loop-buffer l = IsCollected l.fn.job (kept_of (take l.buffer-index l.held)) l.deps
