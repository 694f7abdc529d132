use Rattle.std.proofs.Common.{◌≡◌, drop}
use Rattle.drm_state.specs.Plans.{all_named}
use Rattle.drm_state.proofs.arming.note_named.Given as goal

abbrev pub invariant-loop-fence : goal.invariant-loop-fence
invariant-loop-fence l = all_named l.journal l.deps (drop l.fence-index l.after) ≡ all_named l.journal l.fn.deps l.after
