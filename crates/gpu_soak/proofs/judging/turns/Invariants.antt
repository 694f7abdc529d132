use Rattle.std.proofs.Common.{◌≡◌, take}
use Rattle.drm_state.specs.Journal.{turns}
use Rattle.gpu_soak.proofs.judging.turns.Given as goal

abbrev pub invariant-loop-record : goal.invariant-loop-record
invariant-loop-record l = l.turns.items ≡ turns (take l.record-index l.records)
