use Rattle.std.proofs.Common.{◌≡◌, ◌++◌, drop}
use Rattle.drm_journal.proofs.core_journal.tell_buffers.Given as goal

abbrev pub invariant-loop-number : goal.invariant-loop-number
invariant-loop-number l = l.finals.items ++ drop l.number l.store.bytes ≡ l.store.bytes
