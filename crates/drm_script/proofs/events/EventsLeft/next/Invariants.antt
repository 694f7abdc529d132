use Rattle.std.proofs.Common.{◌≡◌, ◌++◌, length}
use Rattle.std.specs.Option.{option_to_list}
use Rattle.drm_script.specs.Chunks.{all_of}
use Rattle.drm_script.proofs.events.EventsLeft.next.Given as goal

abbrev pub invariant-loop-self : goal.invariant-loop-self
invariant-loop-self l = all_of (option_to_list l.self-inside.first ++ l.self-inside.chunks) ≡ l.fn.self

abbrev pub decreases-loop-self : goal.decreases-loop-self
decreases-loop-self l = length l.self-inside.chunks
