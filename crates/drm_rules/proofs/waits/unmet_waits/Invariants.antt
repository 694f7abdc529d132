use Rattle.std.proofs.Common.{◌≡◌, ℕ, None, take}
use Rattle.std.specs.Prelude.{slice_index_or}
use Rattle.drm_rules.specs.Lines.{first_in}
use Rattle.drm_rules.specs.Rules.{unmet}
use Rattle.drm_rules.proofs.waits.unmet_waits.Given as goal

abbrev pub invariant-loop-event : goal.invariant-loop-event
invariant-loop-event l =
    (job : ℕ) → slice_index_or l.waits.items job None ≡ first_in (unmet l.tolerance l.index) (take l.event-index l.log) job
