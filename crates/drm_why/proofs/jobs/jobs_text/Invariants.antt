use Rattle.std.proofs.Common.{◌≡◌, ◌++◌, drop}
use Rattle.std.specs.Prelude.{flat_map}
use Rattle.drm_state.specs.Journal.{numbered}
use Rattle.drm_why.specs.Chains.{link_of}
use Rattle.drm_why.specs.Lines.{line_of_link}
use Rattle.drm_why.proofs.jobs.jobs_text.Given as goal

abbrev pub invariant-loop-number : goal.invariant-loop-number
invariant-loop-number l =
    l.out.items ++ flat_map (λ n. line_of_link (link_of l.device.state n.0)) (drop l.number (numbered l.device.state.journal))
    ≡ flat_map (λ n. line_of_link (link_of l.device.state n.0)) (numbered l.device.state.journal)
