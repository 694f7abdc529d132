use Rattle.std.proofs.Common.{◌≡◌, ◌∙◌, ℕ, ◌<◌, Some, ap, subst, sym}
use Rattle.drm_state.specs.Choice.{choice}
use Rattle.drm_reason.proofs.Awaits.{none_below_chosen}
use Rattle.drm_reason.proofs.watch.Watch.first_left.Goals as goal

pub returns-then-next-self : goal.returns-then-next-self
returns-then-next-self c =
    let d = c.args.device.now.state in
    let fence = c.args.self.now.fence in
    let chosen : choice d c.args.job.now.ring ≡ Some fence = sym c.in-Some.ensures ∙ ap (λ (n : ℕ). Some n) c.if-next-self.true in
    λ i x less there.
    none_below_chosen c.choice_is_least.ensures d c.facts.ensures.steady c.args.job.now.ring fence c.args.job.now c.requires.at chosen i x
    (subst (λ (n : ℕ). i < n) c.if-next-self.true less) there
