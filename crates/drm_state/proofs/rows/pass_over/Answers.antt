use Rattle.std.proofs.Common.{◌∙◌, rules}
use Rattle.drm_ring.specs.RingRows.{pending_at}
use Rattle.drm_state.specs.Rows.{is_open}
use Rattle.drm_state.proofs.Passing.{passes_is, row_passes}
use Rattle.drm_state.proofs.rows.pass_over.Goals as goal

pub returns : goal.returns
returns c =
    let to = c.mark_skip.ensures in
    to.2
    ∙ row_passes c.args.rings.now c.args.ring to.0 c.args.journal.now
    (passes_is _ (is_open c.args.journal.now) (pending_at c.args.rings.now c.args.ring) _ to.0 (λ f b k. search rules) to.1 c.requires.passed)
