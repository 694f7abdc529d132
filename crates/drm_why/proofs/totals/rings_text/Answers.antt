use Rattle.std.proofs.Common.{add-one, subst, sym}
use Rattle.drm_why.specs.Totals.{TellsRings}
use Rattle.drm_why.proofs.totals.rings_text.Goals as goal

pub loop-ring-preserved : goal.loop-ring-preserved
loop-ring-preserved c =
    subst (λ n. TellsRings c.args.rows.now n c.put_ring.new.out.items) (sym (add-one c.loop-ring.ring))
    (c.loop-ring.out.items, c.most.result, c.loop-ring.invariant, c.most.ensures, c.in_ok-put_ring.ensures)
