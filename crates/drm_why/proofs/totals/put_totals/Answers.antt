use Rattle.drm_why.specs.Totals.{said_of_totals}
use Rattle.drm_why.proofs.Putting.{put_more, put_then}
use Rattle.drm_why.proofs.totals.put_totals.Goals as goal

pub returns : goal.returns
unfolding said_of_totals
returns c =
    let out = c.args.out.now.items in
    put_then c.put_kind-4.result out c.put_kind-3.new.out.items c.put_kind-4.new.out.items _ _
    (put_more out c.put_kind-2.new.out.items c.put_kind-3.new.out.items _ _
    (put_more out c.put_kind.new.out.items c.put_kind-2.new.out.items _ _
    (put_more out c.put_busy.new.out.items c.put_kind.new.out.items _ _ c.in_ok-put_busy.ensures c.in_ok-put_kind.ensures)
    c.in_ok-put_kind-2.ensures)
    c.in_ok-put_kind-3.ensures)
    c.put_kind-4.ensures
