use Rattle.drm_why.specs.Totals.{said_of_longest}
use Rattle.drm_why.proofs.Putting.{put_more, put_then}
use Rattle.drm_why.proofs.totals.put_longest.Goals as goal

pub returns : goal.returns
unfolding said_of_longest
returns c =
    let out = c.args.out.now.items in
    put_then c.put_text.result out c.put_kind.new.out.items c.put_text.new.out.items _ _
    (put_more out c.put_one.new.out.items c.put_kind.new.out.items _ _ (rw c.from.ensures at c.in_ok-put_one.ensures) c.in_ok-put_kind.ensures) c.put_text.ensures
