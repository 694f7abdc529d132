use Rattle.drm_why.specs.Lines.{lines_of_longest}
use Rattle.drm_why.proofs.Putting.{put_more, put_then}
use Rattle.drm_why.proofs.lines.put_held.Goals as goal

pub returns : goal.returns
unfolding lines_of_longest
returns c =
    let out = c.args.out.now.items in
    put_then c.put_links.result out c.put_text.new.out.items c.put_links.new.out.items _ _
    (put_more out c.put_two.new.out.items c.put_text.new.out.items _ _ c.in_ok-put_two.ensures c.in_ok-put_text.ensures) c.put_links.ensures
