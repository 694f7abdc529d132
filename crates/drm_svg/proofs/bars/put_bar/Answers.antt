use Rattle.std.specs.Option.{option_copied}
use Rattle.drm_svg.proofs.Parts.{bar_is}
use Rattle.drm_svg.proofs.Pens.{adds_more, adds_placed, adds_same, adds_two}
use Rattle.drm_svg.proofs.bars.put_bar.Goals as goal

pub returns : goal.returns
returns c =
    adds_same (bar_is (option_copied c.args.job) c.args.bar.now)
    (adds_more (adds_more (adds_more c.in_ok-put_front.ensures.text (adds_two _ _ _ _ _ c.put_rest.ensures.text)) c.in_ok-put_label.ensures.text)
    (adds_placed _ _ _ _ c.put_words.ensures))
