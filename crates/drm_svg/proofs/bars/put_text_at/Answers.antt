use Rattle.std.proofs.Common.{◌++◌, List, ℕ, ap, append_assoc, flat_map}
use Rattle.std.specs.Prelude.{codes, decimal}
use Rattle.drm_svg.specs.Bars.{begin_of_label, label_telling, text_at}
use Rattle.drm_svg.specs.Owners.{letter_of}
use Rattle.drm_svg.proofs.Pens.{adds_more, adds_placed, adds_same, adds_two}
use Rattle.drm_svg.proofs.bars.put_text_at.Goals as goal

pub returns-clause-text : goal.returns-clause-text
unfolding text_at
returns-clause-text c =
    let bar = c.args.bar.now in
    let telling = label_telling c.args.entity bar.bar in
    let letters = flat_map (λ d. letter_of d.1 ++ decimal d.0) c.args.declared.now in
    adds_same (ap (λ (t : List ℕ). t ++ codes "</text>") (append_assoc (begin_of_label bar) telling letters))
    (adds_more (adds_more (adds_two _ _ (begin_of_label bar) telling _ c.put_label_at.ensures.text) c.in_ok-put_letters.ensures.text)
    (adds_placed _ _ _ _ c.put_words.ensures))
