-- A bar in the parts in which it is put.
use Rattle.std.proofs.Common.{◌≡◌, ◌∙◌, ℕ, List, ◌++◌, Option, None, ap, append_assoc, sym, arith}
use Rattle.std.specs.Prelude.{codes}
use Rattle.std.proofs.lemmas.Grind.{common_steps}
use Rattle.drm_picture.specs.declared.bars.Bar.{Bar}
use Rattle.drm_picture.specs.declared.command.Request.{Request}
use Rattle.drm_svg.specs.declared.placing.Placed.{Placed}
use Rattle.drm_svg.specs.declared.bars.TheConstants.{GROUP_END}
use Rattle.drm_svg.specs.Bars.{bar_text, behind_text, colour_text, front_text, halt_place_text, halt_text, label_text, place_text, title_text}
use Rattle.drm_svg.specs.Titles.{front_of}
use Rattle.drm_svg.proofs.Plain.{title_escaped}

-- what a bar tells and its colour, up to what its job does with which buffers and behind that
title_is : (job : Option Request) (bar : Bar) → front_text job bar ++ behind_text job bar ≡ title_text job bar ++ colour_text job bar
unfolding front_text behind_text title_text front_of
title_is job bar =
    let told = title_escaped job bar in
    grind (arith, common_steps, told)

pub bar_is : (job : Option Request) (bar : Placed) → front_text job bar.bar ++ (behind_text job bar.bar ++ place_text bar) ++ label_text job bar ++ GROUP_END.now ≡ bar_text job bar
unfolding bar_text
bar_is job bar =
    ap (λ (t : List ℕ). t ++ label_text job bar ++ GROUP_END.now)
    (sym (append_assoc (front_text job bar.bar) (behind_text job bar.bar) (place_text bar)) ∙ ap (λ (t : List ℕ). t ++ place_text bar) (title_is job bar.bar))

pub halt_is : (bar : Placed) → front_text None bar.bar ++ (behind_text None bar.bar ++ halt_place_text bar) ≡ halt_text bar
unfolding halt_text
halt_is bar =
    sym (append_assoc (front_text None bar.bar) (behind_text None bar.bar) (halt_place_text bar))
    ∙ ap (λ (t : List ℕ). t ++ halt_place_text bar) (title_is None bar.bar)
