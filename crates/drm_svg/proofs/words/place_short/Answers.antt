use Rattle.drm_svg.proofs.Pairs.{behind_one, behind_pair}
use Rattle.drm_svg.proofs.words.place_short.Goals as goal

pub returns-then-number-lt1000-clause-text : goal.returns-then-number-lt1000-clause-text
returns-then-number-lt1000-clause-text c =
    behind_one c.args.number _ _ _ c.if-number-lt100.false c.if-number-lt1000.true c.place_digit-behind.ensures.text c.place_pair-then-number-lt1000.ensures.text

pub returns-clause-text : goal.returns-clause-text
returns-clause-text c =
    behind_pair c.args.number _ _ _ c.if-number-lt1000.false c.requires.most c.place_pair-behind.ensures.text c.place_pair-2.ensures.text
