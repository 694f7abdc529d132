use Rattle.drm_engine.proofs.Placings.{placed_last, placed_next}
use Rattle.drm_engine.proofs.placing.place_two.Goals as goal

pub returns : goal.returns
returns c =
    placed_next c.args.piece.now _ _ _ c.args.before.now _ _ c.args.former c.put_all.ensures c.place_number.ensures.text c.requires.plain.0
    (placed_next _ _ _ _ c.args.between.now _ _ c.args.latter c.put_all-2.ensures c.place_number-2.ensures.text c.requires.plain.1
    (placed_last _ _ c.args.behind.now _ c.put_all-3.ensures c.requires.plain.2))
