use Rattle.std.proofs.Common.{◌∙◌, sym, ap, Some}
use Rattle.drm_core.proofs.Locks.{held_place}
use Rattle.drm_core.proofs.locking.first_held.Goals as goal

pub returns-in-Some : goal.returns-in-Some
returns-in-Some c = ap (λ b. Some b) c.new.ensures ∙ (sym c.in-Some.is ∙ (c.first_place.ensures.place ∙ held_place c.args.holders.now c.args.ctx))

pub returns-in-None : goal.returns-in-None
returns-in-None c = sym c.in-None.is ∙ (c.first_place.ensures.place ∙ held_place c.args.holders.now c.args.ctx)
