use Rattle.std.proofs.Common.{◌≡◌, ◌∙◌, [], ap, arith, sym, true}
use Rattle.std.proofs.lemmas.Grind.{common_steps}
use Rattle.drm_picture.specs.Users.{have_users}
use Rattle.drm_picture.proofs.Settling.{settled_by_all, settled_by_users}
use Rattle.drm_picture.proofs.users.is_settled.Goals as goal

pub returns-then-is_empty : goal.returns-then-is_empty
returns-then-is_empty c = λ is.
    let none : c.args.later.now.after ≡ [] = grind (arith, common_steps) in
    let all : have_users c.args.users.now c.args.entities.now c.args.jobs.now c.args.later.now.declared ≡ true =
    ap (have_users c.args.users.now c.args.entities.now c.args.jobs.now) (sym c.as_slice-then-is_empty.ensures) ∙ sym c.has_each_user.ensures ∙ is in
    settled_by_users c.args.run.now c.args.users.now c.args.entities.now c.args.jobs.now c.args.later.now c.args.fences.now none all c.requires.users c.requires.listed

pub returns-else-is_empty : goal.returns-else-is_empty
returns-else-is_empty c = λ is.
    settled_by_all c.args.run.now c.args.entities.now c.args.jobs.now c.args.later.now c.args.fences.now (sym c.has_all.ensures ∙ is) c.requires.listed
