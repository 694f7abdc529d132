use Rattle.std.proofs.Common.{◌≡◌, ◌∙◌, ap, length, min, rules, take}
use Rattle.std.proofs.lemmas.List.{take_min}
use Rattle.drm_picture.proofs.command.run_before.Goals as goal

pub returns : goal.returns
returns c =
    let least : c.min.result ≡ min c.args.to (length c.args.steps.now) = search rules in
    ap (λ n. take n c.args.steps.now) least ∙ take_min c.args.to c.args.steps.now
