use Rattle.std.proofs.Common.{◌≡◌, ◌∙◌, ◌≤◌, ◌-◌, ap, arith, drop, length, length-drop, min, rules}
use Rattle.std.proofs.lemmas.List.{drop_min, take_all}
use Rattle.drm_picture.proofs.picture.part.Goals as goal

pub returns : goal.returns
returns c =
    let run = c.run_before-run.result.now in
    let least : c.min.result ≡ min c.args.from (length run) = search rules in
    let rest : length (drop c.min.result run) ≤ length run - c.min.result = omega (arith, length-drop c.min.result run) in
    take_all (length run - c.min.result) (drop c.min.result run) rest
    ∙ ap (λ n. drop n run) least
    ∙ drop_min c.args.from run
    ∙ ap (drop c.args.from) c.run_before-run.ensures
