use Rattle.std.proofs.Common.{[]}
use Rattle.std.proofs.lemmas.List.Elements.{All-nil, All-same}
use Rattle.drm_workers.specs.Works.{MayWork}
use Rattle.drm_workers.proofs.Hiring.{alone}
use Rattle.drm_workers.proofs.hire.hire_all.Goals as goal

pub returns-clause-workers : goal.returns-clause-workers
returns-clause-workers c =
    let none = All-same (MayWork c.args.gpu.now) c.new-workers.result.items [] c.new-workers.ensures.items (All-nil (MayWork c.args.gpu.now)) in
    c.in_ok-pass-4.ensures.hired.1 (c.in_ok-pass-3.ensures.hired.1 (c.in_ok-pass-2.ensures.hired.1 (c.in_ok-pass.ensures.hired.1 none)))

pub returns-clause-whole : goal.returns-clause-whole
returns-clause-whole c whole =
    c.in_ok-pass-4.ensures.whole (c.in_ok-pass-3.ensures.whole (c.in_ok-pass-2.ensures.whole (c.in_ok-pass.ensures.whole (alone c.args.pass.part c.new-workers.result.items c.new-workers.ensures.items whole))))
