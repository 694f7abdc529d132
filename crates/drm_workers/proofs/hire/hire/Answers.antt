use Rattle.std.proofs.Common.{◌≡◌, ◌∙◌, ◌++◌, ◌∷◌, [], ap, map}
use Rattle.std.proofs.lemmas.List.{map-append}
use Rattle.std.proofs.lemmas.List.Elements.{All-push, All-same}
use Rattle.drm_gpu.specs.Passes.{PassState}
use Rattle.drm_workers.specs.Numbers.{armings}
use Rattle.drm_workers.specs.declared.work.Worker.{Worker}
use Rattle.drm_workers.specs.Works.{MayWork, jobs_of}
use Rattle.drm_workers.proofs.Hiring.{hired_half}
use Rattle.drm_workers.proofs.hire.hire.Goals as goal

pub returns-clause-hired : goal.returns-clause-hired
returns-clause-hired c =
    let was = c.args.workers.now.items in
    let given = c.split-kept.ensures.second in
    let one : Worker = record { number = c.args.number; pass = c.split-kept.result.1; duty = c.args.duty } in
    let is : c.push.new.self.items ≡ was ++ one ∷ [] = c.in_ok-push.ensures.items in
    let may : MayWork c.args.gpu.now one = record {
      pass = ap (λ (p : PassState). p.gpu) given ∙ c.requires.pass.0;
      fresh = ap (λ (p : PassState). armings p.calls) given;
      can = c.requires.duty;
    } in (
      ap (map (λ (w : Worker). jobs_of w.duty)) is ∙ map-append (λ (w : Worker). jobs_of w.duty) was (one ∷ []),
      λ all. All-same (MayWork c.args.gpu.now) c.push.new.self.items (was ++ one ∷ []) is (All-push (MayWork c.args.gpu.now) was one all may),
    )

pub returns-clause-whole : goal.returns-clause-whole
returns-clause-whole c =
    hired_half c.args.pass.part c.split-kept.result.0.part c.args.workers.now.items c.push.new.self.items _ (ap (λ (p : PassState). p.part) c.split-kept.ensures.first) (ap (λ (p : PassState). p.part) c.split-kept.ensures.second)
    c.in_ok-push.ensures.items
