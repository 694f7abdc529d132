use Rattle.std.proofs.Common.{◌∙◌, ◌++◌, [], List, Option, ap, arith}
use Rattle.std.specs.List.{cons_option}
use Rattle.drm_picture.specs.Armed.{request_at, request_by}
use Rattle.drm_picture.specs.Bars.{armed_job}
use Rattle.drm_picture.specs.declared.command.Request.{Request}
use Rattle.drm_picture.specs.declared.command.Step.{Step}
use Rattle.drm_picture.proofs.Places.{kept_more}
use Rattle.drm_picture.proofs.armed.requests.Goals as goal

pub loop-place-preserved : goal.loop-place-preserved
loop-place-preserved c =
    let step = c.index-run-place.result in
    c.in_ok-push_request.ensures
    ∙ (ap (λ (o : Option Request). c.loop-place.requests.items ++ cons_option o []) (c.armed_request.ensures ∙ ap (λ (before : List Step). request_by (armed_job before step) step.answer) c.run_before.ensures)
    ∙ kept_more (request_at c.args.run.now) c.args.run.now c.loop-place.place c.index-run-place.result c.loop-place.requests.items (omega arith) c.index-run-place.is c.loop-place.invariant)
