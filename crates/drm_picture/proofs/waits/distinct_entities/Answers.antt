use Rattle.std.proofs.Common.{◌≡◌, true, arith, subst, take, Option}
use Rattle.std.specs.List.{All}
use Rattle.std.proofs.lemmas.List.{take_all}
use Rattle.std.proofs.lemmas.List.Elements.{All-more, All-weaker}
use Rattle.drm_picture.specs.Lasts.{is_listed}
use Rattle.drm_picture.specs.Waits.{job_of}
use Rattle.drm_picture.specs.declared.bars.Bar.{Bar}
use Rattle.drm_picture.specs.declared.command.Request.{Request}
use Rattle.drm_picture.proofs.waits.distinct_entities.Goals as goal

pub loop-bar-preserved : goal.loop-bar-preserved
loop-bar-preserved c =
    let run = c.args.run.now in
    let fences = c.args.fences.now in
    let index = c.loop-bar.bar-index in
    let before = λ (bar : Bar). is_listed c.loop-bar.entities.items (job_of run bar) ≡ true in
    let after = λ (bar : Bar). is_listed c.push_distinct.new.entities.items (job_of run bar) ≡ true in
    let kept : All after (take index fences) = All-weaker before after (λ bar. c.in_ok-push_distinct.ensures.kept (job_of run bar)) (take index fences) c.loop-bar.invariant in
    All-more after fences index _ (omega arith) kept (subst (λ (job : Option Request). is_listed c.push_distinct.new.entities.items job ≡ true) c.job_of.ensures c.in_ok-push_distinct.ensures.listed)

pub returns : goal.returns
returns c =
    let fences = c.args.fences.now in
    let whole : take c.loop-bar.bar-index fences ≡ fences = take_all c.loop-bar.bar-index fences c.loop-bar-test.false in
    subst (All (λ (bar : Bar). is_listed c.loop-bar.entities.items (job_of c.args.run.now bar) ≡ true)) whole c.loop-bar.invariant
