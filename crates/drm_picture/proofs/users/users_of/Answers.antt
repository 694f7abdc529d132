use Rattle.std.proofs.Common.{◌≡◌, true, arith, subst, take, Option}
use Rattle.std.specs.List.{All}
use Rattle.std.proofs.lemmas.List.{take_all}
use Rattle.std.proofs.lemmas.List.Elements.{All-more, All-weaker}
use Rattle.drm_picture.specs.Lasts.{is_listed}
use Rattle.drm_picture.specs.Users.{AreUsersOf, declares}
use Rattle.drm_picture.specs.Waits.{job_of}
use Rattle.drm_picture.specs.declared.bars.Bar.{Bar}
use Rattle.drm_picture.specs.declared.command.Request.{Request}
use Rattle.drm_picture.proofs.users.users_of.Goals as goal

pub loop-bar-preserved : goal.loop-bar-preserved
loop-bar-preserved c =
    let run = c.args.run.now in
    let fences = c.args.fences.now in
    let buffer = c.args.buffer in
    let index = c.loop-bar.bar-index in
    let before = λ (bar : Bar). declares buffer (job_of run bar) ≡ true → is_listed c.loop-bar.entities.items (job_of run bar) ≡ true in
    let after = λ (bar : Bar). declares buffer (job_of run bar) ≡ true → is_listed c.push_user.new.entities.items (job_of run bar) ≡ true in
    let kept : All after (take index fences) =
    All-weaker before after (λ bar listed there. c.in_ok-push_user.ensures.kept (job_of run bar) (listed there)) (take index fences) c.loop-bar.invariant in
    All-more after fences index _ (omega arith) kept
    (subst (λ (job : Option Request). declares buffer job ≡ true → is_listed c.push_user.new.entities.items job ≡ true) c.job_of.ensures c.in_ok-push_user.ensures.listed)

pub returns : goal.returns
returns c =
    let fences = c.args.fences.now in
    subst (AreUsersOf c.args.run.now c.args.buffer c.loop-bar.entities.items) (take_all c.loop-bar.bar-index fences c.loop-bar-test.false) c.loop-bar.invariant
