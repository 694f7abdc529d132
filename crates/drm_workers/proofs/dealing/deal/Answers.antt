use Rattle.std.proofs.Common.{rules, ◌≡◌, ◌<◌, ◌%◌, ◌+◌, ◌∷◌, Some, length, slice_get, subst, refl, ap, arith, sym}
use Rattle.std.specs.Vec.Iter.{into_iter_items, into_iter_len}
use Rattle.std.proofs.lemmas.Nat.{mod_below}
use Rattle.std.proofs.lemmas.Option.{slice_get_read}
use Rattle.drm_workers.proofs.Dealt.{FitRest, none_dealt, one_dealt, all_dealt}
use Rattle.drm_workers.proofs.dealing.deal.Goals as goal

pub loop-job-init : goal.loop-job-init
loop-job-init c =
    let all : into_iter_items c.into_iter-job-iterator.result ≡ c.args.jobs.items = c.into_iter-job-iterator.ensures.into_iter_gives.0 in
    let left : length (into_iter_items c.into_iter-job-iterator.result) ≡ into_iter_len c.into_iter-job-iterator.result = search rules in
    let none : length c.in_ok-shares.shares.items ≡ c.args.submitters = c.in_ok-shares.ensures.count in
    record {
      fit = subst (λ rest. FitRest (λ share. share.items) c.args.submitters 0 c.args.jobs.items rest c.in_ok-shares.shares.items) (sym all)
          (none_dealt (λ share. share.items) c.args.submitters c.args.jobs.items c.in_ok-shares.shares.items none c.in_ok-shares.ensures.empty);
      left = left;
      dealt = omega (arith, left, ap length all);
    }

pub loop-job-preserved : goal.loop-job-preserved
loop-job-preserved c =
    let n = c.args.submitters in
    let turn = c.loop-job.place % n in
    let left = into_iter_items c.next.new.self in
    let split : into_iter_items c.loop-job.job-iterator ≡ c.in-Some.job ∷ left = search rules in
    let fewer : into_iter_len c.loop-job.job-iterator ≡ into_iter_len c.next.new.self + 1 = search rules in
    let within : turn < n = mod_below c.loop-job.place n c.requires in
    let at : slice_get c.loop-job.shares.items turn ≡ Some c.index_mut.result.now =
    slice_get_read c.loop-job.shares.items n turn c.index_mut.result.now (omega (arith, c.loop-job.invariant.fit.0)) within c.index_mut.ensures.value in
    record {
      fit = one_dealt (λ share. share.items) n c.loop-job.place c.args.jobs.items left c.in-Some.job c.loop-job.shares.items _ c.index_mut.result.now c.push.new.self at
          c.in_ok-push.ensures.items refl
          (subst (λ rest. FitRest (λ share. share.items) n c.loop-job.place c.args.jobs.items rest c.loop-job.shares.items) split c.loop-job.invariant.fit);
      left = omega (arith, ap length split, fewer, c.loop-job.invariant.left);
      dealt = omega (arith, fewer, c.loop-job.invariant.dealt);
    }

pub returns : goal.returns
returns c =
    let none : into_iter_len c.loop-job.job-iterator ≡ 0 = c.in-None.ensures.steps.0 in
    record {
      shares = all_dealt (λ share. share.items) c.args.submitters c.loop-job.place c.args.jobs.items (into_iter_items c.loop-job.job-iterator) c.loop-job.shares.items
          (omega (arith, none, c.loop-job.invariant.left)) c.loop-job.invariant.fit;
    }
