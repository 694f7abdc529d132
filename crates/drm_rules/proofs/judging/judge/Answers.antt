use Rattle.std.proofs.Common.{List, [], ◌++◌, ap, arith, subst, take, ◌∙◌, sym}
use Rattle.std.proofs.lemmas.List.{length-take}
use Rattle.drm_trace.specs.declared.event.Event.{Event}
use Rattle.drm_rules.specs.declared.rules.Broken.{Broken}
use Rattle.drm_rules.specs.Rules.{broken_from}
use Rattle.drm_rules.specs.Tables.{AreLanes}
use Rattle.drm_rules.proofs.Judged.{judged_all, judged_on, seen_on}
use Rattle.drm_rules.proofs.judging.judge.Goals as goal

pub loop-at-init : goal.loop-at-init
loop-at-init c = record {
  lanes = c.new-lanes.ensures c.args.index.now;
  found = ap (λ (told : List Broken). told ++ broken_from c.args.demands.now c.args.index.now [] c.log-log.result.now) c.new-found.ensures.items
      ∙ ap (λ (lines : List Event). broken_from c.args.demands.now c.args.index.now (take 0 lines) lines) c.log-log.ensures;
}

pub loop-at-preserved : goal.loop-at-preserved
loop-at-preserved c =
    let i = c.loop-at.at-index in
    let lines = c.log-log.result.now in
    record {
      lanes = subst (AreLanes c.pass.new.self c.args.index.now) (seen_on lines i _ c.loop-at-test.true)
          (c.in_ok-pass.ensures (take i lines) (omega (arith, length-take i lines)) c.loop-at.invariant.lanes);
      found = judged_on c.args.demands.now c.args.index.now lines i _ c.loop-at.found.items c.judge_line.new.found.items c.loop-at-test.true
          (c.in_ok-judge_line.ensures (take i lines) c.loop-at.invariant.lanes) c.loop-at.invariant.found;
    }

pub returns : goal.returns
returns c =
    judged_all c.args.demands.now c.args.index.now c.log-log.result.now c.loop-at.at-index c.loop-at.found.items c.loop-at-test.false c.loop-at.invariant.found
