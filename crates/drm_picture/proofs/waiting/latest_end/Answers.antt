use Rattle.std.proofs.Common.{◌≡◌, ◌∙◌, ◌+◌, ◌-◌, true, arith, max, rules, sym, subst}
use Rattle.drm_picture.specs.Reach.{is_within}
use Rattle.drm_picture.proofs.Latest.{latest-next}
use Rattle.drm_picture.proofs.Reaching.{all_within, latest-all}
use Rattle.drm_picture.proofs.waiting.latest_end.Goals as goal

pub loop-index-preserved : goal.loop-index-preserved
loop-index-preserved c =
    latest-next c.args.run.now c.args.place c.args.declared.now c.args.fences.now c.loop-index.index (c.loop-index.index - 1) _ c.loop-index.latest c.later_end-latest.result
    (omega arith) (omega arith) c.loop-index.invariant c.later_end-latest.ensures

pub returns-then-is_within : goal.returns-then-is_within
returns-then-is_within c =
    let fences = c.args.fences.now in
    let index = c.loop-index.index in
    let end : c.max.result ≡ max c.loop-index.latest c.args.place = search rules in
    let within : is_within c.args.reaches.now (index - 1) (max c.loop-index.latest c.args.place) ≡ true =
    subst (λ n. is_within c.args.reaches.now (index - 1) n ≡ true) end (sym c.is_within.ensures ∙ c.if-is_within.true) in
    let next : index - 1 + 1 ≡ index = omega arith in
    latest-all c.args.run.now c.args.place c.args.declared.now fences index c.loop-index.latest c.loop-index.invariant
    (all_within fences c.args.reaches.now index (index - 1) (max c.loop-index.latest c.args.place) next c.requires.reach within)
