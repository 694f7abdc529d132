use Rattle.std.proofs.Common.{◌≡◌, ◌∙◌, ℕ, List, [], ◌++◌, ap, append-nil, arith, length, subst, sym, take}
use Rattle.std.proofs.lemmas.List.{take_all}
use Rattle.drm_picture.specs.declared.bars.Bar.{Bar}
use Rattle.drm_svg.specs.Layout.{bars_of_kind}
use Rattle.drm_svg.specs.Placing.{ArePlaced}
use Rattle.drm_svg.proofs.Rows.{next_placed, none_placed}
use Rattle.drm_svg.proofs.placing.place_bars.Goals as goal

pub loop-bar-init : goal.loop-bar-init
loop-bar-init c = (
  none_placed c.args.picture.now c.args.lane c.len-first.result c.new-bars.result.items c.args.ends.now.items (omega arith) c.new-bars.ensures.items,
  record { behind = omega arith; within = omega arith; until = λ row from below. absurd (omega arith) },
)

pub loop-bar-preserved : goal.loop-bar-preserved
loop-bar-preserved c = (
  next_placed c.args.picture.now c.args.lane _ [] _ c.loop-bar.bar-index _ c.loop-bar.ends.items c.place_in.new.ends.items c.loop-bar.bars.items c.place_in.new.bars.items
      (omega arith) c.loop-bar.invariant.0 c.in_ok-place_in.ensures.placed,
  c.in_ok-place_in.ensures.taken,
)

pub loop-next-init : goal.loop-next-init
loop-next-init c =
    let all = c.bars_for.result.0.now in
    let each : take c.loop-bar.bar-index all ≡ all ++ [] = take_all c.loop-bar.bar-index all c.loop-bar-test.false ∙ sym (append-nil all) in
    (all, c.bars_for.ensures, subst (λ (l : List Bar). ArePlaced c.args.picture.now c.args.lane c.len-first.result l c.loop-bar.bars.items c.loop-bar.ends.items) each c.loop-bar.invariant.0, c.loop-bar.invariant.1)

pub place_in-requires-in-loop-next : goal.place_in-requires-in-loop-next
place_in-requires-in-loop-next c = c.loop-next.invariant.3

pub loop-next-preserved : goal.loop-next-preserved
loop-next-preserved c = (
  c.loop-next.invariant.0,
  c.loop-next.invariant.1,
  next_placed c.args.picture.now c.args.lane _ c.loop-next.invariant.0 c.bars_for.result.1.now c.loop-next.next-index _ c.loop-next.ends.items c.place_in-in-loop-next.new.ends.items c.loop-next.bars.items
      c.place_in-in-loop-next.new.bars.items (omega arith) c.loop-next.invariant.2 c.in_ok-place_in-2.ensures.placed,
  c.in_ok-place_in-2.ensures.taken,
)

pub returns : goal.returns
returns c =
    let all = c.loop-next.invariant.0 in
    let more = c.bars_for.result.1.now in
    let first : c.len-first.result ≡ length c.args.ends.now.items = omega arith in
    let each : all ++ take c.loop-next.next-index more ≡ bars_of_kind c.args.picture.now c.args.lane =
    ap (λ l. all ++ l) (take_all c.loop-next.next-index more c.loop-next-test.false) ∙ sym c.loop-next.invariant.1 in
    subst (λ (n : ℕ). ArePlaced c.args.picture.now c.args.lane n (bars_of_kind c.args.picture.now c.args.lane) c.loop-next.bars.items c.loop-next.ends.items) first
    (subst (λ (l : List Bar). ArePlaced c.args.picture.now c.args.lane c.len-first.result l c.loop-next.bars.items c.loop-next.ends.items) each c.loop-next.invariant.2)
