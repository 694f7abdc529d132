use Rattle.std.proofs.Common.{◌≡◌, ◌∙◌, ◌+◌, [], ◌∷◌, ap, arith, length}
use Rattle.std.proofs.lemmas.List.{length-append}
use Rattle.drm_svg.proofs.Lanes.{lane_of_placed}
use Rattle.drm_svg.proofs.layout.lane_rows.Goals as goal

pub returns-clause-rows : goal.returns-clause-rows
returns-clause-rows c =
    let pushed : length c.push.new.self.items ≡ length c.args.ends.now.items + 1 = ap length c.in_ok-push.ensures.items ∙ length-append c.args.ends.now.items (0 ∷ []) in
    let placed = rw (← c.of.ensures) at c.in_ok-bars.ensures in
    lane_of_placed c.args.picture.now _ (length c.push.new.self.items) c.place_bars.new.ends.items (omega arith) (omega arith) placed
