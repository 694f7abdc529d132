use Rattle.std.proofs.Common.{◌≡◌, ◌∷◌, ◌++◌, [], arith}
use Rattle.std.proofs.lemmas.List.{length-append}
use Rattle.drm_perfetto.specs.Tracks.{shown}
use Rattle.drm_perfetto.proofs.RowFacts.{rows_more}
use Rattle.drm_perfetto.proofs.rows.rows_of.Goals as goal

pub loop-number-preserved : goal.loop-number-preserved
loop-number-preserved c =
    let row = c.shown-row.result in
    let pushed : c.push.new.self.items ≡ c.loop-number.rows.items ++ row ∷ [] = c.in_ok-push.ensures.items in
    let so = c.loop-number.invariant in
    record {
      room = rw pushed (omega (arith, so.room, length-append c.loop-number.rows.items (row ∷ [])));
      done = rw pushed (rows_more c.loop-number.rows.items row (shown c.args.core.now c.args.lane) c.loop-number.number so.room so.done c.shown-row.ensures.row);
      known = c.shown-row.ensures.known;
    }
