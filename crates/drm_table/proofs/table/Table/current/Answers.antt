use Rattle.std.proofs.Common.{None, ◌∙◌, sym, ap, slice_get}
use Rattle.std.specs.Prelude.{find}
use Rattle.std.specs.Option.{option_map_or}
use Rattle.drm_ring.specs.RingRows.{RingRow}
use Rattle.drm_state.specs.Rows.{is_open}
use Rattle.drm_state.proofs.Passing.{passed_finds}
use Rattle.drm_table.proofs.TableFacts.{row_there, row_found, row_pending}
use Rattle.drm_table.proofs.table.Table.current.Goals as goal

pub current-requires : goal.current-requires
current-requires c = row_there c.args.self.now c.args.ring c.requires.whole c.requires.there

pub returns : goal.returns
returns c =
    let t = c.args.self.now in
    let row = row_found t c.args.ring c.requires.whole c.requires.there in
    c.current.ensures
    ∙ (ap (λ o. option_map_or (λ (r : RingRow). slice_get r.state.pending r.passed) o None) row.1
    ∙ (ap (slice_get row.0.state.pending) (c.requires.whole.rows c.args.ring row.0 row.1).passed
    ∙ (passed_finds (is_open t.journal.items) row.0.state.pending ∙ ap (find (is_open t.journal.items)) (sym (row_pending t c.args.ring row.0 row.1)))))
