use Rattle.std.proofs.Common.{◌∙◌, sym, ap, None, false, slice_get}
use Rattle.std.specs.Option.{option_map_or}
use Rattle.std.specs.List.{list_any}
use Rattle.drm_buffer.specs.Stored.{is_out_of}
use Rattle.drm_packet.specs.Touches.{touches}
use Rattle.drm_state.specs.declared.journal.JobRecord.{JobRecord}
use Rattle.drm_state.specs.Outcomes.{next_packet}
use Rattle.drm_table.proofs.TableFacts.{running_at, running_found, vec_holds}
use Rattle.drm_table.proofs.table.Table.next_is_out.Goals as goal

pub index-record-requires : goal.index-record-requires
index-record-requires c =
    let run = running_at c.args.self.now c.args.ring c.in-Some.number c.requires.whole c.requires.there (sym c.current.ensures ∙ c.in-Some.is) in
    vec_holds c.args.self.now.journal c.in-Some.number run.0 run.1.current.at

pub packet-requires : goal.packet-requires
packet-requires c =
    (running_found c.args.self.now c.args.ring c.in-Some.number c.index-record.result.now c.requires.whole c.requires.there (sym c.current.ensures ∙ c.in-Some.is) c.index-record.ensures).left

pub returns : goal.returns
returns c =
    let t = c.args.self.now in
    let is = sym c.current.ensures ∙ c.in-Some.is in
    let run = running_found t c.args.ring c.in-Some.number c.index-record.result.now c.requires.whole c.requires.there is c.index-record.ensures in
    let next = ap (λ o. option_map_or (λ (z : JobRecord). slice_get z.job.packets z.ran) o None) run.current.at ∙ c.packet.ensures in
    c.asks_out.ensures
    ∙ sym (ap (λ o. option_map_or (λ f. option_map_or (λ p. list_any (is_out_of t.memory) (touches p)) (next_packet t.journal.items f) false) o false) is
    ∙ ap (λ o. option_map_or (λ p. list_any (is_out_of t.memory) (touches p)) o false) next)
