use Rattle.std.proofs.Common.{◌≡◌, Some, false, slice_get, sym, ap, ◌∙◌}
use Rattle.drm_buffer.specs.Stored.{Stored, set_out}
use Rattle.drm_packet.specs.Parts.{source_of, put_bytes}
use Rattle.drm_packet.proofs.InStores.{apart_buffers, source_touched, set_out_other, come_back}
use Rattle.drm_packet.proofs.Packet.put.Goals as goal

pub put_into-requires-2-clause-out : goal.put_into-requires-2-clause-out
put_into-requires-2-clause-out c b is =
    let p = c.args.self.now in
    let s = c.args.store.now in
    let is_s : source_of p ≡ Some b = sym c.source.ensures ∙ is in
    ap (λ (z : Stored). slice_get z.out b) c.put_into.ensures
    ∙ (set_out_other s.out c.target.result b false (λ t is_t. apart_buffers p t b (sym c.target.ensures ∙ is_t) is_s) ∙ c.requires.out b (source_touched p b is_s))

pub returns : goal.returns
returns c =
    let p = c.args.self.now in
    let s = c.args.store.now in
    come_back p s c.put_into.new.store c.put_into-2.new.store c.args.write c.args.read c.requires.read c.requires.write
    (c.put_into.ensures ∙ ap (λ o. let y : Stored = record { bytes = put_bytes s.bytes o c.args.write; out = set_out s.out o false } in y) c.target.ensures)
    (c.put_into-2.ensures
    ∙ ap (λ o. let y : Stored = record { bytes = put_bytes c.put_into.new.store.bytes o c.args.read; out = set_out c.put_into.new.store.out o false } in y) c.source.ensures)
