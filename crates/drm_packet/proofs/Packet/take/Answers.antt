use Rattle.std.proofs.Common.{◌≡◌, Some, true, slice_get, sym, ap, ◌∙◌}
use Rattle.drm_buffer.specs.Stored.{Stored}
use Rattle.drm_packet.specs.Parts.{source_of}
use Rattle.drm_packet.proofs.InStores.{apart_buffers, source_touched, set_out_other}
use Rattle.drm_packet.proofs.Packet.take.Goals as goal

pub take_from-read-requires : goal.take_from-read-requires
take_from-read-requires c b is =
    let p = c.args.self.now in
    let s = c.args.store.now in
    let is_s : source_of p ≡ Some b = sym c.source.ensures ∙ is in
    ap (λ (z : Stored). slice_get z.out b) c.take_from-write.ensures.left
    ∙ (set_out_other s.out c.target.result b true (λ t is_t. apart_buffers p t b (sym c.target.ensures ∙ is_t) is_s) ∙ c.requires b (source_touched p b is_s))
