use Rattle.std.proofs.Common.{◌∙◌, ap, length}
use Rattle.std.specs.Prelude.{◌&&◌}
use Rattle.drm_core.specs.Names.{buffer_of, ctx_of, entity_of, ring_of}
use Rattle.drm_core.proofs.Naming.{is_below, names_by_parts}
use Rattle.drm_core.proofs.event.Event.names_exist.Goals as goal

pub returns : goal.returns
returns g c =
    let e = c.args.self.now in
    let spec = c.args.spec.now in
    let ctx = c.is_below-has_ctx.ensures ∙ ap (λ o. is_below o 64) c.ctx.ensures in
    let buffer = c.is_buffer_below-has_buffer.ensures ∙ ap (λ o. is_below o c.len.result) c.buffer.ensures ∙ ap (is_below (buffer_of e)) c.len.ensures in
    let ring = c.is_below-has_ring.ensures ∙ ap (λ o. is_below o c.len-2.result) c.ring.ensures ∙ ap (is_below (ring_of e)) c.len-2.ensures in
    let entity = c.is_below-has_entity.ensures ∙ ap (λ o. is_below o c.len-3.result) c.entity.ensures ∙ ap (is_below (entity_of e)) c.len-3.ensures in
    c.are_all.ensures
    ∙ ap (λ b. b && c.is_buffer_below-has_buffer.result && c.is_below-has_ring.result && c.is_below-has_entity.result) ctx
    ∙ ap (λ b. is_below (ctx_of e) 64 && b && c.is_below-has_ring.result && c.is_below-has_entity.result) buffer
    ∙ ap (λ b. is_below (ctx_of e) 64 && is_below (buffer_of e) (length spec.buffers) && b && c.is_below-has_entity.result) ring
    ∙ ap (λ b. is_below (ctx_of e) 64 && is_below (buffer_of e) (length spec.buffers) && is_below (ring_of e) (length spec.rings) && b) entity
    ∙ names_by_parts spec e
