use Rattle.std.proofs.Common.{ap, ◌∙◌, replicate, arith}
use Rattle.drm_buffer.specs.Memory.{overwritten}
use Rattle.drm_buffer.proofs.Written.{put_back, through_slice}
use Rattle.drm_buffer.proofs.memory.Memory.fill.Goals as goal

pub returns : goal.returns
returns c =
    put_back c.args.self.now c.take_out-bytes.new.self _ c.args.buffer c.args.offset c.take_out-bytes.result.items _ (replicate c.args.len c.args.byte)
    c.take_out-bytes.ensures.bytes c.take_out-bytes.ensures.others
    (through_slice c.take_out-bytes.result.items c.fill.new.bytes c.take_out-bytes.result.len (omega (arith, c.fill.auto.bytes, c.as_mut_slice.ensures.len))
    ∙ (c.fill.ensures ∙ ap (λ r. overwritten r c.args.offset (replicate c.args.len c.args.byte)) c.as_mut_slice.ensures.value))
    c.put_back.ensures
