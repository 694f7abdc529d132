use Rattle.std.proofs.Common.{append_assoc}
use Rattle.drm_text.proofs.Filled.{cut_text}
use Rattle.drm_text.proofs.hexadecimal.put_bytes.Goals as goal

pub loop-rest-preserved : goal.loop-rest-preserved
loop-rest-preserved c =
    rw (c.in_ok-put_block.ensures, append_assoc, c.split_at.ensures.front, c.split_at.ensures.back, cut_text 512 c.loop-rest.rest.now) c.loop-rest.invariant
