use Rattle.std.proofs.Common.{replicate}
use Rattle.drm_buffer.proofs.Stores.{written_so}
use Rattle.drm_buffer.proofs.store.Store.fill.Goals as goal

pub returns : goal.returns
returns c =
    written_so c.args.self.now c.take-bytes.new.self c.put.new.self c.args.buffer c.args.offset c.take-bytes.result c.fill.new.self (replicate c.args.len c.args.byte)
    c.requires.within c.take-bytes.ensures.bytes c.take-bytes.ensures.left c.fill.ensures c.put.ensures
