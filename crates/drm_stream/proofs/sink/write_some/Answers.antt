use Rattle.std.proofs.KnownBytes.{Keeps-refl, Keeps-trans}
use Rattle.drm_stream.proofs.sink.write_some.Goals as goal

pub tries-init : goal.tries-init
tries-init g c = Keeps-refl (g.W.Write.contents c.args.writer.now)

pub tries-preserved : goal.tries-preserved
tries-preserved g c = Keeps-trans (g.W.Write.contents c.args.writer.now) (g.W.Write.contents c.tries.writer) (g.W.Write.contents c.write.new.self) c.tries.invariant c.in-Err.ensures.bytes
