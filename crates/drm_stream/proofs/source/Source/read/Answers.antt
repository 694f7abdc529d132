use Rattle.drm_stream.proofs.source.Source.read.Goals as goal

pub returns-in-Ok-clause-bytes : goal.returns-in-Ok-clause-bytes
returns-in-Ok-clause-bytes g c = rw (← c.self.view_is) c.in-Ok.ensures.bytes
