use Rattle.std.proofs.Common.{refl}
use Rattle.std.specs.Io.KnownBytes.{Appends}
use Rattle.drm_stream.specs.Streams.{NoWriteFailed}
use Rattle.drm_engine.specs.Replaying.{ToldFront}
use Rattle.drm_perfetto.proofs.Traced.{trace_of}
use Rattle.drm_perfetto.proofs.tracing.trace_script.Goals as goal

pub returns-in-Ok-write_trace-clause-ending : goal.returns-in-Ok-write_trace-clause-ending
returns-in-Ok-write_trace-clause-ending g c =
    let p = trace_of c.args.by c.args.script c.in-Ok-build.core c.write_trace.new.core c.args.script.lines
    (λ text. Appends c.args.writer.now.contents c.write_trace.new.writer.contents text × NoWriteFailed c.args.writer.now c.write_trace.new.writer)
    c.headline.ensures c.in-Ok-build.ensures.ok.0 refl c.requires.exist c.in-Ok-write_trace.ensures in
    (p.0, p.1, p.2.0)

pub returns-in-Ok-write_trace-clause-failures : goal.returns-in-Ok-write_trace-clause-failures
returns-in-Ok-write_trace-clause-failures g c = λ before after read. (read, c.in-Ok-write_trace.ensures.3.1)

pub returns-clause-ending : goal.returns-clause-ending
returns-clause-ending g c =
    let p = trace_of c.args.by c.args.script c.in-Ok-build.core c.write_trace.new.core c.args.script.lines
    (λ text. ToldFront c.args.writer.now c.write_trace.new.writer text)
    c.headline.ensures c.in-Ok-build.ensures.ok.0 refl c.requires.exist c.in-Err.ensures in
    (p.0, p.1, p.2.0)

pub returns-clause-failures : goal.returns-clause-failures
returns-clause-failures g c = λ before after read. (read, c.in-Err.ensures.3.1)
