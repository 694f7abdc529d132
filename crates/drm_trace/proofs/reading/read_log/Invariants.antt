use Rattle.drm_stream.specs.Streams.{NoReadFailed}
use Rattle.drm_trace.specs.Pieces.{IsBare, ReadsOn}
use Rattle.drm_trace.proofs.reading.read_log.Given as goal

abbrev pub invariant-pieces : goal.invariant-pieces
invariant-pieces g l = record {
  reads : ReadsOn l.fn.reader.remaining l.reader.remaining l.log l.before.items;
  none : NoReadFailed l.fn.reader l.reader;
}
