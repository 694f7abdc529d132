use Rattle.std.proofs.Common.{◌+◌, ◌-◌, ◌≤◌, take, vec_len}
use Rattle.std.specs.Io.KnownBytes.{Consumes}
use Rattle.drm_stream.specs.Streams.{NoReadFailed}
use Rattle.drm_stream.proofs.input.fill.Given as goal

abbrev pub invariant-reads : goal.invariant-reads
invariant-reads g l = record {
  within : l.len ≤ vec_len l.text;
  bound : vec_len l.text ≤ 1048577;
  taken : Consumes l.fn.reader.remaining l.reader.remaining (take l.len l.text.items);
  few : l.reader.reads ≤ l.fn.reader.reads + l.len;
  none : NoReadFailed l.fn.reader l.reader;
}

abbrev pub decreases-reads : goal.decreases-reads
decreases-reads g l = 1048577 - l.len
