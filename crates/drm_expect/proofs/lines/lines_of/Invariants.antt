use Rattle.std.proofs.Common.{◌<◌, ◌≤◌, ◌+◌, length}
use Rattle.drm_text.specs.Cut.{parts_of}
use Rattle.drm_expect.specs.Lines.{last_number}
use Rattle.drm_expect.proofs.Cutting.{LinesOn}
use Rattle.drm_expect.proofs.lines.lines_of.Given as goal

abbrev pub invariant-loop-bytes : goal.invariant-loop-bytes
invariant-loop-bytes l = record {
  at : l.parts.at ≤ 1048577;
  last : last_number l.lines.items < l.number;
  number_at : l.number ≤ l.parts.at + 1;
  so_far : LinesOn (parts_of 10 l.fn.text) l.number l.parts.parts l.lines.items;
}

abbrev pub decreases-loop-bytes : goal.decreases-loop-bytes
decreases-loop-bytes l = length l.parts.parts
