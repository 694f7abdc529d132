use Rattle.std.proofs.Common.{arith}
use Rattle.drm_text.specs.Cut.{parts_of}
use Rattle.drm_expect.proofs.Cutting.{added_on, last_added, lines_end}
use Rattle.drm_expect.proofs.lines.lines_of.Goals as goal

pub loop-bytes-preserved : goal.loop-bytes-preserved
loop-bytes-preserved c =
    let cut = c.in-Some.ensures.some in
    record {
      at = cut.3;
      last = let told = last_added c.loop-bytes.number c.in-Some.bytes.now c.loop-bytes.lines.items c.add_line.new.lines.items c.in_ok-add_line.ensures (omega (arith, c.loop-bytes.invariant.last)) in omega (arith, told);
      number_at = omega (arith, c.loop-bytes.invariant.number_at, cut.1);
      so_far = added_on (parts_of 10 c.args.text.now) c.loop-bytes.parts.parts c.next.new.self.parts c.loop-bytes.number c.in-Some.bytes.now c.loop-bytes.lines.items
          c.add_line.new.lines.items cut.0 c.in_ok-add_line.ensures c.loop-bytes.invariant.so_far;
    }

pub returns-clause-lines : goal.returns-clause-lines
returns-clause-lines c =
    lines_end (parts_of 10 c.args.text.now) c.loop-bytes.parts.parts c.loop-bytes.number c.loop-bytes.lines.items c.in_default.ensures.none.0 c.loop-bytes.invariant.so_far

pub returns-clause-last : goal.returns-clause-last
returns-clause-last c = omega (arith, c.loop-bytes.invariant.last, c.loop-bytes.invariant.number_at, c.loop-bytes.invariant.at)
