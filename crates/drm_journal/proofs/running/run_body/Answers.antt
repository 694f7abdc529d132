use Rattle.std.proofs.Common.{rules, arith, ◌≡◌, Ok, Err}
use Rattle.drm_text.specs.Reading.{Fails}
use Rattle.drm_journal.specs.Journal.{body_of, journal_line, nothing_read}
use Rattle.drm_journal.specs.Leaving.{buffers_if_read}
use Rattle.drm_journal.proofs.Turns.{runs_here, few_here, runs_more, runs_no_more, ends_faulty, ends_early, ends}
use Rattle.drm_journal.proofs.running.run_body.Goals as goal

pub run_read-armed-requires : goal.run_read-armed-requires
run_read-armed-requires c =
    let read : journal_line c.args.spec.now c.loop-line.armed c.loop-line.reading c.loop-line.lines.line c.loop-line.lines.bytes ≡ Ok c.add_line.new.reading = search rules in
    runs_here c.args.spec.now _ c.loop-line.armed c.loop-line.reading c.add_line.new.reading c.loop-line.machine c.loop-line.lines c.loop-line.invariant.so_far c.loop-line.invariant.none read

pub overflow_add-armed : goal.overflow_add-armed
overflow_add-armed c =
    let read : journal_line c.args.spec.now c.loop-line.armed c.loop-line.reading c.loop-line.lines.line c.loop-line.lines.bytes ≡ Ok c.add_line.new.reading = search rules in
    let few = few_here c.args.spec.now _ c.loop-line.armed c.loop-line.reading c.add_line.new.reading c.loop-line.machine c.loop-line.lines c.requires.fits c.loop-line.invariant.so_far c.loop-line.invariant.none read in
    omega (arith, few, c.run_read-armed.ensures.count)

pub loop-line-preserved : goal.loop-line-preserved
loop-line-preserved c =
    let read : journal_line c.args.spec.now c.loop-line.armed c.loop-line.reading c.loop-line.lines.line c.loop-line.lines.bytes ≡ Ok c.add_line.new.reading = search rules in
    record {
      so_far = rw c.run_read-armed.ensures.count (runs_more c.args.spec.now _ c.loop-line.armed c.loop-line.reading c.add_line.new.reading c.run_read-armed.new.reading c.loop-line.machine c.run_read-armed.new.machine
          c.loop-line.lines c.next.new.self c.loop-line.invariant.so_far c.loop-line.invariant.none c.in-Some.ensures.some.1 c.in-Some.ensures.some.2 read
          c.run_read-armed.ensures.forgotten c.run_read-armed.ensures.ran);
      none = search rules;
    }

pub returns-in_err-add_line : goal.returns-in_err-add_line
returns-in_err-add_line c =
    let fails : Fails c.in_err-add_line.field-0.0 (buffers_if_read c.args.spec.now (body_of c.args.spec.now nothing_read c.args.lines.now.line c.args.lines.now.bytes c.args.lines.now.more)) =
    runs_no_more c.args.spec.now _ c.loop-line.armed c.loop-line.reading c.loop-line.machine c.loop-line.lines c.next.new.self c.in_err-add_line.field-0.0 c.loop-line.invariant.so_far c.loop-line.invariant.none
    c.in-Some.ensures.some.1 (search rules) in
    search (rules, fails)

pub returns-in_err-end : goal.returns-in_err-end
returns-in_err-end c =
    let fails : buffers_if_read c.args.spec.now (body_of c.args.spec.now nothing_read c.args.lines.now.line c.args.lines.now.bytes c.args.lines.now.more) ≡ Err c.in_err-end.field-0.0 =
    ends_faulty c.args.spec.now _ c.loop-line.armed c.loop-line.reading c.loop-line.machine c.loop-line.lines c.in_err-end.field-0.0 c.loop-line.invariant.so_far c.in_default.ensures.none.0 (search rules) in
    search (rules, fails)

pub returns-then-not-reading : goal.returns-then-not-reading
returns-then-not-reading c =
    rw (c.order_fault.ensures, c.number.ensures, c.in_default.ensures.none.1) (ends_early c.args.spec.now _ c.loop-line.armed c.loop-line.reading c.loop-line.machine c.loop-line.lines c.loop-line.invariant.so_far c.in_default.ensures.none.0 (search rules) (search rules))

pub returns : goal.returns
returns c =
    ends c.args.spec.now _ c.loop-line.armed c.loop-line.reading c.loop-line.machine c.loop-line.lines c.loop-line.invariant.so_far c.loop-line.invariant.none c.in_default.ensures.none.0 (search rules) (search rules)
