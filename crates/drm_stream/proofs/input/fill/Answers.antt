use Rattle.std.proofs.Common.{◌∙◌, arith, rules}
use Rattle.std.proofs.lemmas.Grind.{common_steps}
use Rattle.std.proofs.lemmas.Result.{err_from_is_err_and}
use Rattle.drm_stream.proofs.Known.{fails_later, reads_more, reads_failed}
use Rattle.drm_stream.proofs.input.fill.Goals as goal

pub reads-preserved : goal.reads-preserved
reads-preserved g c =
    let read = c.in_ok-count.ensures in
    record {
      within = read.fits;
      bound = c.read_more.ensures.bound;
      taken = reads_more c.args.reader.now.remaining c.reads.reader.remaining c.read_more.new.reader.remaining c.reads.text.items c.read_more.new.text.items c.reads.len c.in_ok-count.count
          c.read_more.ensures.front c.reads.invariant.taken read.ok;
      few = omega (arith, c.reads.invariant.few, c.read_more.ensures.reads);
      none = (read.failures.0 ∙ c.reads.invariant.none.0, read.failures.1 ∙ c.reads.invariant.none.1);
    }

pub returns-in_err-count-clause-err : goal.returns-in_err-count-clause-err
returns-in_err-count-clause-err g c = first_of (search (rules, reads_failed), grind (arith, common_steps, reads_failed))

pub returns-in_err-count-clause-failures : goal.returns-in_err-count-clause-failures
returns-in_err-count-clause-failures g c =
    let p = err_from_is_err_and c.from_residual.result c.from_residual.ensures.1 in
    rw (p.1, p.2) (fails_later c.args.reader.now c.reads.reader c.read_more.new.reader _ c.reads.invariant.none c.in_err-count.ensures.failures)

pub read_more-requires-clause-few : goal.read_more-requires-clause-few
read_more-requires-clause-few g c = search rules
