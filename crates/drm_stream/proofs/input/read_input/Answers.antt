use Rattle.std.proofs.Common.{rules}
use Rattle.std.proofs.lemmas.List.{places}
use Rattle.std.proofs.lemmas.Result.{err_from_is_err_and}
use Rattle.drm_stream.proofs.Known.{loses_first, reads_front, refused_memory, takes_none}
use Rattle.drm_stream.proofs.input.read_input.Goals as goal

pub returns-in_err-text-clause-most : goal.returns-in_err-text-clause-most
returns-in_err-text-clause-most g c = takes_none c.args.reader.now

pub returns-in_err-text-clause-failures : goal.returns-in_err-text-clause-failures
returns-in_err-text-clause-failures g c =
    let p = err_from_is_err_and c.from_residual.result c.from_residual.ensures.1 in rw p.1 (refused_memory c.args.reader.now _ p.2)

pub returns-in_err-len-clause-most : goal.returns-in_err-len-clause-most
returns-in_err-len-clause-most g c = (c.in_err-len.ensures.err, c.fill.ensures.reads)

pub returns-in_err-len-clause-failures : goal.returns-in_err-len-clause-failures
returns-in_err-len-clause-failures g c =
    let p = err_from_is_err_and c.from_residual-in_err-len.result c.from_residual-in_err-len.ensures.1 in rw (p.1, p.2) c.in_err-len.ensures.failures

pub returns-clause-text : goal.returns-clause-text
returns-clause-text g c =
    let read = c.in_ok-len.ensures in
    rw c.truncate.ensures.items (reads_front _ _ c.fill.new.text.items c.in_ok-len.len 1048577 (search (rules, places)) read.bound.1 read.end read.ok).0

pub returns-clause-left : goal.returns-clause-left
returns-clause-left g c =
    let read = c.in_ok-len.ensures in
    (reads_front _ _ c.fill.new.text.items c.in_ok-len.len 1048577 (search (rules, places)) read.bound.1 read.end read.ok).1

pub returns-clause-most : goal.returns-clause-most
returns-clause-most g c =
    let read = c.in_ok-len.ensures in (
      loses_first c.args.reader.now.remaining c.fill.new.reader.remaining 1048577
          (reads_front c.args.reader.now.remaining c.fill.new.reader.remaining c.fill.new.text.items c.in_ok-len.len 1048577 (search (rules, places)) read.bound.1 read.end read.ok).1,
      c.fill.ensures.reads,
    )
