use Rattle.std.proofs.Common.{rules}
use Rattle.drm_journal.specs.Journal.{body_of}
use Rattle.drm_journal.proofs.JournalReaders.{line_keeps}
use Rattle.drm_journal.proofs.journal.read_body.Goals as goal

pub loop-line-preserved : goal.loop-line-preserved
unfolding body_of
loop-line-preserved c =
    (search rules, line_keeps c.args.spec.now c.loop-line.reading c.in-Some.line.number c.in-Some.line.bytes c.add_line.new.reading c.loop-line.invariant.1 (search rules))

pub returns-clause-value : goal.returns-clause-value
unfolding body_of
returns-clause-value c = search rules

pub returns-clause-read : goal.returns-clause-read
unfolding body_of
returns-clause-read c = search rules
