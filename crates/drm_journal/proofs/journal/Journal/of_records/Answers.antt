use Rattle.std.proofs.Common.{◌≡◌, ℕ, ◌∙◌, sym, subst}
use Rattle.drm_buffer.specs.Stored.{AreIn}
use Rattle.drm_journal.specs.Journal.{JournalParts, IsJournal}
use Rattle.drm_journal.specs.Leaving.{left_by}
use Rattle.drm_journal.proofs.CoreJournal.{is_journal, told_checks, parts_told, as_many}
use Rattle.drm_journal.proofs.journal.Journal.of_records.Goals as goal

pub tell_buffers-requires-clause-all : goal.tell_buffers-requires-clause-all
tell_buffers-requires-clause-all c = c.len.ensures ∙ sym (as_many c.args.buffers.now.bytes c.args.spec.buffers c.requires.sizes)

pub tell_buffers-requires-clause-inside : goal.tell_buffers-requires-clause-inside
tell_buffers-requires-clause-inside c = subst (λ (n : ℕ). AreIn n c.args.buffers.now.out) (sym c.len.ensures) c.requires.inside

pub new-requires : goal.new-requires
new-requires c =
    subst IsJournal (parts_told c.args.spec c.args.records c.args.buffers.now.bytes c.in_ok-jobs.jobs c.in_ok-finals.finals c.in_ok-jobs.ensures c.in_ok-finals.ensures)
    (is_journal c.args.spec c.args.records c.args.buffers.now.bytes c.requires.left c.requires.limits c.requires.sizes)

pub returns-clause-value : goal.returns-clause-value
returns-clause-value c =
    c.new.ensures ∙ sym (parts_told c.args.spec c.args.records c.args.buffers.now.bytes c.in_ok-jobs.jobs c.in_ok-finals.finals c.in_ok-jobs.ensures c.in_ok-finals.ensures)

pub returns-clause-same : goal.returns-clause-same
returns-clause-same c = λ bytes.
    subst (λ (j : JournalParts). left_by j ≡ j.finals)
    (parts_told c.args.spec c.args.records c.args.buffers.now.bytes c.in_ok-jobs.jobs c.in_ok-finals.finals c.in_ok-jobs.ensures c.in_ok-finals.ensures ∙ sym c.new.ensures)
    (told_checks c.args.spec c.args.records c.args.buffers.now.bytes bytes)
