use Rattle.std.proofs.Common.{rules}
use Rattle.drm_journal.specs.Journal.{body_of, judge_journal}
use Rattle.drm_journal.specs.Leaving.{judge_buffers}
use Rattle.drm_journal.proofs.Turns.{of_lines}
use Rattle.drm_journal.proofs.running.run_text.Goals as goal

pub returns : goal.returns
unfolding judge_buffers judge_journal body_of
returns c = search (rules, of_lines)

pub returns-in_err-told : goal.returns-in_err-told
unfolding judge_buffers judge_journal body_of
returns-in_err-told c = search (rules, of_lines)
