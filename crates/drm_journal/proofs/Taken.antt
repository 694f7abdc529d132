-- A text that is too long for a journal is seen to be by its first bytes.
use Rattle.std.proofs.Common.{◌≡◌, ℕ, List, length, take, ap, arith, inl, inr, lt-ltb}
use Rattle.std.proofs.lemmas.Bool.{cases_lt}
use Rattle.std.proofs.lemmas.List.{length-take, take_all}
use Rattle.drm_journal.specs.Journal.{judge_journal}

pub judge_journal_taken : (text : List ℕ) → judge_journal (take 1048577 text) ≡ judge_journal text
unfolding judge_journal
judge_journal_taken text =
    elim (cases_lt 1048576 (length text)) [
      | inl lt ↦ rw (lt-ltb 1048576 (length text) lt, lt-ltb 1048576 (length (take 1048577 text)) (omega (arith, length-take 1048577 text)))
      | inr le ↦ ap judge_journal (take_all 1048577 text (omega arith))
    ]
