-- What the first bytes of a text tell of it.
use Rattle.std.proofs.Common.{◌≡◌, ℕ, List, length, take, ap, arith, inl, inr, lt-ltb}
use Rattle.std.proofs.lemmas.Bool.{cases_lt}
use Rattle.std.proofs.lemmas.List.{length-take, take_all}
use Rattle.drm_script.specs.Run.{judge_run}
use Rattle.drm_script.specs.Script.{judge_script}

-- a text that is too long is seen to be by its first bytes
pub judge_script_taken : (text : List ℕ) → judge_script (take 1048577 text) ≡ judge_script text
unfolding judge_script
judge_script_taken text =
    elim (cases_lt 1048576 (length text)) [
      | inl lt ↦ rw (lt-ltb 1048576 (length text) lt, lt-ltb 1048576 (length (take 1048577 text)) (omega (arith, length-take 1048577 text)))
      | inr le ↦ ap judge_script (take_all 1048577 text (omega arith))
    ]

pub judge_run_taken : (text : List ℕ) → judge_run (take 1048577 text) ≡ judge_run text
unfolding judge_run
judge_run_taken text =
    elim (cases_lt 1048576 (length text)) [
      | inl lt ↦ rw (lt-ltb 1048576 (length text) lt, lt-ltb 1048576 (length (take 1048577 text)) (omega (arith, length-take 1048577 text)))
      | inr le ↦ ap judge_run (take_all 1048577 text (omega arith))
    ]
