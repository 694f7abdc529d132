-- The grammar of scripts for threads: the words of their lines, and the order of the lines.
use Rattle.std.specs.Prelude.{◌≡◌, ◌≤◌, ℕ, List, ◌∷◌, ◌++◌, length, map, codes}
use Rattle.std.specs.List.{AllByRecursion}
use Rattle.drm_job.specs.declared.Draft.{Draft}
use Rattle.drm_text.specs.Grammar.{text_of_lines}
use Rattle.drm_script.specs.declared.run_script.RunScript.{RunScript}
use Rattle.drm_parse.specs.Grammar.{Line, job_words, JobFits, SpellsHeader}
use Rattle.drm_script.specs.Run.{AreRunnable}

abbrev pub submit_words : Draft → Line
submit_words job = codes "submit" ∷ job_words job

-- the text is a header and a line for each job, no more jobs than the device takes, and spells the script
unfoldable pub SpellsRun : List ℕ → RunScript → Type 0
SpellsRun text script =
    (header : List Line) × SpellsHeader header script.spec
    × AllByRecursion JobFits script.jobs × AreRunnable script.spec script.jobs × (length script.jobs ≤ script.spec.max_jobs)
    × (text ≡ text_of_lines (header ++ map submit_words script.jobs))
    × (length text ≤ 1048576)
