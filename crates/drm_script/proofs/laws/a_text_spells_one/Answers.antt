use Rattle.std.proofs.Common.{sym, ◌∙◌}
use Rattle.drm_text.proofs.WordReaders.{ok_is}
use Rattle.drm_script.proofs.RunReaders.{run_again}
use Rattle.drm_script.proofs.ScriptReaders.{script_again}
use Rattle.drm_script.proofs.laws.a_text_spells_one.Goals as goal

pub returns-clause-script : goal.returns-clause-script
returns-clause-script c = λ text x y spells_x spells_y. ok_is x y (sym (script_again text x spells_x) ∙ script_again text y spells_y)

pub returns-clause-run : goal.returns-clause-run
returns-clause-run c = λ text x y spells_x spells_y. ok_is x y (sym (run_again text x spells_x) ∙ run_again text y spells_y)
