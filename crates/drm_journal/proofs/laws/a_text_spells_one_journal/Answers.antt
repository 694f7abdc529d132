use Rattle.std.proofs.Common.{sym, ◌∙◌}
use Rattle.drm_text.proofs.WordReaders.{ok_is}
use Rattle.drm_journal.proofs.JournalReaders.{journal_again}
use Rattle.drm_journal.proofs.laws.a_text_spells_one_journal.Goals as goal

pub returns : goal.returns
returns c = λ text x y spells_x spells_y. ok_is x y (sym (journal_again text x spells_x) ∙ journal_again text y spells_y)
