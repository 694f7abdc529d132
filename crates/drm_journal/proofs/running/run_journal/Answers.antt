use Rattle.drm_journal.proofs.Turns.{buffers_stand, sizes_stand}
use Rattle.drm_journal.proofs.running.run_journal.Goals as goal

pub returns-clause-stands : goal.returns-clause-stands
returns-clause-stands c = buffers_stand c.args.text.now c.run_text.result c.run_text.ensures

pub returns-clause-sizes : goal.returns-clause-sizes
returns-clause-sizes c = sizes_stand c.run_text.result (buffers_stand c.args.text.now c.run_text.result c.run_text.ensures)
