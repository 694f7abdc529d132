use Rattle.drm_perfetto.proofs.Pens.{entries_none}
use Rattle.drm_perfetto.proofs.rows.put_queued.Goals as goal

pub returns-in-None : goal.returns-in-None
returns-in-None g c = rw c.in-None.is (entries_none c.args.pen.now c.args.writer.now)

pub returns-in-Some : goal.returns-in-Some
returns-in-Some g c = rw c.in-Some.is c.put.ensures
