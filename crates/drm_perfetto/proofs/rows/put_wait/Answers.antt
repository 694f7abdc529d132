use Rattle.drm_perfetto.proofs.Pens.{entries_more}
use Rattle.drm_perfetto.proofs.rows.put_wait.Goals as goal

pub returns : goal.returns
returns g c = entries_more c.put_arrow.ensures c.put_turned.ensures
