use Rattle.drm_perfetto.proofs.Pens.{entries_more}
use Rattle.drm_perfetto.proofs.rows.put_pair.Goals as goal

pub returns : goal.returns
returns g c = entries_more c.put.ensures c.put-2.ensures
