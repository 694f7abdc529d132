use Rattle.drm_core.proofs.Looks.{status_done, status_none}
use Rattle.drm_core.proofs.cores.CoreTable.status.Goals as goal

pub returns-in-Ok : goal.returns-in-Ok
returns-in-Ok c = record { reply = status_done c.args.self.now c.args.fence c.in-Ok.status c.in-Ok.ensures }

pub returns-in-Err : goal.returns-in-Err
returns-in-Err c = record { reply = status_none c.args.self.now c.args.fence c.in-Err.ensures.1 }
