use Rattle.std.proofs.Common.{rules}
use Rattle.drm_answer.proofs.lines.place_job_fault.Goals as goal

pub returns-in-MoveNotKernel-clause-text : goal.returns-in-MoveNotKernel-clause-text
returns-in-MoveNotKernel-clause-text c = search rules

pub returns-in-PacketOnHold-clause-text : goal.returns-in-PacketOnHold-clause-text
returns-in-PacketOnHold-clause-text c = search rules
