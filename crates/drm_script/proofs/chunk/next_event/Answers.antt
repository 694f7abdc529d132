use Rattle.std.proofs.Common.{rules}
use Rattle.drm_script.proofs.Joined.{brings_none}
use Rattle.drm_script.proofs.chunk.next_event.Goals as goal

pub bare_event-requires : goal.bare_event-requires
bare_event-requires c = brings_none c.args.kept c.in_default.not-Submit c.in_default.not-Plan

pub returns-in-Plan-clause-event : goal.returns-in-Plan-clause-event
returns-in-Plan-clause-event c = search rules
