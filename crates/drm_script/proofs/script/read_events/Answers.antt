use Rattle.std.proofs.Common.{rules}
use Rattle.drm_script.proofs.script.read_events.Goals as goal

pub read_event_line-requires : goal.read_event_line-requires
read_event_line-requires c = search rules
