use Rattle.drm_script_writer.proofs.Recorded.{led}
use Rattle.drm_script_writer.proofs.recording.last_core.Goals as goal

pub returns : goal.returns
returns c =
    led c.args.script c.in-Ok.core c.take_all.new.core c.every_run_is_lawful.ensures c.in-Ok.ensures.ok.0 c.requires.exist c.take_all.ensures
