use Rattle.drm_command_line.proofs.Commands.{added, added_last}
use Rattle.drm_command_line.proofs.program.core_program.Goals as goal

pub returns : goal.returns
returns c =
    let replay = added _ _ _ _ _ c.bare_program-bare.ensures.app c.in_ok-replay.ensures.app c.in_ok-replay.ensures.local c.in_ok-answers.ensures in
    let serial = added _ _ _ _ _ replay c.command-serial.ensures.app c.command-serial.ensures.local c.in_ok-serializes.ensures in
    let check = added _ _ _ _ _ serial c.command-check.ensures.app c.command-check.ensures.local c.in_ok-checks.ensures in
    let run = added _ _ _ _ _ check c.in_ok-run.ensures.app c.in_ok-run.ensures.local c.in_ok-runs.ensures in
    added_last _ _ c.subcommand-5.result _ _ run c.in_ok-explain.ensures.app c.in_ok-explain.ensures.local c.subcommand-5.ensures
