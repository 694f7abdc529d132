use Rattle.drm_command_line.proofs.Commands.{added, added_last}
use Rattle.drm_command_line.proofs.program.program.Goals as goal

pub returns : goal.returns
returns c =
    let draw = added _ _ _ _ _ c.in_ok-core.ensures c.in_ok-draw.ensures.app c.in_ok-draw.ensures.local c.in_ok-draws.ensures in
    let explore = added _ _ _ _ _ draw c.in_ok-explore.ensures.app c.in_ok-explore.ensures.local c.in_ok-explores.ensures in
    let why = added _ _ _ _ _ explore c.in_ok-why.ensures.app c.in_ok-why.ensures.local c.in_ok-explains.ensures in
    let test = added _ _ _ _ _ why c.in_ok-test.ensures.app c.in_ok-test.ensures.local c.in_ok-tests.ensures in
    let conform = added _ _ _ _ _ test c.in_ok-conform.ensures.app c.in_ok-conform.ensures.local c.in_ok-judges.ensures in
    added_last _ _ c.subcommand-6.result _ _ conform c.in_ok-trace.ensures.app c.in_ok-trace.ensures.local c.subcommand-6.ensures
