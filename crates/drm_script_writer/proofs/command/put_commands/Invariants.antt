use Rattle.std.proofs.Common.{◌≡◌, ◌++◌, drop, take}
use Rattle.std.specs.Prelude.{flat_map}
use Rattle.std.specs.List.{AllByRecursion}
use Rattle.drm_script_writer.specs.Texts.{NumbersFit, line_of_command}
use Rattle.drm_script_writer.proofs.command.put_commands.Given as goal

abbrev pub invariant-loop-event : goal.invariant-loop-event
invariant-loop-event l =
    (l.out.items ++ flat_map line_of_command (drop l.event-index l.events) ≡ l.fn.out.items ++ flat_map line_of_command l.events)
    × AllByRecursion NumbersFit (take l.event-index l.events)
