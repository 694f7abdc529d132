use Rattle.std.proofs.Common.{ap, not}
use Rattle.clap.specs.Words.{found_of}
use Rattle.drm_command_line.proofs.Entered.{gives_first}
use Rattle.drm_command_line.proofs.request.request_of.Goals as goal

pub returns-in-explain : goal.returns-in-explain
returns-in-explain c = (c.in-explain.is, gives_first (found_of c.args.command.now) _ _ c.get_str.ensures)

pub returns-in-draw : goal.returns-in-draw
returns-in-draw c = (c.in-draw.is, gives_first (found_of c.args.command.now) _ _ c.get_str-in-draw.ensures, gives_first (found_of c.args.command.now) _ _ c.get_str-in-draw-2.ensures, gives_first (found_of c.args.command.now) _ _ c.get_str-in-draw-3.ensures)

pub returns-in-explore : goal.returns-in-explore
returns-in-explore c = (
  c.in-explore.is,
  ap not c.is_on.ensures,
  ap not c.is_on-in-explore.ensures,
  gives_first (found_of c.args.command.now) _ _ c.get_str-in-explore.ensures,
  c.is_on-in-explore-2.ensures,
  gives_first (found_of c.args.command.now) _ _ c.get_str-in-explore-2.ensures,
  c.is_on-in-explore-3.ensures,
)

pub returns-in-why : goal.returns-in-why
returns-in-why c = (c.in-why.is, gives_first (found_of c.args.command.now) _ _ c.get_str-in-why.ensures, c.is_on-in-why.ensures, c.is_on-in-why-2.ensures)

pub returns-in-conform : goal.returns-in-conform
returns-in-conform c = (
  c.in-conform.is,
  c.is_on-in-conform.ensures,
  c.is_on-in-conform-2.ensures,
  gives_first (found_of c.args.command.now) _ _ c.get_str-in-conform.ensures,
  gives_first (found_of c.args.command.now) _ _ c.get_str-in-conform-2.ensures,
)
