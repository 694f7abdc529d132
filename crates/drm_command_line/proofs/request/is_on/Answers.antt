use Rattle.std.proofs.Common.{◌∙◌, ap, false, codes}
use Rattle.std.specs.Option.{option_map_or}
use Rattle.std.specs.Str.{bytes_eq}
use Rattle.clap.specs.Words.{found_of}
use Rattle.clap.proofs.WalkLemmas.{one_text-rows}
use Rattle.drm_command_line.proofs.Entered.{flag_read}
use Rattle.drm_command_line.proofs.request.is_on.Goals as goal

pub returns : goal.returns
returns c =
    c.unwrap_or.ensures ∙ flag_read _ _ c.get_one.result c.get_one.ensures.none c.get_one.ensures.value
    ∙ ap (λ text. option_map_or (λ t. bytes_eq t (codes "true")) text false) (one_text-rows (found_of c.args.command.now) c.args.name.now)
