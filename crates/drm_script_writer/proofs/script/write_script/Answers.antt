use Rattle.std.proofs.Common.{◌≡◌, rules}
use Rattle.drm_script.proofs.ScriptReaders.{script_again}
use Rattle.drm_script_writer.specs.Texts.{script_with, text_of_script}
use Rattle.drm_script_writer.proofs.Scripts.{written_spells}
use Rattle.drm_script_writer.proofs.script.write_script.Goals as goal

pub returns-clause-spelled : goal.returns-clause-spelled
unfolding text_of_script
returns-clause-spelled c =
    let text = c.put_commands.new.out.items in
    let is : text ≡ text_of_script c.args.spec.now c.args.events.now = search rules in
    written_spells text c.args.spec.now c.args.events.now is c.requires.limits c.requires.names c.in_ok-put_header.ensures.fits c.in_ok-put_commands.ensures.fits

pub returns-clause-read_back : goal.returns-clause-read_back
returns-clause-read_back c = λ short. script_again c.put_commands.new.out.items (script_with c.args.spec.now c.args.events.now) (returns-clause-spelled c short)
