use Rattle.drm_why.proofs.Commands.{texts_begin}
use Rattle.drm_why.proofs.texts_begin_lines.Goals as goal

pub returns : goal.returns
returns c = texts_begin
