use Rattle.std.proofs.Common.{◌∙◌, ap}
use Rattle.drm_types.specs.Firsts.{first}
use Rattle.drm_table.proofs.TableFacts.{pending_told}
use Rattle.drm_table.proofs.table.Table.head.Goals as goal

pub returns : goal.returns
returns c = c.head.ensures ∙ ap first (pending_told c.args.self.now.rings c.args.ring)
