use Rattle.std.proofs.Common.{ap, sym, ◌∙◌, rules}
use Rattle.drm_types.specs.Firsts.{when}
use Rattle.drm_state.specs.declared.answer.Refusal.TheVariants.{AlreadyStopped}
use Rattle.drm_table.proofs.Reaping.{stopped_done}
use Rattle.drm_table.proofs.table.Table.cancel.Goals as goal

pub returns-clause-stopped : goal.returns-clause-stopped
returns-clause-stopped c = (
  ap (λ b. when b AlreadyStopped) (sym c.is_stopped.ensures ∙ c.if-is_stopped.false),
  (stopped_done c.args.self.now c.args.entity c.stop.new.self c.requires.whole c.requires.there (search rules)).0,
)

pub returns-clause-whole : goal.returns-clause-whole
returns-clause-whole c = (stopped_done c.args.self.now c.args.entity c.stop.new.self c.requires.whole c.requires.there (search rules)).1
