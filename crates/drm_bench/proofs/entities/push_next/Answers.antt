use Rattle.std.proofs.Common.{◌+◌, sym, subst, arith}
use Rattle.drm_entity.specs.Rows.{EntityRows}
use Rattle.drm_bench.specs.Queued.{AllBelow}
use Rattle.drm_bench.proofs.Pushed.{below_more, below_pushed}
use Rattle.drm_bench.proofs.entities.push_next.Goals as goal

pub push-requires-clause-fresh : goal.push-requires-clause-fresh
push-requires-clause-fresh c = λ entity in_queue. absurd (omega (arith, c.requires.below entity c.args.job in_queue))

pub returns-then-entity-len-clause-below : goal.returns-then-entity-len-clause-below
returns-then-entity-len-clause-below c =
    subst (λ (e : EntityRows). AllBelow e (c.args.job + 1)) (sym c.push.ensures) (below_pushed c.args.entities.now c.args.entity c.args.job c.requires.below)

pub returns-else-entity-len-clause-below : goal.returns-else-entity-len-clause-below
returns-else-entity-len-clause-below c = below_more c.args.entities.now c.args.job c.requires.below
