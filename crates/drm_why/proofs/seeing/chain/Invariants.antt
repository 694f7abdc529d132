use Rattle.drm_why.proofs.Chained.{ChainOn}
use Rattle.drm_why.proofs.seeing.chain.Given as goal

abbrev pub invariant-loop-next : goal.invariant-loop-next
invariant-loop-next l = ChainOn l.fn.device.state l.fn.fence l.fn.first l.links.items l.number l.next

abbrev pub decreases-loop-next : goal.decreases-loop-next
decreases-loop-next l = l.number
