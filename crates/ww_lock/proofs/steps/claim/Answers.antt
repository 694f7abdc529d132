use Rattle.std.proofs.Common.{arith, ap, ◌∙◌, ◌+◌}
use Rattle.ww_lock.proofs.Kept.{claims}
use Rattle.ww_lock.proofs.steps.claim.Goals as goal

pub compare_exchange-requires : goal.compare_exchange-requires
compare_exchange-requires g c = let t = c.requires.table in let a = t.0 in let w = t.1 in let n = t.2 in let ward = g.W.Ward in
    (a, (let e = c.number.ensures in omega arith), rw c.number.ensures (claims ward.facts ward.lawful c.args.shared.now.key.posts _ _ _ c.args.buffer c.args.ticket n c.requires.seat.0 c.requires.seat.1 c.requires.free))

pub returns-clause-claimed : goal.returns-clause-claimed
returns-clause-claimed g c = λ b e. c.compare_exchange.ensures.2 b (ap (λ k. k + 2) c.number.ensures ∙ e)
