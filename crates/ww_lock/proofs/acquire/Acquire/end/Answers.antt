use Rattle.ww_lock.proofs.acquire.Acquire.end.Goals as goal

pub returns-clause-outside : goal.returns-clause-outside
returns-clause-outside g c = λ z h. record { sits = h.sits; none = c.requires.0 }
