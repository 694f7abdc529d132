use Rattle.ww_lock_tests.proofs.close_whole.Goals as goal

pub unreachable-requires : goal.unreachable-requires
unreachable-requires c = c.in-Err.ensures.last c.requires.whole

pub returns-clause-values : goal.returns-clause-values
returns-clause-values c = c.in-Ok.ensures.all c.requires.whole
