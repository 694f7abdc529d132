use Rattle.lock_bench.proofs.rounds.round.Goals as goal

pub release_all-requires : goal.release_all-requires
release_all-requires g c = c.count_held.ensures _ c.lock_all.ensures
