use Rattle.ww_lock_tests.proofs.locking.count_and_release.Goals as goal

pub release_all-requires : goal.release_all-requires
release_all-requires c = c.count_held.ensures _ c.requires
