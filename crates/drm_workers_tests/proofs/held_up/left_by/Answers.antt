use Rattle.drm_workers_tests.proofs.Worked.{all_of}
use Rattle.drm_workers_tests.proofs.held_up.left_by.Goals as goal

pub gathered-pass-requires-clause-dones : goal.gathered-pass-requires-clause-dones
gathered-pass-requires-clause-dones g c = all_of _ _ _ c.in-Ok-run_workers.ensures.worked
