use Rattle.drm_gpu_tests.proofs.threads.threads_leave_what_their_jobs_leave_alone.Goals as goal

pub is_left_alone-requires : goal.is_left_alone-requires
is_left_alone-requires g c = c.closed-closed.ensures.jobs
