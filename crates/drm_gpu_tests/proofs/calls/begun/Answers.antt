use Rattle.drm_gpu_tests.proofs.Pairs.{job_fits}
use Rattle.drm_gpu_tests.proofs.calls.begun.Goals as goal

pub begin-requires-clause-job : goal.begin-requires-clause-job
begin-requires-clause-job g c = job_fits c.args.gpu.now.spec c.args.job c.requires.pass.0 c.requires.job
