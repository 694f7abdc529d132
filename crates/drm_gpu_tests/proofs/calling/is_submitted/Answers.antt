use Rattle.drm_gpu_tests.proofs.Pairs.{job_fits}
use Rattle.drm_gpu_tests.proofs.calling.is_submitted.Goals as goal

pub submit-pass-requires : goal.submit-pass-requires
submit-pass-requires g c = (c.requires.pass.1, job_fits c.args.gpu.now.spec c.args.job c.requires.pass.0 c.requires.job)
