-- What follows for a pair.
use Rattle.std.proofs.Common.{sym, subst}
use Rattle.drm_types.specs.declared.spec.DeviceSpec.{DeviceSpec}
use Rattle.drm_job.specs.declared.Draft.{Draft}
use Rattle.drm_job.specs.Fault.{IsJob}
use Rattle.drm_gpu_tests.specs.Pairs.{IsPair, pair_of}

-- a job of one pair is a job of each
pub job_fits : (spec : DeviceSpec) (job : Draft) → IsPair spec → IsJob (pair_of 8) job → IsJob spec job
job_fits spec job pair is = subst (λ s. IsJob s job) (sym pair.is) is
