use Rattle.std.proofs.Common.{◌≡◌, List, All, refl, sym, subst, ◌∙◌}
use Rattle.std.proofs.lemmas.List.Elements.{All-map, All-weaker}
use Rattle.drm_types.specs.declared.spec.DeviceSpec.{DeviceSpec}
use Rattle.drm_job.specs.Fault.{IsJob}
use Rattle.drm_job.specs.Laws.{JobsRunInTheirDevice}
use Rattle.drm_job.specs.Ranges.{RunsIn}
use Rattle.drm_state.specs.declared.journal.JobRecord.{JobRecord}
use Rattle.drm_state.specs.Journal.{turns}
use Rattle.drm_gpu_tests.proofs.alone.bytes_alone.Goals as goal

turns_fit : (spec : DeviceSpec) (records : List JobRecord) → JobsRunInTheirDevice → All (λ r. IsJob spec r.job) records → All (λ t. RunsIn spec.buffers t.job) (turns records)
turns_fit spec records law are = All-map (λ t. RunsIn spec.buffers t.job) (λ r. record { job = r.job; ran = r.ran }) records
    (All-weaker (λ r. IsJob spec r.job) (λ r. RunsIn spec.buffers r.job) (λ r is. law spec r.job spec.buffers is refl) records are)

pub run-requires : goal.run-requires
run-requires c =
    let taken : c.deref.result.now ≡ turns c.args.records.now = c.deref.ensures.value ∙ c.in_ok-turns.ensures in
    subst (λ ts. All (λ t. RunsIn c.args.spec.now.buffers t.job) ts) (sym taken) (turns_fit c.args.spec.now c.args.records.now c.jobs_run_in_their_device.ensures c.requires)
