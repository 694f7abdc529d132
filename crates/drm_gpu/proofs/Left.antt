-- A device that is taken apart.
use Rattle.std.proofs.Common.{◌≡◌, ◌∙◌, ℕ, List, [], All, Some, false, ap, sym, subst, ⊎_elim}
use Rattle.std.specs.Prelude.{slice_get, slice_index_or}
use Rattle.std.proofs.lemmas.Option.{slice_get-get_or}
use Rattle.atomic_table.specs.Seated.{TableId}
use Rattle.ww_lock.specs.Lifetime.{HasAll}
use Rattle.ww_lock.specs.Parts.{IsWhole}
use Rattle.ww_lock.specs.Rule.{In}
use Rattle.drm_types.specs.declared.spec.DeviceSpec.{DeviceSpec}
use Rattle.drm_job.specs.Fault.{IsJob}
use Rattle.drm_state.specs.declared.journal.JobRecord.{JobRecord}
use Rattle.drm_state.specs.Lawful.{IsSound}
use Rattle.drm_sched.specs.Marks.{MarkedDevice}
use Rattle.drm_gpu.specs.Passes.{Knows, PassState, Seeing, last_of, pass_of}

-- who has taken in all others takes apart what the pass saw last
pub last_left : (spec : DeviceSpec) (home : TableId) (old : PassState) (device : MarkedDevice) (v : Seeing) → Knows spec (last_of v) v → pass_of home v ≡ old → v.lock.owes ≡ [] → v.pivot.inside ≡ false
    → (HasAll v → In device v.pivot.seen) → IsWhole old.part → device ≡ old.last
last_left spec home old device v k view owes outside last all =
    ⊎_elim (λ is. is) (λ no. absurd no) (subst (In device) k.seen (last (subst (λ (o : PassState). IsWhole o.part) (sym view) all, owes, outside))) ∙ ap (λ (o : PassState). o.last) view

-- the records that a device leaves are of jobs of its description
pub jobs_of : (spec : DeviceSpec) (journal : List JobRecord) (left : DeviceSpec) (records : List JobRecord) → left ≡ spec → records ≡ journal
    → ((i : ℕ) (r : JobRecord) → slice_get journal i ≡ Some r → IsSound spec r) → All (λ r. IsJob left r.job) records
jobs_of spec journal left records same all sound =
    subst (λ s. All (λ r. IsJob s r.job) records) (sym same)
    (subst (λ rs. All (λ r. IsJob spec r.job) rs) (sym all) (λ k d l. (sound k (slice_index_or journal k d) (slice_get-get_or journal k d l)).job))
