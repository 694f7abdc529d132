-- What a run leaves is a report.
use Rattle.std.proofs.Common.{◌≡◌, ◌<◌, ◌≤◌, ◌+◌, ℕ, false, List, arith, sym, ap, ◌∙◌, subst, length, Some, All, slice_get, IsPermutation}
use Rattle.std.proofs.lemmas.List.Sorted.{length_permutation}
use Rattle.std.proofs.lemmas.Option.{slice_get-get_or}
use Rattle.drm_types.specs.declared.spec.DeviceSpec.{DeviceSpec}
use Rattle.drm_job.specs.declared.Draft.{Draft}
use Rattle.drm_serial.specs.Serial.{serial}
use Rattle.drm_resv.specs.Reservation.{WithRoom}
use Rattle.drm_state.specs.Journal.{turns}
use Rattle.drm_state.specs.Lawful.{IsSound}
use Rattle.drm_state.specs.Reservation.{Fits}
use Rattle.ww_lock.specs.Lifetime.{FitsAll}
use Rattle.drm_gpu.specs.declared.gpu.Closed.{Closed}
use Rattle.drm_workers.specs.declared.report.Report.{Report}
use Rattle.drm_workers.specs.Numbers.{armings}
use Rattle.drm_workers.specs.Jobs.{AreJobsOf, numbers_from}
use Rattle.drm_workers.specs.Reports.{AreInOrder, AreArmed, all_items, HasRun, IsComplete, IsReport}
use Rattle.drm_workers.specs.Shares.{share_of}
use Rattle.drm_workers.proofs.Rising.{AllBelow, count_of, longer, all_there, rises, below, jobs_stay, as_many}
use Rattle.drm_workers.proofs.Shared.{as_many_as_jobs}

module _ {V : Type 0} (items : V → List ℕ) (spec : DeviceSpec) (jobs : List Draft) (n : ℕ) (closed : Closed) (armed : List V) (run : HasRun items spec jobs n closed armed) where
  described : run.leaves.device.state.spec ≡ spec
  described = sym run.leaves.spec.0 ∙ (run.leaves.spec.1 ∙ run.described)

  order : AreInOrder items closed.records n jobs armed
  order = (
    run.order.0,
    λ s v at. subst (λ rs. AreJobsOf rs (items v) (share_of n s jobs)) (sym run.leaves.records)
        (jobs_stay run.pass.last run.leaves.device run.leaves.later (items v) (share_of n s jobs) (run.order.1 s v at)),
  )

  number : length (all_items items armed) ≡ length jobs
  number = as_many_as_jobs items n jobs armed run.submitters order.0 (λ s v at. as_many closed.records (items v) (share_of n s jobs) (order.1 s v at))

  numbers : length closed.records ≡ length jobs → IsPermutation (numbers_from 0 closed.records) (all_items items armed)
  numbers all =
      let there : count_of run.leaves.device ≡ length closed.records = ap length (sym run.leaves.records) in
      let known : count_of run.pass.last ≤ length closed.records = let g = longer run.pass.last run.leaves.device run.leaves.later in omega (arith, g, there) in
      let under : AllBelow (length closed.records) (armings run.pass.calls) =
      below run.pass.calls (length closed.records) (λ c h. let g = longer c.1 run.pass.last (run.ordered.lefts c h) in omega (arith, g, known)) in
      let long : length (armings run.pass.calls) ≡ length closed.records =
      sym (length_permutation (armings run.pass.calls) (all_items items armed) run.armings) ∙ (number ∙ sym all) in
      let from_none : length closed.records ≡ 0 + length closed.records = omega arith in
      subst (λ xs. IsPermutation xs (all_items items armed))
      (sym (all_there 0 (armings run.pass.calls) closed.records (rises run.pass.calls 0 run.ordered.chain (λ c h. omega arith)) (subst (λ h. AllBelow h (armings run.pass.calls)) from_none under) long))
      run.armings

  sound : All (IsSound spec) closed.records
  sound k d lt =
      let at = slice_get-get_or closed.records k d lt in
      subst (λ s. IsSound s _) described (run.leaves.lawful.records k _ (ap (λ rs. slice_get rs k) (sym run.leaves.records) ∙ at))

  bytes : closed.buffers.bytes ≡ serial spec.buffers (turns closed.records)
  bytes =
      run.leaves.bytes
      ∙ (run.leaves.lawful.memory
      ∙ (ap (λ (s : DeviceSpec). serial s.buffers (turns run.leaves.device.state.journal)) described ∙ ap (λ rs. serial spec.buffers (turns rs)) (sym run.leaves.records)))

  inside : (b : ℕ) → b < length spec.buffers → slice_get closed.buffers.out b ≡ Some false
  inside = subst (λ (s : DeviceSpec). (b : ℕ) → b < length s.buffers → slice_get closed.buffers.out b ≡ Some false) run.described run.leaves.inside

  fit : FitsAll (λ b (x : WithRoom). Fits b closed.records x.kept) 0 closed.resvs.items
  fit = subst (λ rs. FitsAll (λ b (x : WithRoom). Fits b rs x.kept) 0 closed.resvs.items) (sym run.leaves.records) run.leaves.fit

  places : length closed.resvs.items ≡ length spec.buffers
  places = run.leaves.count ∙ ap (λ (s : DeviceSpec). length s.buffers) described

  all_armed : length closed.records ≡ length jobs → AreArmed items closed.records n jobs armed
  all_armed all = record { order = order; numbers = numbers all }

-- what is told of a run is a report of it
pub reported : (spec : DeviceSpec) (jobs : List Draft) (n : ℕ) (r : Report) → HasRun (λ v. v.items) spec jobs n r.closed r.armed.items
    → IsComplete (length jobs) r.closed r.picked.items r.finished.items → IsReport spec jobs n r
reported spec jobs n r run complete = record {
  closed = record { pass = run.pass; leaves = run.leaves; whole = run.whole; described = run.described };
  device = run.leaves.spec.1 ∙ run.described;
  bytes = bytes (λ v. v.items) spec jobs n r.closed r.armed.items run;
  inside = inside (λ v. v.items) spec jobs n r.closed r.armed.items run;
  places = places (λ v. v.items) spec jobs n r.closed r.armed.items run;
  all = run.leaves.all run.whole;
  fit = fit (λ v. v.items) spec jobs n r.closed r.armed.items run;
  sound = sound (λ v. v.items) spec jobs n r.closed r.armed.items run;
  armed = all_armed (λ v. v.items) spec jobs n r.closed r.armed.items run complete.count;
  complete = complete;
}
