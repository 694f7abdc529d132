use Rattle.std.proofs.Common.{◌≡◌, ◌∙◌, List, ap, refl, sym, Some, slice_get, w32, rules}
use mir.Val.{SFits}
use Rattle.std.proofs.lemmas.Int.{to_z-of_z}
use Rattle.std.specs.Prelude.{option_map}
use Rattle.std.proofs.lemmas.Option.{slice_get-get_or, slice_get_past}
use Rattle.drm_fence.specs.Phases.{status_of}
use Rattle.drm_state.specs.declared.journal.JobRecord.{JobRecord}
use Rattle.drm_sched.specs.Marks.{MarkedDevice}
use Rattle.drm_sched.proofs.Boxed.{view_read}
use Rattle.drm_sched.proofs.device_calls.Device.status.Goals as goal

pub returns-in-Some : goal.returns-in-Some
returns-in-Some c =
    let journal : c.deref-2.result.now ≡ c.args.self.now.state.journal = c.deref-2.ensures.value ∙ ap (λ (d : MarkedDevice). d.state.journal) (view_read c.deref.ensures c.self.view_is) in
    let there : slice_get c.args.self.now.state.journal c.args.fence ≡ Some c.in-Some.record.now =
    sym (ap (λ (js : List JobRecord). slice_get js c.args.fence) journal)
    ∙ (slice_get-get_or c.deref-2.result.now c.args.fence c.in-Some.record.now c.in-Some.ensures.lookup.3.0 ∙ ap Some (sym c.in-Some.ensures.lookup.1)) in
    let fits : SFits w32 c.status.result = search rules in
    ap (option_map (λ (r : JobRecord). status_of r.phase)) there ∙ (ap Some (sym c.status.ensures) ∙ ap Some (sym (to_z-of_z w32 c.status.result fits)))

pub returns-in-None : goal.returns-in-None
returns-in-None c =
    let journal : c.deref-2.result.now ≡ c.args.self.now.state.journal = c.deref-2.ensures.value ∙ ap (λ (d : MarkedDevice). d.state.journal) (view_read c.deref.ensures c.self.view_is) in
    (refl, sym (ap (λ (js : List JobRecord). slice_get js c.args.fence) journal) ∙ slice_get_past c.deref-2.result.now c.args.fence c.in-None.ensures.lookup.3)
