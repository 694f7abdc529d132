use Rattle.std.proofs.Common.{◌≡◌, ◌∙◌, ℕ, List, Some, Option, subst, sym, ap}
use Rattle.std.specs.Prelude.{option_map, unwrap_or}
use Rattle.drm_lists.proofs.Places.{at_index}
use Rattle.drm_state.specs.declared.journal.JobRecord.{JobRecord}
use Rattle.drm_reason.specs.Reasons.{least_unmet}
use Rattle.drm_reason.specs.Standing.{is_unmet}
use Rattle.drm_reason.specs.Watching.{IsKnownBelow, NoneBelow}
use Rattle.drm_reason.proofs.Looks.{found_within, known_met, waits_told}
use Rattle.drm_reason.proofs.watch.Watch.head.Goals as goal

pub first_unmet-unmet-requires : goal.first_unmet-unmet-requires
first_unmet-unmet-requires c =
    subst (λ (js : List JobRecord). NoneBelow js (is_unmet c.args.job.now) c.args.self.now.met) (sym c.records-records.ensures) (c.requires.known.none c.args.job.now c.requires.at)

pub bounds-records-number : goal.bounds-records-number
bounds-records-number c =
    found_within c.records-records.result.now c.args.self.now.fence c.in-Some.number c.args.job.now c.in-Some.ensures

pub returns-in-Some-clause-reason : goal.returns-in-Some-clause-reason
returns-in-Some-clause-reason c =
    let d = c.args.device.now.state in
    let found : Some c.in-Some.number ≡ option_map (λ (m : ℕ × JobRecord). m.0) (least_unmet d.journal c.args.self.now.fence c.args.job.now) =
    subst (λ (js : List JobRecord). Some c.in-Some.number ≡ option_map (λ (m : ℕ × JobRecord). m.0) (least_unmet js c.args.self.now.fence c.args.job.now)) c.records-records.ensures c.in-Some.ensures in
    let within = found_within d.journal c.args.self.now.fence c.in-Some.number c.args.job.now found in
    let earlier = c.index-records-number.result in
    let at = at_index d.journal c.in-Some.number earlier (rw c.records-records.ensures at c.index-records-number.is) within in
    c.waits.ensures ∙ waits_told d c.args.self.now.fence c.in-Some.number c.args.job.now earlier found at

pub returns-in-Some-clause-known : goal.returns-in-Some-clause-known
returns-in-Some-clause-known c =
    let d = c.args.device.now.state in
    let known = c.unwrap_or-self.ensures
    ∙ ap (λ (o : Option ℕ). unwrap_or o c.args.self.now.fence)
    (c.first_unmet-unmet.ensures ∙ ap (λ (js : List JobRecord). option_map (λ (m : ℕ × JobRecord). m.0) (least_unmet js c.args.self.now.fence c.args.job.now)) c.records-records.ensures) in
    subst (λ (k : ℕ). IsKnownBelow d.journal c.args.self.now.fence is_unmet k) (sym known) (known_met d.journal c.args.self.now.fence c.args.job.now c.requires.at)

pub returns-in-None-clause-known : goal.returns-in-None-clause-known
returns-in-None-clause-known c =
    let d = c.args.device.now.state in
    let known = c.unwrap_or-self.ensures
    ∙ ap (λ (o : Option ℕ). unwrap_or o c.args.self.now.fence)
    (c.first_unmet-unmet.ensures ∙ ap (λ (js : List JobRecord). option_map (λ (m : ℕ × JobRecord). m.0) (least_unmet js c.args.self.now.fence c.args.job.now)) c.records-records.ensures) in
    subst (λ (k : ℕ). IsKnownBelow d.journal c.args.self.now.fence is_unmet k) (sym known) (known_met d.journal c.args.self.now.fence c.args.job.now c.requires.at)

pub returns-then-is_chosen-clause-reason : goal.returns-then-is_chosen-clause-reason
returns-then-is_chosen-clause-reason c = c.fit.ensures ∙ sym (c.is_chosen.ensures c.if-is_chosen.true)
