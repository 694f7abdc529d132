use Rattle.std.proofs.Common.{◌≡◌, ◌∙◌, ℕ, true, List, Option, subst, sym, ap}
use Rattle.std.specs.Prelude.{option_map, unwrap_or}
use Rattle.drm_state.specs.Journal.{is_at}
use Rattle.drm_state.specs.declared.journal.JobRecord.{JobRecord}
use Rattle.drm_reason.specs.Reasons.{least_unmet}
use Rattle.drm_reason.specs.Standing.{is_unmet}
use Rattle.drm_reason.specs.Watching.{IsKnownBelow, NoneBelow}
use Rattle.drm_reason.proofs.Awaits.{head_awaits}
use Rattle.drm_reason.proofs.Looks.{known_met, unmet_told}
use Rattle.drm_reason.proofs.watch.Watch.head_awaits.Goals as goal

pub first_unmet-unmet-requires : goal.first_unmet-unmet-requires
first_unmet-unmet-requires c =
    subst (λ (js : List JobRecord). NoneBelow js (is_unmet c.args.job.now) c.first_left-from.result) (sym c.records-records.ensures) c.first_left-from.ensures

pub returns-clause-awaited : goal.returns-clause-awaited
returns-clause-awaited c =
    let d = c.args.device.now.state in
    c.first_unmet-unmet.ensures
    ∙ (ap (λ (js : List JobRecord). option_map (λ (m : ℕ × JobRecord). m.0) (least_unmet js c.args.self.now.fence c.args.job.now)) c.records-records.ensures
    ∙ head_awaits d c.args.self.now.fence c.args.job.now)

pub returns-clause-known : goal.returns-clause-known
returns-clause-known c =
    let d = c.args.device.now.state in
    let known = c.unwrap_or-self.ensures
    ∙ ap (λ (o : Option ℕ). unwrap_or o c.args.self.now.fence)
    (c.first_unmet-unmet.ensures ∙ ap (λ (js : List JobRecord). option_map (λ (m : ℕ × JobRecord). m.0) (least_unmet js c.args.self.now.fence c.args.job.now)) c.records-records.ensures) in
    subst (λ (k : ℕ). IsKnownBelow d.journal c.args.self.now.fence is_unmet k) (sym known) (known_met d.journal c.args.self.now.fence c.args.job.now c.requires.at)

pub returns-then-waits_for-clause-awaited : goal.returns-then-waits_for-clause-awaited
returns-then-waits_for-clause-awaited c =
    let d = c.args.device.now.state in
    let job = c.args.job.now in
    let met = c.args.self.now.met in
    let waits : is_at d.journal met (λ earlier. is_unmet job (met, earlier)) ≡ true =
    subst (λ (js : List JobRecord). is_at js met (λ earlier. is_unmet job (met, earlier)) ≡ true) c.records-records.ensures (sym c.waits_for.ensures ∙ c.if-waits_for.true) in
    unmet_told d.journal job c.args.self.now.fence met (c.requires.known.none job c.requires.at) c.if-self.true waits ∙ head_awaits d c.args.self.now.fence job
