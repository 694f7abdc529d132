use Rattle.std.proofs.Common.{◌∙◌, ℕ, List, Option, subst, sym, ap}
use Rattle.std.specs.Prelude.{unwrap_or}
use Rattle.drm_state.specs.declared.journal.JobRecord.{JobRecord}
use Rattle.drm_reason.specs.Reasons.{is_going, least_going}
use Rattle.drm_reason.specs.Watching.{IsKnownBelow}
use Rattle.drm_reason.proofs.Looks.{known_ended}
use Rattle.drm_reason.proofs.watch.Watch.queued.Goals as goal

pub returns-then-is_stopped-clause-known : goal.returns-then-is_stopped-clause-known
returns-then-is_stopped-clause-known c =
    let d = c.args.device.now.state in
    let known = c.unwrap_or-self.ensures
    ∙ ap (λ (o : Option ℕ). unwrap_or o c.args.self.now.fence)
    (c.first_going-behind.ensures ∙ ap (λ (js : List JobRecord). least_going js c.args.self.now.fence c.args.job.now) c.records.ensures) in
    record {
      met = c.requires.known.met;
      ended = subst (λ (k : ℕ). IsKnownBelow d.journal c.args.self.now.fence is_going k) (sym known) (known_ended d.journal c.args.self.now.fence c.args.job.now c.requires.at);
    }
