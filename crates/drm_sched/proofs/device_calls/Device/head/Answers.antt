use Rattle.std.proofs.Common.{◌≡◌, ℕ, ◌<◌, ◌∙◌, length, sym, subst}
use Rattle.std.specs.Prelude.{option_map}
use Rattle.drm_types.specs.Firsts.{first}
use Rattle.drm_state.specs.declared.journal.JobRecord.{JobRecord}
use Rattle.drm_state.specs.Choice.{queue_of}
use Rattle.drm_table.proofs.Queues.{head_is_first}
use Rattle.drm_table.proofs.TableFacts.{entity_row_there}
use Rattle.drm_sched.specs.Marks.{MarkedDevice}
use Rattle.drm_sched.proofs.Boxed.{view_read, whole_read}
use Rattle.drm_sched.proofs.device_calls.Device.head.Goals as goal

pub head-requires : goal.head-requires
head-requires c =
    let there = subst (λ (d : MarkedDevice). c.args.entity < length d.state.spec.entities) (sym (view_read c.deref.ensures c.self.view_is)) c.requires.there in
    entity_row_there c.deref.result.now.table c.args.entity (whole_read c.deref.ensures c.self.invariant.0).table there

pub returns : goal.returns
returns c =
    let t = c.deref.result.now.table in
    let whole = (whole_read c.deref.ensures c.self.invariant.0).table in
    let there = subst (λ (d : MarkedDevice). c.args.entity < length d.state.spec.entities) (sym (view_read c.deref.ensures c.self.view_is)) c.requires.there in
    subst (λ (d : MarkedDevice). c.head.result ≡ option_map (λ (n : ℕ × JobRecord). n.0) (first (queue_of c.args.entity d.state.journal)))
    (view_read c.deref.ensures c.self.view_is)
    (c.head.ensures ∙ head_is_first t.journal.items t.entities c.args.entity whole.queues (entity_row_there t c.args.entity whole there))
