use Rattle.std.proofs.Common.{◌≡◌, ◌<◌, ◌∙◌, sym, ap, subst, length, slice_get, ◌≤◌}
use Rattle.std.proofs.lemmas.Option.{slice_get_within}
use Rattle.drm_lists.proofs.Places.{at_index, contains_at}
use Rattle.drm_state.specs.declared.journal.JobRecord.{JobRecord}
use Rattle.drm_table.specs.Tables.{state_of}
use Rattle.drm_table.proofs.ArmDone.{few_entities}
use Rattle.drm_state.proofs.FinishLawful.{head_is}
use Rattle.drm_table.proofs.Hanging.{is_blamed, rows_there, since_pending, blamed_pending, resumed_done, guilty_done, guilty_passes}
use Rattle.drm_table.proofs.TableFacts.{entity_there, row_there, vec_holds}
use Rattle.drm_table.proofs.table.Table.hang.Goals as goal
use Rattle.drm_ring.specs.RingRows.{pending_at, passed_at, ring_row_changed}
use Rattle.drm_state.specs.Recovery.{all_skipped}
use Rattle.drm_state.specs.Rows.{is_open, passed_of, passed_row}

pub index-requires : goal.index-requires
index-requires c =
    let t = c.args.self.now in
    let h = head_is (state_of t) c.args.ring c.args.number c.requires.whole.steady.lawful c.requires.there c.requires.head in
    vec_holds t.journal c.args.number h.0 h.1.at

pub priority_of-priority-requires : goal.priority_of-priority-requires
priority_of-priority-requires c =
    let t = c.args.self.now in
    let h = head_is (state_of t) c.args.ring c.args.number c.requires.whole.steady.lawful c.requires.there c.requires.head in
    let at = at_index t.journal.items c.args.number c.index.result.now c.index.ensures (slice_get_within t.journal.items c.args.number h.0 h.1.at) in
    let same : h.0 ≡ c.index.result.now = cc (h.1.at, at) in
    let w = c.requires.whole in
    subst (λ e. e < length t.spec.entities) (sym c.entity-entity.ensures)
    (subst (λ (r : JobRecord). r.job.entity < length t.spec.entities) same
    (few_entities t.spec h.0.job w.limits (w.steady.lawful.records c.args.number h.0 h.1.at).job).0)

pub blame-is_guilty-requires : goal.blame-is_guilty-requires
blame-is_guilty-requires c =
    let t = c.args.self.now in
    let h = head_is (state_of t) c.args.ring c.args.number c.requires.whole.steady.lawful c.requires.there c.requires.head in
    vec_holds t.journal c.args.number h.0 h.1.at

pub returns-then-not-is_guilty-clause-expired : goal.returns-then-not-is_guilty-clause-expired
returns-then-not-is_guilty-clause-expired c =
    let t = c.args.self.now in
    let b = is_blamed t c.args.ring c.args.now c.args.number c.index.result.now c.entity-entity.result c.priority_of-priority.result c.blame-is_guilty.new.journal c.set_since.new.self c.ring_spec-limit.result
    c.blame-is_guilty.result c.requires.whole c.requires.there c.requires.head c.requires.hangs c.index.ensures c.entity-entity.ensures c.priority_of-priority.ensures
    c.blame-is_guilty.ensures.journal c.blame-is_guilty.ensures.room c.set_since.ensures c.blame-is_guilty.ensures.too_much c.ring_spec-limit.ensures in
    (resumed_done c.requires.whole c.requires.there b c.if-not-is_guilty.true).0

pub returns-then-not-is_guilty-clause-whole : goal.returns-then-not-is_guilty-clause-whole
returns-then-not-is_guilty-clause-whole c =
    let t = c.args.self.now in
    let b = is_blamed t c.args.ring c.args.now c.args.number c.index.result.now c.entity-entity.result c.priority_of-priority.result c.blame-is_guilty.new.journal c.set_since.new.self c.ring_spec-limit.result
    c.blame-is_guilty.result c.requires.whole c.requires.there c.requires.head c.requires.hangs c.index.ensures c.entity-entity.ensures c.priority_of-priority.ensures
    c.blame-is_guilty.ensures.journal c.blame-is_guilty.ensures.room c.set_since.ensures c.blame-is_guilty.ensures.too_much c.ring_spec-limit.ensures in
    (resumed_done c.requires.whole c.requires.there b c.if-not-is_guilty.true).1

pub set_guilty-requires : goal.set_guilty-requires
set_guilty-requires c =
    let t = c.args.self.now in
    let b = is_blamed t c.args.ring c.args.now c.args.number c.index.result.now c.entity-entity.result c.priority_of-priority.result c.blame-is_guilty.new.journal c.set_since.new.self c.ring_spec-limit.result
    c.blame-is_guilty.result c.requires.whole c.requires.there c.requires.head c.requires.hangs c.index.ensures c.entity-entity.ensures c.priority_of-priority.ensures
    c.blame-is_guilty.ensures.journal c.blame-is_guilty.ensures.room c.set_since.ensures c.blame-is_guilty.ensures.too_much c.ring_spec-limit.ensures in
    subst (λ e. e < length t.entities.rows) (sym c.entity-entity.ensures) (entity_there t c.args.number c.index.result.now c.requires.whole b.head.at)

pub set_since-requires : goal.set_since-requires
set_since-requires c = row_there c.args.self.now c.args.ring c.requires.whole c.requires.there

pub pending-pending-requires : goal.pending-pending-requires
pending-pending-requires c =
    let t = c.args.self.now in
    let b = is_blamed t c.args.ring c.args.now c.args.number c.index.result.now c.entity-entity.result c.priority_of-priority.result c.blame-is_guilty.new.journal c.set_since.new.self c.ring_spec-limit.result
    c.blame-is_guilty.result c.requires.whole c.requires.there c.requires.head c.requires.hangs c.index.ensures c.entity-entity.ensures c.priority_of-priority.ensures
    c.blame-is_guilty.ensures.journal c.blame-is_guilty.ensures.room c.set_since.ensures c.blame-is_guilty.ensures.too_much c.ring_spec-limit.ensures in
    rows_there b

pub condemn-requires : goal.condemn-requires
condemn-requires c k f at =
    let t = c.args.self.now in
    let b = is_blamed t c.args.ring c.args.now c.args.number c.index.result.now c.entity-entity.result c.priority_of-priority.result c.blame-is_guilty.new.journal c.set_since.new.self c.ring_spec-limit.result
    c.blame-is_guilty.result c.requires.whole c.requires.there c.requires.head c.requires.hangs c.index.ensures c.entity-entity.ensures c.priority_of-priority.ensures
    c.blame-is_guilty.ensures.journal c.blame-is_guilty.ensures.room c.set_since.ensures c.blame-is_guilty.ensures.too_much c.ring_spec-limit.ensures in
    let lent = since_pending b c.pending-pending.result.now.items c.pending-pending.ensures in
    let x = ((blamed_pending c.requires.whole c.requires.there b) f).0 (contains_at _ k f (ap (λ ns. slice_get ns k) (sym lent) ∙ at)) in
    vec_holds c.blame-is_guilty.new.journal f x.0 x.1

pub pass_over-requires-clause-there : goal.pass_over-requires-clause-there
pass_over-requires-clause-there c =
    let t = c.args.self.now in
    let b = is_blamed t c.args.ring c.args.now c.args.number c.index.result.now c.entity-entity.result c.priority_of-priority.result c.blame-is_guilty.new.journal c.set_since.new.self c.ring_spec-limit.result
    c.blame-is_guilty.result c.requires.whole c.requires.there c.requires.head c.requires.hangs c.index.ensures c.entity-entity.ensures c.priority_of-priority.ensures
    c.blame-is_guilty.ensures.journal c.blame-is_guilty.ensures.room c.set_since.ensures c.blame-is_guilty.ensures.too_much c.ring_spec-limit.ensures in
    rows_there b

pub pass_over-requires-clause-passed : goal.pass_over-requires-clause-passed
pass_over-requires-clause-passed c =
    let t = c.args.self.now in
    let since = c.set_since.new.self in
    let b = is_blamed t c.args.ring c.args.now c.args.number c.index.result.now c.entity-entity.result c.priority_of-priority.result c.blame-is_guilty.new.journal c.set_since.new.self c.ring_spec-limit.result
    c.blame-is_guilty.result c.requires.whole c.requires.there c.requires.head c.requires.hangs c.index.ensures c.entity-entity.ensures c.priority_of-priority.ensures
    c.blame-is_guilty.ensures.journal c.blame-is_guilty.ensures.room c.set_since.ensures c.blame-is_guilty.ensures.too_much c.ring_spec-limit.ensures in
    let lent = since_pending b c.pending-pending.result.now.items c.pending-pending.ensures in
    let skipped = c.condemn.ensures.journal ∙ ap (all_skipped c.entity-entity.result c.blame-is_guilty.new.journal.items) lent in
    subst (λ js. passed_at since c.args.ring ≤ passed_of (is_open js) (pending_at since c.args.ring)) (sym c.deref.ensures.value)
    (guilty_passes c.entity-entity.result c.condemn.new.journal.items c.requires.whole c.requires.there b skipped)

pub returns-clause-expired : goal.returns-clause-expired
returns-clause-expired c =
    let t = c.args.self.now in
    let b = is_blamed t c.args.ring c.args.now c.args.number c.index.result.now c.entity-entity.result c.priority_of-priority.result c.blame-is_guilty.new.journal c.set_since.new.self c.ring_spec-limit.result
    c.blame-is_guilty.result c.requires.whole c.requires.there c.requires.head c.requires.hangs c.index.ensures c.entity-entity.ensures c.priority_of-priority.ensures
    c.blame-is_guilty.ensures.journal c.blame-is_guilty.ensures.room c.set_since.ensures c.blame-is_guilty.ensures.too_much c.ring_spec-limit.ensures in
    let lent = since_pending b c.pending-pending.result.now.items c.pending-pending.ensures in
    let skipped = c.condemn.ensures.journal ∙ ap (all_skipped c.entity-entity.result c.blame-is_guilty.new.journal.items) lent in
    (guilty_done c.entity-entity.result c.condemn.new.journal c.pass_over.new.rings c.set_guilty.new.self c.requires.whole c.requires.there b c.if-not-is_guilty.false c.entity-entity.ensures
    skipped c.condemn.ensures.room (c.pass_over.ensures ∙ ap (λ js. ring_row_changed c.set_since.new.self c.args.ring (passed_row js)) c.deref.ensures.value) c.set_guilty.ensures).0

pub returns-clause-whole : goal.returns-clause-whole
returns-clause-whole c =
    let t = c.args.self.now in
    let b = is_blamed t c.args.ring c.args.now c.args.number c.index.result.now c.entity-entity.result c.priority_of-priority.result c.blame-is_guilty.new.journal c.set_since.new.self c.ring_spec-limit.result
    c.blame-is_guilty.result c.requires.whole c.requires.there c.requires.head c.requires.hangs c.index.ensures c.entity-entity.ensures c.priority_of-priority.ensures
    c.blame-is_guilty.ensures.journal c.blame-is_guilty.ensures.room c.set_since.ensures c.blame-is_guilty.ensures.too_much c.ring_spec-limit.ensures in
    let lent = since_pending b c.pending-pending.result.now.items c.pending-pending.ensures in
    let skipped = c.condemn.ensures.journal ∙ ap (all_skipped c.entity-entity.result c.blame-is_guilty.new.journal.items) lent in
    (guilty_done c.entity-entity.result c.condemn.new.journal c.pass_over.new.rings c.set_guilty.new.self c.requires.whole c.requires.there b c.if-not-is_guilty.false c.entity-entity.ensures
    skipped c.condemn.ensures.room (c.pass_over.ensures ∙ ap (λ js. ring_row_changed c.set_since.new.self c.args.ring (passed_row js)) c.deref.ensures.value) c.set_guilty.ensures).1
