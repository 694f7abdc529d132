use Rattle.std.proofs.Common.{◌≡◌, ◌∙◌, sym, ap, subst, length, slice_get, Some, ◌∷◌, ◌++◌, [], set, ◌<◌}
use Rattle.std.proofs.lemmas.List.{length-map}
use Rattle.drm_reset.specs.Blame.{Counts}
use Rattle.drm_entity.specs.Rows.{IsFresh, pushed}
use Rattle.drm_state.specs.Arming.{arming_ring, new_record}
use Rattle.drm_state.specs.Records.{fence_state_of}
use Rattle.drm_table.specs.Tables.{state_of}
use Rattle.drm_state.specs.Plans.{all_named}
use Rattle.drm_table.proofs.ArmDone.{few_entities, arming_ring_there, arm_done}
use Rattle.drm_table.proofs.Balancing.{load_there, last_there, little_load}
use Rattle.drm_table.proofs.Queues.{is_fresh}
use Rattle.drm_table.proofs.table.Table.arm.Goals as goal

pub note_named-requires : goal.note_named-requires
note_named-requires c r f at =
    let t = c.args.self.now in
    let w = c.requires.whole in
    let at_items : slice_get t.journal.items f ≡ Some r = subst (λ js. slice_get js f ≡ Some r) c.deref.ensures.value at in
    (few_entities t.spec r.job w.limits (w.steady.lawful.records f r at_items).job).1

pub push-requires-clause-fresh : goal.push-requires-clause-fresh
push-requires-clause-fresh c =
    let t = c.args.self.now in
    subst (IsFresh t.entities) (sym (c.len-number.ensures ∙ t.journal.ok.0)) (is_fresh t.journal.items t.entities c.requires.whole.queues)

pub add-requires-clause-ring : goal.add-requires-clause-ring
add-requires-clause-ring c =
    let t = c.args.self.now in
    let there = (few_entities t.spec c.args.job c.requires.whole.limits c.requires.job).0 in
    subst (λ n. c.arming_ring-ring.result < n) (sym t.loads.live.ok.0)
    (load_there t c.arming_ring-ring.result c.requires.whole
    (subst (λ ring. ring < length t.spec.rings) (sym (c.arming_ring-ring.ensures ∙ ap (arming_ring (state_of t)) c.entity-entity.ensures))
    (arming_ring_there t c.args.job.entity c.requires.whole there)))

pub add-requires-clause-entity : goal.add-requires-clause-entity
add-requires-clause-entity c =
    let t = c.args.self.now in
    let there = (few_entities t.spec c.args.job c.requires.whole.limits c.requires.job).0 in
    subst (λ n. c.entity-entity.result < n) (sym t.loads.last.ok.0)
    (last_there t c.entity-entity.result c.requires.whole (subst (λ e. e < length t.spec.entities) (sym c.entity-entity.ensures) there))

pub add-requires-clause-few : goal.add-requires-clause-few
add-requires-clause-few c n at = little_load c.args.self.now c.arming_ring-ring.result n c.requires.whole at

pub returns-clause-armed : goal.returns-clause-armed
returns-clause-armed c =
    let t = c.args.self.now in
    let d = state_of t in
    let job = c.args.job in
    let w = c.requires.whole in
    let may = c.requires.may in
    let ring = c.arming_ring-ring.ensures ∙ ap (arming_ring d) c.entity-entity.ensures in
    let deps : c.note_named.new.deps ≡ all_named t.journal.items c.args.deps.now job.after =
    c.note_named.ensures ∙ (ap (λ js. all_named js c.args.deps.now c.after.result.now) c.deref.ensures.value ∙ ap (all_named t.journal.items c.args.deps.now) c.after.ensures) in
    let queued : c.push.new.self ≡ pushed t.entities job.entity (length t.journal.items) =
    c.push.ensures ∙ (ap (λ e. pushed t.entities e c.len-number.result) c.entity-entity.ensures ∙ ap (pushed t.entities job.entity) (c.len-number.ensures ∙ t.journal.ok.0)) in
    let last : c.add.new.self.last.items ≡ set t.loads.last.items job.entity (Some (length t.journal.items)) =
    c.add.ensures.last
    ∙ (ap (λ e. set t.loads.last.items e (Some c.len-number.result)) c.entity-entity.ensures ∙ ap (λ n. set t.loads.last.items job.entity (Some n)) (c.len-number.ensures ∙ t.journal.ok.0)) in
    let done = arm_done t job c.args.deps.now _ c.push_reserved.new.self c.push-2.new.self c.arm.new.self c.push.new.self c.add.new.self w c.requires.job c.requires.covers may ring
    (c.push_reserved.ensures.items ∙ ap (λ (k : Counts). t.journal.items ++ record (new_record d job) { ring = c.arming_ring-ring.result; karma = k } ∷ []) c.zero.ensures) (c.push-2.ensures.lists ∙ ap (λ ds. t.waits.lists ++ ds ∷ []) deps) c.arm.ensures.armed c.push_reserved.ensures.capacity c.push-2.ensures.places c.arm.ensures.places queued c.add.ensures.live last c.add.ensures.ended in
    done.0

pub returns-clause-number : goal.returns-clause-number
returns-clause-number c =
    let t = c.args.self.now in
    c.arm.ensures.number ∙ (ap length c.requires.whole.fences ∙ length-map t.journal.items fence_state_of)

pub returns-clause-whole : goal.returns-clause-whole
returns-clause-whole c =
    let t = c.args.self.now in
    let d = state_of t in
    let job = c.args.job in
    let w = c.requires.whole in
    let may = c.requires.may in
    let ring = c.arming_ring-ring.ensures ∙ ap (arming_ring d) c.entity-entity.ensures in
    let deps : c.note_named.new.deps ≡ all_named t.journal.items c.args.deps.now job.after =
    c.note_named.ensures ∙ (ap (λ js. all_named js c.args.deps.now c.after.result.now) c.deref.ensures.value ∙ ap (all_named t.journal.items c.args.deps.now) c.after.ensures) in
    let queued : c.push.new.self ≡ pushed t.entities job.entity (length t.journal.items) =
    c.push.ensures ∙ (ap (λ e. pushed t.entities e c.len-number.result) c.entity-entity.ensures ∙ ap (pushed t.entities job.entity) (c.len-number.ensures ∙ t.journal.ok.0)) in
    let last : c.add.new.self.last.items ≡ set t.loads.last.items job.entity (Some (length t.journal.items)) =
    c.add.ensures.last
    ∙ (ap (λ e. set t.loads.last.items e (Some c.len-number.result)) c.entity-entity.ensures ∙ ap (λ n. set t.loads.last.items job.entity (Some n)) (c.len-number.ensures ∙ t.journal.ok.0)) in
    let done = arm_done t job c.args.deps.now _ c.push_reserved.new.self c.push-2.new.self c.arm.new.self c.push.new.self c.add.new.self w c.requires.job c.requires.covers may ring
    (c.push_reserved.ensures.items ∙ ap (λ (k : Counts). t.journal.items ++ record (new_record d job) { ring = c.arming_ring-ring.result; karma = k } ∷ []) c.zero.ensures) (c.push-2.ensures.lists ∙ ap (λ ds. t.waits.lists ++ ds ∷ []) deps) c.arm.ensures.armed c.push_reserved.ensures.capacity c.push-2.ensures.places c.arm.ensures.places queued c.add.ensures.live last c.add.ensures.ended in
    done.1
