use Rattle.std.proofs.Common.{◌≡◌, ◌<◌, ◌∙◌, length, Err, refl, sym, ap, subst}
use Rattle.drm_types.specs.declared.spec.DeviceSpec.{DeviceSpec}
use Rattle.drm_state.specs.declared.journal.JobRecord.{JobRecord}
use Rattle.drm_table.specs.Tables.{state_of}
use Rattle.drm_table.proofs.TableFacts.{vec_holds}
use Rattle.drm_sched.specs.Calls.{PickIs}
use Rattle.drm_sched.specs.Heads.{keys_at}
use Rattle.drm_sched.specs.Parts.{marked_of}
use Rattle.drm_sched.proofs.Calls.{handed_on}
use Rattle.drm_sched.proofs.HeadEvents.{pick_heads}
use Rattle.drm_sched.proofs.HeadsBeside.{StandBeside, is_picked}
use Rattle.drm_sched.proofs.HeadsKept.{its_record, keys_room}
use Rattle.drm_sched.proofs.MarkedDone.{answered, pick_marked, with_tables}
use Rattle.drm_sched.proofs.parts.Parts.pick.Goals as goal

pub index-requires : goal.index-requires
index-requires c =
    let n = c.pick.new.self in
    let p = is_picked c.args.self.now.table n c.args.ring c.args.now c.in_ok-picked.picked c.requires.whole.table c.in_ok-picked.ensures.picked.1 in
    vec_holds n.journal c.in_ok-picked.picked.fence p.new p.at

pub remove-requires-clause-entity : goal.remove-requires-clause-entity
remove-requires-clause-entity c =
    let t = c.args.self.now.table in
    let n = c.pick.new.self in
    let h = c.args.self.now.heads in
    let p = is_picked t n c.args.ring c.args.now c.in_ok-picked.picked c.requires.whole.table c.in_ok-picked.ensures.picked.1 in
    let same : c.index.result.now ≡ p.new = its_record n.journal.items c.in_ok-picked.picked.fence c.index.result.now p.new c.index.ensures p.at in
    let owner = c.entity-entity.ensures ∙ (ap (λ (r : JobRecord). r.job.entity) same ∙ ap (λ j. j.entity) p.same_job) in
    subst (λ qs. c.entity-entity.result < length (keys_at qs c.args.ring)) (sym c.scheduled.ensures.queues)
    (keys_room (state_of t) t.waits.lists h c.args.ring c.entity-entity.result c.requires.heads c.requires.there (subst (λ e. e < length t.spec.entities) (sym owner) p.here)).1

pub place-requires-clause-there : goal.place-requires-clause-there
place-requires-clause-there c =
    let t = c.args.self.now.table in
    let n = c.pick.new.self in
    let p = is_picked t n c.args.ring c.args.now c.in_ok-picked.picked c.requires.whole.table c.in_ok-picked.ensures.picked.1 in
    let same : c.index.result.now ≡ p.new = its_record n.journal.items c.in_ok-picked.picked.fence c.index.result.now p.new c.index.ensures p.at in
    let owner = c.entity-entity.ensures ∙ (ap (λ (r : JobRecord). r.job.entity) same ∙ ap (λ j. j.entity) p.same_job) in
    subst (λ (s : DeviceSpec). c.entity-entity.result < length s.entities) (sym p.picks.spec) (subst (λ e. e < length t.spec.entities) (sym owner) p.here)

pub place-requires-clause-others : goal.place-requires-clause-others
place-requires-clause-others c =
    let t = c.args.self.now.table in
    let n = c.pick.new.self in
    let h = c.args.self.now.heads in
    let p = is_picked t n c.args.ring c.args.now c.in_ok-picked.picked c.requires.whole.table c.in_ok-picked.ensures.picked.1 in
    let same : c.index.result.now ≡ p.new = its_record n.journal.items c.in_ok-picked.picked.fence c.index.result.now p.new c.index.ensures p.at in
    let owner = c.entity-entity.ensures ∙ (ap (λ (r : JobRecord). r.job.entity) same ∙ ap (λ j. j.entity) p.same_job) in
    pick_heads (state_of t) (state_of n) t.waits.lists n.waits.lists h c.scheduled.new.self c.remove.new.self c.args.ring c.in_ok-picked.picked.fence c.entity-entity.result p.picks
    c.requires.whole.steady.state c.requires.there owner c.pick.ensures.waits c.requires.heads (subst (λ e. e < length t.spec.entities) (sym owner) p.here)
    c.scheduled.ensures.queues c.scheduled.ensures.waiters c.remove.ensures.queues c.remove.ensures.waiters

pub returns-clause-call : goal.returns-clause-call
returns-clause-call c = record { done = c.in_ok-picked.ensures.picked; refused = tt; marks = refl }

pub returns-clause-whole : goal.returns-clause-whole
returns-clause-whole c =
    pick_marked c.args.self.now c.pick.new.self c.place.new.self c.args.ring c.args.now c.pick.result c.requires.whole c.requires.there c.pick.ensures.whole c.pick.ensures.out
    (answered c.args.self.now c.pick.new.self c.place.new.self c.pick.result refl c.pick.ensures.picked c.pick.ensures.refused)

pub returns-clause-heads : goal.returns-clause-heads
returns-clause-heads c = c.place.ensures

pub returns-in_err-picked-clause-call : goal.returns-in_err-picked-clause-call
returns-in_err-picked-clause-call c =
    let d = c.args.self.now in
    let n = c.pick.new.self in
    subst (λ r. PickIs c.args.ring c.args.now r (marked_of d) (marked_of (with_tables d n d.heads))) (sym (handed_on c.from_residual.result _ c.from_residual.ensures))
    (answered d n d.heads (Err _) refl tt c.in_err-picked.ensures.refused)

pub returns-in_err-picked-clause-whole : goal.returns-in_err-picked-clause-whole
returns-in_err-picked-clause-whole c =
    let d = c.args.self.now in
    pick_marked d c.pick.new.self d.heads c.args.ring c.args.now c.pick.result c.requires.whole c.requires.there c.pick.ensures.whole c.pick.ensures.out
    (answered d c.pick.new.self d.heads c.pick.result refl c.pick.ensures.picked c.pick.ensures.refused)

pub returns-in_err-picked-clause-heads : goal.returns-in_err-picked-clause-heads
returns-in_err-picked-clause-heads c =
    subst (λ t. StandBeside t c.args.self.now.heads) (sym c.in_err-picked.ensures.refused.1) c.requires.heads
