use Rattle.std.proofs.Common.{◌≡◌, ◌≢◌, ℕ, ◌∙◌, ◌<◌, None, length, sym, subst}
use Rattle.drm_state.specs.declared.journal.JobRecord.{JobRecord}
use Rattle.drm_sched.specs.Heads.{head_key}
use Rattle.drm_table.specs.Tables.{state_of}
use Rattle.drm_sched.specs.Watching.{watched_of}
use Rattle.drm_sched.proofs.HeadsKept.{empty_key, empty_watched, front_found, no_front, its_record, head_removed, on_no_other, keys_room}
use Rattle.drm_sched.proofs.HeadsArmed.{stand_but}
use Rattle.drm_table.proofs.Reaping.{job_ring_there}
use Rattle.drm_table.proofs.TableFacts.{vec_holds, entity_row_there}
use Rattle.drm_sched.proofs.heads.Heads.withdraw.Goals as goal

pub head-requires : goal.head-requires
head-requires c = entity_row_there c.args.table.now c.args.entity c.requires.whole c.requires.there

pub returns-in_default : goal.returns-in_default
returns-in_default c =
    let t = c.args.table.now in
    let none = no_front t c.args.entity c.requires.whole c.requires.there (sym c.head.ensures ∙ c.in_default.is) in
    stand_but (state_of t) t.waits.lists c.args.entity c.args.self.now c.requires.heads
    (λ ring. empty_key (state_of t) c.args.entity ring none) (empty_watched (state_of t) t.waits.lists c.args.entity none)

pub index-requires : goal.index-requires
index-requires c =
    let t = c.args.table.now in
    let front = front_found t c.args.entity c.in-Some.number c.requires.whole c.requires.there (sym c.head.ensures ∙ c.in-Some.is) in
    vec_holds t.journal c.in-Some.number front.0 front.1.at

pub remove-requires : goal.remove-requires
remove-requires c =
    let t = c.args.table.now in
    let h = c.args.self.now in
    let front = front_found t c.args.entity c.in-Some.number c.requires.whole c.requires.there (sym c.head.ensures ∙ c.in-Some.is) in
    let same : c.index.result.now ≡ front.0 = its_record t.journal.items c.in-Some.number c.index.result.now front.0 c.index.ensures front.1.at in
    let there = subst (λ (r : JobRecord). r.ring < length t.spec.rings) (sym same) (job_ring_there t c.in-Some.number front.0 c.requires.whole front.1.at) in
    let room = keys_room (state_of t) t.waits.lists h c.index.result.now.ring c.args.entity c.requires.heads there c.requires.there in
    record { ring = room.0; entity = room.1 }

pub returns : goal.returns
returns c =
    let t = c.args.table.now in
    let h = c.args.self.now in
    let front = front_found t c.args.entity c.in-Some.number c.requires.whole c.requires.there (sym c.head.ensures ∙ c.in-Some.is) in
    let same : c.index.result.now ≡ front.0 = its_record t.journal.items c.in-Some.number c.index.result.now front.0 c.index.ensures front.1.at in
    let there = subst (λ (r : JobRecord). r.ring < length t.spec.rings) (sym same) (job_ring_there t c.in-Some.number front.0 c.requires.whole front.1.at) in
    head_removed t.spec (head_key (state_of t)) (watched_of (state_of t) t.waits.lists) h c.remove.new.self c.index.result.now.ring c.args.entity c.requires.heads there c.requires.there
    (subst (λ (r : JobRecord). (other : ℕ) → other ≢ r.ring → head_key (state_of t) other c.args.entity ≡ None) (sym same)
    (λ other away. on_no_other (state_of t) c.args.entity other c.in-Some.number front.0 front.1.first away))
    c.remove.ensures.queues c.remove.ensures.waiters
