use Rattle.std.proofs.Common.{◌≡◌, ◌<◌, ◌∙◌, ℕ, cond, [], length, Some, refl, sym, ap, subst, arith, slice_get, get_or, List}
use Rattle.std.proofs.lemmas.Bool.{eq-eqb}
use Rattle.std.proofs.lemmas.Option.{slice_get-get_or, slice_get_within}
use Rattle.drm_types.specs.declared.spec.EntitySpec.{EntitySpec}
use Rattle.drm_state.specs.declared.journal.JobRecord.{JobRecord}
use Rattle.drm_sched.specs.declared.heads.Heads.{Heads}
use Rattle.drm_fence.specs.Waiting.{Waiting}
use Rattle.drm_sched.specs.Watching.{unmet_pairs, watched_of}
use Rattle.drm_sched.specs.Heads.{keys_at, AreWatched}
use Rattle.drm_table.specs.Tables.{state_of}
use Rattle.drm_table.proofs.Candidates.{queued_goes_on}
use Rattle.drm_sched.proofs.HeadChoice.{keys_there}
use Rattle.drm_sched.proofs.HeadsKept.{no_head_stands, stopped_key, stopped_watched, empty_key, empty_watched, head_placed, deps_there, front_found, no_front, its_record, deps_of, read_deps}
use Rattle.drm_table.proofs.Reaping.{job_ring_there}
use Rattle.drm_table.proofs.TableFacts.{vec_holds, entity_row_there}
use Rattle.drm_sched.proofs.heads.Heads.place.Goals as goal

pub head-requires : goal.head-requires
head-requires c = entity_row_there c.args.table.now c.args.entity c.requires.whole c.requires.there

pub returns-then-is_stopped : goal.returns-then-is_stopped
returns-then-is_stopped c =
    let t = c.args.table.now in
    let stopped = sym c.is_stopped.ensures ∙ c.if-is_stopped.true in
    no_head_stands (state_of t) t.waits.lists c.args.entity c.args.self.now c.requires.others
    (λ ring. stopped_key (state_of t) c.args.entity ring stopped) (stopped_watched (state_of t) t.waits.lists c.args.entity stopped)

pub returns-in_default : goal.returns-in_default
returns-in_default c =
    let t = c.args.table.now in
    let none = no_front t c.args.entity c.requires.whole c.requires.there (sym c.head.ensures ∙ c.in_default.is) in
    no_head_stands (state_of t) t.waits.lists c.args.entity c.args.self.now c.requires.others
    (λ ring. empty_key (state_of t) c.args.entity ring none) (empty_watched (state_of t) t.waits.lists c.args.entity none)

pub index-requires : goal.index-requires
index-requires c =
    let t = c.args.table.now in
    let front = front_found t c.args.entity c.in-Some.number c.requires.whole c.requires.there (sym c.head.ensures ∙ c.in-Some.is) in
    vec_holds t.journal c.in-Some.number front.0 front.1.at

pub insert-requires : goal.insert-requires
insert-requires c =
    let t = c.args.table.now in
    let h = c.args.self.now in
    let front = front_found t c.args.entity c.in-Some.number c.requires.whole c.requires.there (sym c.head.ensures ∙ c.in-Some.is) in
    let same : c.index.result.now ≡ front.0 = its_record t.journal.items c.in-Some.number c.index.result.now front.0 c.index.ensures front.1.at in
    let there = job_ring_there t c.in-Some.number front.0 c.requires.whole front.1.at in
    let rings = c.requires.others.rings in
    let ring : c.index.result.now.ring < length h.queues.items = subst (λ (r : JobRecord). r.ring < length h.queues.items) (sym same) (omega (arith, there, rings)) in
    let count = c.requires.others.entities c.index.result.now.ring (keys_at h.queues.items c.index.result.now.ring) (keys_there h c.index.result.now.ring ring) in
    let here = c.requires.there in
    record { ring = ring; entity = omega (arith, here, count) }

pub of-deps-requires : goal.of-deps-requires
of-deps-requires c =
    let t = c.args.table.now in
    let front = front_found t c.args.entity c.in-Some.number c.requires.whole c.requires.there (sym c.head.ensures ∙ c.in-Some.is) in
    let deps = deps_of t c.in-Some.number front.0 c.requires.whole front.1.at in
    slice_get_within t.waits.lists c.in-Some.number deps.0 deps.1

pub watch_unmet-requires-clause-there : goal.watch_unmet-requires-clause-there
watch_unmet-requires-clause-there c =
    let t = c.args.table.now in
    let front = front_found t c.args.entity c.in-Some.number c.requires.whole c.requires.there (sym c.head.ensures ∙ c.in-Some.is) in
    let deps = deps_of t c.in-Some.number front.0 c.requires.whole front.1.at in
    let same : c.of-deps.result.now ≡ deps.0 = read_deps t.waits.lists c.in-Some.number c.of-deps.result.now deps.0 c.of-deps.ensures.list deps.1 in
    deps_there t c.in-Some.number front.0 c.of-deps.result.now c.insert.new.self.waiters c.requires.whole front.1.at (queued_goes_on front.0.phase front.1.queued)
    (deps.1 ∙ ap (λ x. Some x) (sym same))
    (ap (λ (w : Waiting). w.entities) c.insert.ensures.waiters ∙ c.requires.others.waiting) (ap (λ (w : Waiting). w.fences) c.insert.ensures.waiters ∙ c.requires.others.fences)

pub watch_unmet-requires-clause-none : goal.watch_unmet-requires-clause-none
watch_unmet-requires-clause-none c =
    subst (λ (w : Waiting). AreWatched w.pairs c.args.entity []) (sym c.insert.ensures.waiters)
    (subst (AreWatched c.args.self.now.waiters.pairs c.args.entity)
    (ap (λ b. cond b [] (watched_of (state_of c.args.table.now) c.args.table.now.waits.lists c.args.entity)) (eq-eqb c.args.entity c.args.entity refl))
    (c.requires.others.watches c.args.entity))

pub returns : goal.returns
returns c =
    let t = c.args.table.now in
    let front = front_found t c.args.entity c.in-Some.number c.requires.whole c.requires.there (sym c.head.ensures ∙ c.in-Some.is) in
    let deps = deps_of t c.in-Some.number front.0 c.requires.whole front.1.at in
    let r = c.index.result.now in
    let same : r ≡ front.0 = its_record t.journal.items c.in-Some.number r front.0 c.index.ensures front.1.at in
    let same_deps : c.of-deps.result.now ≡ deps.0 = read_deps t.waits.lists c.in-Some.number c.of-deps.result.now deps.0 c.of-deps.ensures.list deps.1 in
    let n : Heads = record { queues = c.insert.new.self.queues; waiters = c.watch_unmet.new.waiters } in
    head_placed (state_of t) t.waits.lists c.args.entity c.in-Some.number r c.of-deps.result.now (get_or c.as_slice.result.now c.args.entity c.index-as_slice-entity.result) c.args.self.now n c.requires.others
    (sym c.is_stopped.ensures ∙ c.if-is_stopped.false)
    (front.1.first ∙ ap (λ (x : JobRecord). let p : ℕ × JobRecord = (c.in-Some.number, x) in Some p) (sym same))
    (deps.1 ∙ ap (λ x. Some x) (sym same_deps))
    (subst (λ (es : List EntitySpec). slice_get es c.args.entity ≡ Some (get_or c.as_slice.result.now c.args.entity c.index-as_slice-entity.result)) c.as_slice.ensures
    (slice_get-get_or c.as_slice.result.now c.args.entity c.index-as_slice-entity.result (subst (λ (es : List EntitySpec). c.args.entity < length es) (sym c.as_slice.ensures) c.requires.there)))
    (subst (λ (x : JobRecord). x.ring < length t.spec.rings) (sym same) (job_ring_there t c.in-Some.number front.0 c.requires.whole front.1.at)) c.requires.there
    c.insert.ensures.queues
    (subst (λ js. AreWatched c.watch_unmet.new.waiters.pairs c.args.entity (unmet_pairs js c.args.entity r.ring c.of-deps.result.now)) c.deref.ensures.value c.watch_unmet.ensures.watched)
    (λ e pairs apart are. c.watch_unmet.ensures.others e pairs apart (subst (λ (w : Waiting). AreWatched w.pairs e pairs) (sym c.insert.ensures.waiters) are))
    (c.watch_unmet.ensures.entities ∙ ap (λ (w : Waiting). w.entities) c.insert.ensures.waiters)
    (c.watch_unmet.ensures.fences ∙ ap (λ (w : Waiting). w.fences) c.insert.ensures.waiters)

pub watch_unmet-requires-clause-once : goal.watch_unmet-requires-clause-once
watch_unmet-requires-clause-once c = c.of-deps.ensures.once
