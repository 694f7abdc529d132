use Rattle.std.proofs.Common.{◌<◌, ◌∙◌, refl, sym, ap, subst}
use Rattle.drm_state.specs.Stopping.{may_end_after}
use Rattle.drm_table.proofs.Reaping.{job_ring_there, job_at, reap_refused, front_goes_on, front_popped, front_going, front_unloaded, reap_done}
use Rattle.drm_state.proofs.LoadsKept.{some_live}
use Rattle.drm_table.proofs.Balancing.{few_outcomes, load_there}
use Rattle.drm_table.proofs.Queues.{head_there}
use Rattle.drm_table.proofs.TableFacts.{row_there, entity_row_there}
use Rattle.drm_table.proofs.table.Table.reap.Goals as goal

pub pending-pending-requires : goal.pending-pending-requires
pending-pending-requires c =
    let t = c.args.self.now in
    let w = c.requires.whole in
    let head = head_there t.journal.items t.entities c.args.entity c.in-Some.number w.queues (entity_row_there t c.args.entity w c.requires.there) c.in-Some.ensures in
    let at = job_at t c.in-Some.number c.args.entity c.index.result.now head.0 c.index.ensures in
    row_there t c.index.result.now.ring w (job_ring_there t c.in-Some.number c.index.result.now w at)

pub index-requires : goal.index-requires
index-requires c =
    let t = c.args.self.now in
    let w = c.requires.whole in
    let head = head_there t.journal.items t.entities c.args.entity c.in-Some.number w.queues (entity_row_there t c.args.entity w c.requires.there) c.in-Some.ensures in
    subst (λ n. c.in-Some.number < n) (sym t.journal.ok.0) head.1

pub of-deps-requires : goal.of-deps-requires
of-deps-requires c =
    let t = c.args.self.now in
    let w = c.requires.whole in
    let head = head_there t.journal.items t.entities c.args.entity c.in-Some.number w.queues (entity_row_there t c.args.entity w c.requires.there) c.in-Some.ensures in
    subst (λ n. c.in-Some.number < n) (sym w.waits.count) head.1

pub returns-then-not-may_end-clause-refused : goal.returns-then-not-may_end-clause-refused
returns-then-not-may_end-clause-refused c =
    let t = c.args.self.now in
    let w = c.requires.whole in
    let head = head_there t.journal.items t.entities c.args.entity c.in-Some.number w.queues (entity_row_there t c.args.entity w c.requires.there) c.in-Some.ensures in
    let at = job_at t c.in-Some.number c.args.entity c.index.result.now head.0 c.index.ensures in
    let may = reap_refused t c.args.entity c.in-Some.number c.index.result.now.ring c.index.result.now c.pending-pending.result.now.items c.of-deps.result.now _ w (sym c.is_stopped.ensures ∙ c.if-not-is_stopped.false) head.0 at refl c.pending-pending.ensures c.of-deps.ensures.list
    (ap (λ js. may_end_after js c.of-deps.result.now c.pending-pending.result.now.items c.args.entity) (sym c.deref.ensures.value)
    ∙ (sym c.may_end.ensures ∙ c.if-not-may_end.true)) in
    (may, refl)

pub end_job-requires-clause-going : goal.end_job-requires-clause-going
end_job-requires-clause-going c =
    let t = c.args.self.now in
    let w = c.requires.whole in
    let head = head_there t.journal.items t.entities c.args.entity c.in-Some.number w.queues (entity_row_there t c.args.entity w c.requires.there) c.in-Some.ensures in
    front_goes_on t.journal.items c.args.entity c.in-Some.number head.0

pub end-requires-clause-ring : goal.end-requires-clause-ring
end-requires-clause-ring c =
    let t = c.args.self.now in
    let w = c.requires.whole in
    let head = head_there t.journal.items t.entities c.args.entity c.in-Some.number w.queues (entity_row_there t c.args.entity w c.requires.there) c.in-Some.ensures in
    let at = job_at t c.in-Some.number c.args.entity c.index.result.now head.0 c.index.ensures in
    subst (λ n. c.index.result.now.ring < n) (sym t.loads.live.ok.0) (load_there t c.index.result.now.ring w (job_ring_there t c.in-Some.number c.index.result.now w at))

pub end-requires-clause-few : goal.end-requires-clause-few
end-requires-clause-few c = few_outcomes c.args.self.now c.requires.whole

pub end-requires-clause-some : goal.end-requires-clause-some
end-requires-clause-some c n at_n =
    let t = c.args.self.now in
    let w = c.requires.whole in
    let head = head_there t.journal.items t.entities c.args.entity c.in-Some.number w.queues (entity_row_there t c.args.entity w c.requires.there) c.in-Some.ensures in
    let at = job_at t c.in-Some.number c.args.entity c.index.result.now head.0 c.index.ensures in
    some_live t.spec t.journal.items t.loads c.in-Some.number n c.index.result.now w.loads at (front_going t c.args.entity c.in-Some.number c.index.result.now head.0 at) at_n

pub returns-clause-reaped : goal.returns-clause-reaped
returns-clause-reaped c =
    let t = c.args.self.now in
    let w = c.requires.whole in
    let head = head_there t.journal.items t.entities c.args.entity c.in-Some.number w.queues (entity_row_there t c.args.entity w c.requires.there) c.in-Some.ensures in
    let at = job_at t c.in-Some.number c.args.entity c.index.result.now head.0 c.index.ensures in
    let may = reap_refused t c.args.entity c.in-Some.number c.index.result.now.ring c.index.result.now c.pending-pending.result.now.items c.of-deps.result.now _ w (sym c.is_stopped.ensures ∙ c.if-not-is_stopped.false) head.0 at refl c.pending-pending.ensures c.of-deps.ensures.list
    (ap (λ js. may_end_after js c.of-deps.result.now c.pending-pending.result.now.items c.args.entity) (sym c.deref.ensures.value)
    ∙ (sym c.may_end.ensures ∙ c.if-not-may_end.false)) in
    let left = front_popped t c.args.entity c.in-Some.number c.end_job.new.journal.items c.pop.new.self c.pop.result w c.requires.there head.0 c.end_job.ensures.journal c.pop.ensures.some c.pop.ensures.none in
    let done = reap_done t c.args.entity c.in-Some.number c.end_job.new.journal c.end_job.new.fences c.pop.new.self c.end.new.self w head.0 may
    c.end_job.ensures.journal c.end_job.ensures.tied c.end_job.ensures.room c.end_job.ensures.places left
    (front_unloaded t c.args.entity c.in-Some.number c.index.result.now c.end_job.new.journal.items c.end.new.self w head.0 at c.end_job.ensures.journal c.end.ensures.live c.end.ensures.last c.end.ensures.ended) in
    (may, done.0)

pub returns-clause-whole : goal.returns-clause-whole
returns-clause-whole c =
    let t = c.args.self.now in
    let w = c.requires.whole in
    let head = head_there t.journal.items t.entities c.args.entity c.in-Some.number w.queues (entity_row_there t c.args.entity w c.requires.there) c.in-Some.ensures in
    let at = job_at t c.in-Some.number c.args.entity c.index.result.now head.0 c.index.ensures in
    let may = reap_refused t c.args.entity c.in-Some.number c.index.result.now.ring c.index.result.now c.pending-pending.result.now.items c.of-deps.result.now _ w (sym c.is_stopped.ensures ∙ c.if-not-is_stopped.false) head.0 at refl c.pending-pending.ensures c.of-deps.ensures.list
    (ap (λ js. may_end_after js c.of-deps.result.now c.pending-pending.result.now.items c.args.entity) (sym c.deref.ensures.value)
    ∙ (sym c.may_end.ensures ∙ c.if-not-may_end.false)) in
    let left = front_popped t c.args.entity c.in-Some.number c.end_job.new.journal.items c.pop.new.self c.pop.result w c.requires.there head.0 c.end_job.ensures.journal c.pop.ensures.some c.pop.ensures.none in
    let done = reap_done t c.args.entity c.in-Some.number c.end_job.new.journal c.end_job.new.fences c.pop.new.self c.end.new.self w head.0 may
    c.end_job.ensures.journal c.end_job.ensures.tied c.end_job.ensures.room c.end_job.ensures.places left
    (front_unloaded t c.args.entity c.in-Some.number c.index.result.now c.end_job.new.journal.items c.end.new.self w head.0 at c.end_job.ensures.journal c.end.ensures.live c.end.ensures.last c.end.ensures.ended) in
    done.1
