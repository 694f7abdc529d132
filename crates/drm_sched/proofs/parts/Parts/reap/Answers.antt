use Rattle.std.proofs.Common.{Err, refl, sym, subst}
use Rattle.drm_table.specs.Tables.{state_of}
use Rattle.drm_sched.specs.Calls.{ReapIs}
use Rattle.drm_sched.specs.Parts.{marked_of}
use Rattle.drm_sched.proofs.Calls.{handed_on}
use Rattle.drm_sched.proofs.HeadEvents.{reap_heads}
use Rattle.drm_sched.proofs.HeadsBeside.{StandBeside}
use Rattle.drm_sched.proofs.MarkedDone.{answered, reap_marked, with_tables}
use Rattle.drm_sched.proofs.parts.Parts.reap.Goals as goal

pub returns-in_err-fence-clause-call : goal.returns-in_err-fence-clause-call
returns-in_err-fence-clause-call c =
    let d = c.args.self.now in
    let n = c.reap.new.self in
    subst (λ r. ReapIs c.args.entity r (marked_of d) (marked_of (with_tables d n d.heads))) (sym (handed_on c.from_residual.result _ c.from_residual.ensures))
    (answered d n d.heads (Err _) refl tt c.in_err-fence.ensures.refused)

pub returns-in_err-fence-clause-whole : goal.returns-in_err-fence-clause-whole
returns-in_err-fence-clause-whole c =
    let d = c.args.self.now in
    reap_marked d c.reap.new.self d.heads c.args.entity c.reap.result c.requires.whole c.reap.ensures.whole c.reap.ensures.out
    (answered d c.reap.new.self d.heads c.reap.result refl c.reap.ensures.reaped c.reap.ensures.refused)

pub returns-in_err-fence-clause-heads : goal.returns-in_err-fence-clause-heads
returns-in_err-fence-clause-heads c = subst (λ t. StandBeside t c.args.self.now.heads) (sym c.in_err-fence.ensures.refused.1) c.requires.heads

pub returns-clause-call : goal.returns-clause-call
returns-clause-call c = record { done = c.in_ok-fence.ensures.reaped; refused = tt; marks = refl }

pub returns-clause-whole : goal.returns-clause-whole
returns-clause-whole c =
    let d = c.args.self.now in
    reap_marked d c.reap.new.self c.ended.new.self c.args.entity c.reap.result c.requires.whole c.reap.ensures.whole c.reap.ensures.out
    (answered d c.reap.new.self c.ended.new.self c.reap.result refl c.reap.ensures.reaped c.reap.ensures.refused)

pub returns-clause-heads : goal.returns-clause-heads
returns-clause-heads c =
    let t = c.args.self.now.table in
    let n = c.reap.new.self in
    reap_heads (state_of t) (state_of n) t.waits.lists n.waits.lists c.args.self.now.heads c.ended.new.self c.args.entity c.in_ok-fence.fence
    c.in_ok-fence.ensures.reaped.0 c.in_ok-fence.ensures.reaped.1 c.reap.ensures.waits c.requires.heads c.ended.ensures.queues c.ended.ensures.waiters
