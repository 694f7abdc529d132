use Rattle.std.proofs.Common.{◌∙◌, ap, replicate, None}
use Rattle.drm_sched.specs.declared.parts.Parts.{Parts}
use Rattle.drm_sched.specs.Marks.{unmarked}
use Rattle.drm_sched.proofs.Boxed.{view_read, whole_read, heads_read}
use Rattle.drm_sched.proofs.HeadsBeside.{opened_beside}
use Rattle.drm_sched.proofs.MarkedBlanks.{blank_marks, blank_marked}
use Rattle.drm_sched.proofs.parts.Parts.open.Goals as goal

pub returns-clause-opened : goal.returns-clause-opened
returns-clause-opened c =
    let d : Parts = record { table = c.in_ok-table.table; marks = c.in_ok-marks.marks; heads = c.in_ok-heads.heads } in
    view_read c.in_ok-new.ensures.ok
    (blank_marks d (c.in_ok-marks.ensures ∙ ap (λ n. replicate n None) c.len.ensures) ∙ ap unmarked c.in_ok-table.ensures.opened)

pub returns-clause-whole : goal.returns-clause-whole
returns-clause-whole c =
    let d : Parts = record { table = c.in_ok-table.table; marks = c.in_ok-marks.marks; heads = c.in_ok-heads.heads } in
    whole_read c.in_ok-new.ensures.ok
    (blank_marked d (c.in_ok-marks.ensures ∙ ap (λ n. replicate n None) c.len.ensures) c.in_ok-table.ensures.whole c.in_ok-table.ensures.inside)

pub returns-clause-heads : goal.returns-clause-heads
returns-clause-heads c =
    heads_read c.in_ok-new.ensures.ok
    (opened_beside c.in_ok-table.table c.in_ok-heads.heads c.args.spec c.in_ok-table.ensures.opened c.in_ok-table.ensures.waits c.in_ok-heads.ensures.queues c.in_ok-heads.ensures.waiters)
