use Rattle.std.proofs.Common.{◌∙◌, Some, sym, ap, set, refl}
use Rattle.std.specs.Vec.{with_item}
use Rattle.drm_sched.specs.declared.parts.Parts.{Parts}
use Rattle.drm_sched.specs.Parts.{mark_of_row, marked_of}
use Rattle.drm_sched.proofs.HeadsBeside.{report_beside}
use Rattle.drm_sched.proofs.MarksOther.{ring_is_there}
use Rattle.drm_sched.proofs.MarkedReport.{row_mark, report_back, report_leaves, mark_found, never_empty}
use Rattle.drm_sched.proofs.MarkedReported.{report_marked}
use Rattle.drm_sched.proofs.parts.Parts.report.Goals as goal

pub put_back-requires-clause-back : goal.put_back-requires-clause-back
put_back-requires-clause-back c =
    let d = c.args.self.now in
    let at = mark_found d c.args.ring c.index_mut.result.now c.args.write c.args.read c.index_mut.ensures.value c.requires.busy ∙ ap (λ o. Some o) (sym c.replace.ensures.value ∙ c.in-Some.is) in
    let is = row_mark d c.args.ring (Some c.in-Some.mark) at in
    report_back d c.args.ring c.in-Some.mark c.args.write c.args.read c.requires.whole (ring_is_there (marked_of d) c.args.ring (mark_of_row c.in-Some.mark) c.requires.whole.steady is) is c.requires.busy

pub unreachable-requires : goal.unreachable-requires
unreachable-requires c =
    let d = c.args.self.now in
    let at = mark_found d c.args.ring c.index_mut.result.now c.args.write c.args.read c.index_mut.ensures.value c.requires.busy ∙ ap (λ o. Some o) (sym c.replace.ensures.value ∙ c.in-None.is) in
    never_empty d c.args.ring c.args.write c.args.read at c.requires.busy

pub returns-clause-call : goal.returns-clause-call
returns-clause-call c =
    let d = c.args.self.now in
    let at = mark_found d c.args.ring c.index_mut.result.now c.args.write c.args.read c.index_mut.ensures.value c.requires.busy ∙ ap (λ o. Some o) (sym c.replace.ensures.value ∙ c.in-Some.is) in
    let is = row_mark d c.args.ring (Some c.in-Some.mark) at in
    let new : Parts = record { table = c.put_back.new.self; marks = with_item d.marks c.args.ring c.replace.new.dest; heads = d.heads } in
    report_leaves d c.args.ring c.in-Some.mark c.put_back.new.self new c.requires.whole is c.put_back.ensures.ran refl (ap (set d.marks.items c.args.ring) c.replace.ensures.after)

pub returns-clause-whole : goal.returns-clause-whole
returns-clause-whole c =
    let d = c.args.self.now in
    let at = mark_found d c.args.ring c.index_mut.result.now c.args.write c.args.read c.index_mut.ensures.value c.requires.busy ∙ ap (λ o. Some o) (sym c.replace.ensures.value ∙ c.in-Some.is) in
    let is = row_mark d c.args.ring (Some c.in-Some.mark) at in
    let new : Parts = record { table = c.put_back.new.self; marks = with_item d.marks c.args.ring c.replace.new.dest; heads = d.heads } in
    report_marked d c.args.ring c.in-Some.mark c.put_back.new.self new c.requires.whole is c.put_back.ensures.ran c.put_back.ensures.whole refl
    (ap (set d.marks.items c.args.ring) c.replace.ensures.after)

pub returns-clause-heads : goal.returns-clause-heads
returns-clause-heads c =
    let d = c.args.self.now in
    let at = mark_found d c.args.ring c.index_mut.result.now c.args.write c.args.read c.index_mut.ensures.value c.requires.busy ∙ ap (λ o. Some o) (sym c.replace.ensures.value ∙ c.in-Some.is) in
    let is = row_mark d c.args.ring (Some c.in-Some.mark) at in
    let new : Parts = record { table = c.put_back.new.self; marks = with_item d.marks c.args.ring c.replace.new.dest; heads = d.heads } in
    report_beside d new d.heads c.args.ring (c.in-Some.mark.fence, c.in-Some.mark.packet) c.requires.whole
    (report_leaves d c.args.ring c.in-Some.mark c.put_back.new.self new c.requires.whole is c.put_back.ensures.ran refl (ap (set d.marks.items c.args.ring) c.replace.ensures.after))
    c.put_back.ensures.waits c.requires.heads
