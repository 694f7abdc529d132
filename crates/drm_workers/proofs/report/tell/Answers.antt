use Rattle.std.proofs.Common.{rules, ◌≤◌, ◌≢◌, length, refl, sym, ap, subst, arith, All, IsTrue}
use Rattle.std.proofs.lemmas.Bool.{both_ways}
use Rattle.drm_types.specs.declared.outcome.Outcome.TheVariants.{Stopped}
use Rattle.drm_fence.specs.declared.phase.Phase.TheVariants.{Ended}
use Rattle.drm_fence.specs.Phases.{has_ended}
use Rattle.drm_state.specs.declared.journal.JobRecord.{JobRecord}
use Rattle.drm_workers.specs.Reports.{IsComplete}
use Rattle.drm_workers.proofs.Reported.{reported}
use Rattle.drm_workers.proofs.Tallies.{told_right, as_told}
use Rattle.drm_workers.proofs.report.tell.Goals.{then-not-are_counts-via-then-not-are_counts, then-not-are_counts-via-else-not-are_counts+then-not-are_counts-2}
use Rattle.drm_workers.proofs.report.tell.Goals as goal

pub returns-then-not-are_counts-clause-refused : goal.returns-then-not-are_counts-clause-refused
returns-then-not-are_counts-clause-refused c =
    let records = c.args.closed.records in
    let rings = length c.args.closed.spec.rings in
    let wide : rings ≤ length c.count_rings-counts.result = search rules in (
      refl,
      λ whole. elim c.then-not-are_counts.branch [
        | then-not-are_counts-via-then-not-are_counts w ↦
            both_ways c.are_counts.result w.if-not-are_counts.true (c.are_counts.ensures.1
            (as_told records c.as_slice-records.result.now c.args.picked.items c.deref.result.now c.count_rings-counts.result rings c.len-rings.result
            c.as_slice-records.ensures c.deref.ensures.value c.len-rings.ensures wide c.count_rings-counts.ensures whole.picked))
        | then-not-are_counts-via-else-not-are_counts+then-not-are_counts-2 w ↦
            both_ways w.are_counts-else-not-are_counts.result w.if-not-are_counts-2.true (w.are_counts-else-not-are_counts.ensures.1
            (as_told records c.as_slice-records.result.now c.args.finished.items w.deref-else-not-are_counts.result.now c.count_rings-counts.result rings c.len-rings.result
            c.as_slice-records.ensures w.deref-else-not-are_counts.ensures.value c.len-rings.ensures wide c.count_rings-counts.ensures whole.finished))
      ],
    )

pub returns-clause-complete : goal.returns-clause-complete
returns-clause-complete c =
    let records = c.args.closed.records in
    let seen = c.as_slice-records.result.now in
    let rings = length c.args.closed.spec.rings in
    let counts = c.count_rings-counts.result in
    record {
      count = omega (arith, ap length c.as_slice-records.ensures, c.if-records-jobs.false);
      ended = subst (All (λ r. IsTrue (has_ended r.phase))) c.as_slice-records.ensures (c.have_ended.ensures.0 c.if-not-have_ended.false);
      run = subst (All (λ (r : JobRecord). r.phase ≢ Ended Stopped)) c.as_slice-records.ensures (c.none_stopped.ensures.0 c.if-not-none_stopped.false);
      picked = told_right records seen c.args.picked.items c.deref.result.now counts rings c.len-rings.result
          c.as_slice-records.ensures c.deref.ensures.value c.len-rings.ensures c.count_rings-counts.ensures (c.are_counts.ensures.0 c.if-not-are_counts.false);
      finished = told_right records seen c.args.finished.items c.deref-else-not-are_counts.result.now counts rings c.len-rings.result
          c.as_slice-records.ensures c.deref-else-not-are_counts.ensures.value c.len-rings.ensures c.count_rings-counts.ensures
          (c.are_counts-else-not-are_counts.ensures.0 c.if-not-are_counts-2.false);
    }

pub returns-clause-report : goal.returns-clause-report
returns-clause-report c spec list n long run =
    reported spec list n _ run (subst (λ k. IsComplete k c.args.closed c.args.picked.items c.args.finished.items) (sym long) (returns-clause-complete c))

pub returns-clause-told : goal.returns-clause-told
returns-clause-told c = search rules
