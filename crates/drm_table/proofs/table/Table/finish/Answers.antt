use Rattle.std.proofs.Common.{◌∙◌, ◌<◌, ◌≤◌, sym, ap, subst, None, slice_get}
use Rattle.std.specs.Prelude.{IfSome}
use Rattle.std.specs.Option.{option_map_or}
use Rattle.drm_fence.specs.Phases.{has_ended}
use Rattle.drm_state.specs.Records.{ending}
use Rattle.drm_table.proofs.FinishDone.{may_end, not_ended_yet, finish_done}
use Rattle.drm_state.proofs.LoadsKept.{some_live}
use Rattle.drm_table.proofs.Balancing.{few_outcomes, load_there}
use Rattle.drm_table.proofs.TableFacts.{row_there, row_found, row_pending}
use Rattle.drm_table.proofs.table.Table.finish.Goals as goal
use Rattle.drm_ring.specs.Counted.{need_of}
use Rattle.drm_ring.specs.RingRows.{RingRow}
use Rattle.drm_table.proofs.RowsKept.{credits_told, need_counted}

pub end_job-requires-clause-going : goal.end_job-requires-clause-going
end_job-requires-clause-going c =
    let t = c.args.self.now in
    let is = sym c.head.ensures ∙ c.in-Some.is in
    let may = may_end t c.args.ring c.in-Some.number c.in-Some-final_outcome.outcome c.requires.whole c.requires.there is (ap (λ j. option_map_or ending (slice_get j c.in-Some.number) None) (sym c.deref.ensures.value) ∙ (sym c.final_outcome.ensures ∙ c.in-Some-final_outcome.is)) in
    not_ended_yet t c.args.ring c.in-Some.number may.0 may.1.head

pub pop-requires : goal.pop-requires
pop-requires c =
    let t = c.args.self.now in
    let w = c.requires.whole in
    let is = sym c.head.ensures ∙ c.in-Some.is in
    let may = may_end t c.args.ring c.in-Some.number c.in-Some-final_outcome.outcome c.requires.whole c.requires.there is (ap (λ j. option_map_or ending (slice_get j c.in-Some.number) None) (sym c.deref.ensures.value) ∙ (sym c.final_outcome.ensures ∙ c.in-Some-final_outcome.is)) in
    let row = row_found t c.args.ring w c.requires.there in
    let stands = sym (row_pending t c.args.ring row.0 row.1) ∙ may.1.head.stands in
    let told = credits_told t.journal.items c.in-Some.number c.credits-credits.result may.0 c.index.result.now may.1.head.at c.index.ensures c.credits-credits.ensures in
    record {
      there = row_there t c.args.ring w c.requires.there;
      counted = subst (λ o. IfSome o (λ (r : RingRow). need_of r.credits c.credits-credits.result ≤ r.credits.count)) (sym row.1)
          (subst (λ n. need_of row.0.credits n ≤ row.0.credits.count) (sym told)
          (need_counted t c.args.ring c.in-Some.number may.1.head.rest may.0 row.0 w row.1 may.1.head.at stands));
    }

pub end-requires-clause-ring : goal.end-requires-clause-ring
end-requires-clause-ring c =
    let t = c.args.self.now in
    subst (λ n. c.args.ring < n) (sym t.loads.live.ok.0) (load_there t c.args.ring c.requires.whole c.requires.there)

pub end-requires-clause-few : goal.end-requires-clause-few
end-requires-clause-few c = few_outcomes c.args.self.now c.requires.whole

pub end-requires-clause-some : goal.end-requires-clause-some
end-requires-clause-some c n at =
    let t = c.args.self.now in
    let is = sym c.head.ensures ∙ c.in-Some.is in
    let may = may_end t c.args.ring c.in-Some.number c.in-Some-final_outcome.outcome c.requires.whole c.requires.there is (ap (λ j. option_map_or ending (slice_get j c.in-Some.number) None) (sym c.deref.ensures.value) ∙ (sym c.final_outcome.ensures ∙ c.in-Some-final_outcome.is)) in
    some_live t.spec t.journal.items t.loads c.in-Some.number n may.0 c.requires.whole.loads may.1.head.at (ap has_ended may.1.head.phase)
    (ap (slice_get t.loads.live.items) may.1.head.on_ring ∙ at)

pub returns-clause-finished : goal.returns-clause-finished
returns-clause-finished c =
    let t = c.args.self.now in
    let is = sym c.head.ensures ∙ c.in-Some.is in
    let may = may_end t c.args.ring c.in-Some.number c.in-Some-final_outcome.outcome c.requires.whole c.requires.there is (ap (λ j. option_map_or ending (slice_get j c.in-Some.number) None) (sym c.deref.ensures.value) ∙ (sym c.final_outcome.ensures ∙ c.in-Some-final_outcome.is)) in
    let told = credits_told t.journal.items c.in-Some.number c.credits-credits.result may.0 c.index.result.now may.1.head.at c.index.ensures c.credits-credits.ensures in
    let done = finish_done t c.args.ring c.args.now c.in-Some.number c.credits-credits.result c.in-Some-final_outcome.outcome may.0 c.end_job.new.journal c.end_job.new.fences c.pop.new.self c.end.new.self
    c.requires.whole c.requires.there is may.1 c.end_job.ensures.journal c.end_job.ensures.tied c.end_job.ensures.room c.end_job.ensures.places
    told c.pop.ensures c.end.ensures.live c.end.ensures.last c.end.ensures.ended in
    (done.0, done.1)

pub returns-clause-whole : goal.returns-clause-whole
returns-clause-whole c =
    let t = c.args.self.now in
    let is = sym c.head.ensures ∙ c.in-Some.is in
    let may = may_end t c.args.ring c.in-Some.number c.in-Some-final_outcome.outcome c.requires.whole c.requires.there is (ap (λ j. option_map_or ending (slice_get j c.in-Some.number) None) (sym c.deref.ensures.value) ∙ (sym c.final_outcome.ensures ∙ c.in-Some-final_outcome.is)) in
    let told = credits_told t.journal.items c.in-Some.number c.credits-credits.result may.0 c.index.result.now may.1.head.at c.index.ensures c.credits-credits.ensures in
    let done = finish_done t c.args.ring c.args.now c.in-Some.number c.credits-credits.result c.in-Some-final_outcome.outcome may.0 c.end_job.new.journal c.end_job.new.fences c.pop.new.self c.end.new.self
    c.requires.whole c.requires.there is may.1 c.end_job.ensures.journal c.end_job.ensures.tied c.end_job.ensures.room c.end_job.ensures.places
    told c.pop.ensures c.end.ensures.live c.end.ensures.last c.end.ensures.ended in
    done.2
