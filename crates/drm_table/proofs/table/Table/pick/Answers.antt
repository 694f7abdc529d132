use Rattle.std.proofs.Common.{◌∙◌, refl, sym, ap, ◌<◌, ◌≤◌, length, subst}
use Rattle.std.specs.Prelude.{IfSome}
use Rattle.std.proofs.lemmas.Option.{slice_get_within}
use Rattle.drm_fence.specs.Phases.{is_queued}
use Rattle.drm_table.specs.Tables.{state_of}
use Rattle.drm_state.specs.Ring.{credits_of, free_credits, is_guilty}
use Rattle.drm_state.proofs.Records.{at_test}
use Rattle.drm_state.proofs.ChoiceIs.{choice_is}
use Rattle.drm_table.proofs.TableFacts.{row_there, row_found, row_after, vec_holds}
use Rattle.drm_table.proofs.Queues.{guilty_is}
use Rattle.drm_table.proofs.PickDone.{is_taken, taken_popped, pick_done, room_for_one, not_less, pick_short, put_passes}
use Rattle.drm_table.proofs.table.Table.pick.Goals as goal
use Rattle.drm_ring.specs.Counted.{need_of, free_of}
use Rattle.drm_ring.specs.RingRows.{RingRow, pending_at, passed_at, ring_row_changed, put_row}
use Rattle.drm_state.specs.Rows.{is_open, passed_of, passed_row}
use Rattle.drm_table.proofs.RowsKept.{credits_told, free_told, need_fits, need_told}

pub index-requires : goal.index-requires
index-requires c =
    let t = c.args.self.now in
    let chosen = choice_is (state_of t) c.args.ring c.in-Some.number (sym c.requires.chosen ∙ c.in-Some.is) in vec_holds t.journal c.in-Some.number chosen.0 chosen.1.at

pub credits-ring_credits-requires : goal.credits-ring_credits-requires
credits-ring_credits-requires c = row_there c.args.self.now c.args.ring c.requires.whole c.requires.there

pub returns-then-need-free-clause-refused : goal.returns-then-need-free-clause-refused
returns-then-need-free-clause-refused c =
    let t = c.args.self.now in
    let is = sym c.requires.chosen ∙ c.in-Some.is in
    let chosen = choice_is (state_of t) c.args.ring c.in-Some.number is in
    let told = credits_told t.journal.items c.in-Some.number c.credits-credits.result chosen.0 c.index.result.now chosen.1.at c.index.ensures c.credits-credits.ensures in
    let need = c.need-need.ensures ∙ need_told t c.args.ring c.in-Some.number c.credits-credits.result chosen.0 c.credits-ring_credits.result.now c.requires.whole c.requires.there chosen.1.at c.credits-ring_credits.ensures told in
    let free = c.free-free.ensures ∙ free_told t c.args.ring c.credits-ring_credits.result.now c.requires.whole c.requires.there c.credits-ring_credits.ensures in (
      pick_short (state_of t) c.args.ring c.in-Some.number c.need-need.result c.free-free.result is need free c.if-need-free.true,
      refl,
    )

pub is_guilty-skipped-requires : goal.is_guilty-skipped-requires
is_guilty-skipped-requires c =
    let t = c.args.self.now in
    let chosen = choice_is (state_of t) c.args.ring c.in-Some.number (sym c.requires.chosen ∙ c.in-Some.is) in
    (is_taken t c.args.ring c.in-Some.number chosen.0 c.index.result.now c.entity-entity.result c.requires.whole chosen.1 c.index.ensures c.entity-entity.ensures).there

pub schedule_job-requires-clause-queued : goal.schedule_job-requires-clause-queued
schedule_job-requires-clause-queued c =
    let t = c.args.self.now in
    let chosen = choice_is (state_of t) c.args.ring c.in-Some.number (sym c.requires.chosen ∙ c.in-Some.is) in
    at_test t.journal.items c.in-Some.number chosen.0 (λ r. is_queued r.phase) chosen.1.at ∙ chosen.1.queued

pub pop-requires : goal.pop-requires
pop-requires c =
    let t = c.args.self.now in
    let chosen = choice_is (state_of t) c.args.ring c.in-Some.number (sym c.requires.chosen ∙ c.in-Some.is) in
    (is_taken t c.args.ring c.in-Some.number chosen.0 c.index.result.now c.entity-entity.result c.requires.whole chosen.1 c.index.ensures c.entity-entity.ensures).there

pub put-requires : goal.put-requires
put-requires c =
    let t = c.args.self.now in
    let w = c.requires.whole in
    let chosen = choice_is (state_of t) c.args.ring c.in-Some.number (sym c.requires.chosen ∙ c.in-Some.is) in
    let told = credits_told t.journal.items c.in-Some.number c.credits-credits.result chosen.0 c.index.result.now chosen.1.at c.index.ensures c.credits-credits.ensures in
    let need = c.need-need.ensures ∙ need_told t c.args.ring c.in-Some.number c.credits-credits.result chosen.0 c.credits-ring_credits.result.now c.requires.whole c.requires.there chosen.1.at c.credits-ring_credits.ensures told in
    let free = c.free-free.ensures ∙ free_told t c.args.ring c.credits-ring_credits.result.now c.requires.whole c.requires.there c.credits-ring_credits.ensures in
    let fits = not_less c.free-free.result c.need-need.result (free_credits (state_of t) c.args.ring) (credits_of (state_of t) c.args.ring c.in-Some.number) c.if-need-free.false (sym free) (sym need) in
    let row = row_found t c.args.ring w c.requires.there in
    record {
      there = row_there t c.args.ring w c.requires.there;
      room = subst (λ o. IfSome o (λ (r : RingRow). length r.state.pending < r.credits.limit)) (sym row.1)
          (room_for_one t c.args.ring c.in-Some.number chosen.0 row.0 w c.requires.there chosen.1.at row.1 fits);
      fits = subst (λ o. IfSome o (λ (r : RingRow). need_of r.credits c.credits-credits.result ≤ free_of r.credits)) (sym row.1)
          (need_fits t c.args.ring c.in-Some.number c.credits-credits.result chosen.0 row.0 w row.1 chosen.1.at told fits);
    }

pub pass_over-requires : goal.pass_over-requires
pass_over-requires c =
    let t = c.args.self.now in
    let w = c.requires.whole in
    let put = c.put.new.self in
    let chosen = choice_is (state_of t) c.args.ring c.in-Some.number (sym c.requires.chosen ∙ c.in-Some.is) in
    let row = row_found t c.args.ring w c.requires.there in
    let change : RingRow → RingRow = put_row c.in-Some.number c.credits-credits.result c.args.now in
    record {
      there = slice_get_within put c.args.ring (change row.0) (row_after t.rings put c.args.ring row.0 change row.1 c.put.ensures);
      passed = subst (λ js. passed_at put c.args.ring ≤ passed_of (is_open js) (pending_at put c.args.ring)) (sym c.deref.ensures.value)
          (put_passes t c.args.ring c.in-Some.number c.credits-credits.result c.args.now chosen.0 c.is_guilty-skipped.result c.schedule_job.new.journal.items put w c.requires.there
          c.schedule_job.ensures.journal chosen.1.at chosen.1.queued c.put.ensures);
    }

pub returns-clause-picked : goal.returns-clause-picked
returns-clause-picked c =
    let t = c.args.self.now in
    let is = sym c.requires.chosen ∙ c.in-Some.is in
    let chosen = choice_is (state_of t) c.args.ring c.in-Some.number is in
    let told = credits_told t.journal.items c.in-Some.number c.credits-credits.result chosen.0 c.index.result.now chosen.1.at c.index.ensures c.credits-credits.ensures in
    let need = c.need-need.ensures ∙ need_told t c.args.ring c.in-Some.number c.credits-credits.result chosen.0 c.credits-ring_credits.result.now c.requires.whole c.requires.there chosen.1.at c.credits-ring_credits.ensures told in
    let free = c.free-free.ensures ∙ free_told t c.args.ring c.credits-ring_credits.result.now c.requires.whole c.requires.there c.credits-ring_credits.ensures in
    let fits = not_less c.free-free.result c.need-need.result (free_credits (state_of t) c.args.ring) (credits_of (state_of t) c.args.ring c.in-Some.number) c.if-need-free.false (sym free) (sym need) in
    let taken = is_taken t c.args.ring c.in-Some.number chosen.0 c.index.result.now c.entity-entity.result c.requires.whole chosen.1 c.index.ensures c.entity-entity.ensures in
    let guilt = guilty_is t.entities c.entity-entity.result c.is_guilty-skipped.result taken.there c.is_guilty-skipped.ensures ∙ ap (is_guilty (state_of t)) (sym taken.of_entity) in
    let done = pick_done t c.args.ring c.args.now c.in-Some.number c.credits-credits.result chosen.0 c.is_guilty-skipped.result c.schedule_job.new.journal c.schedule_job.new.fences c.put.new.self c.pass_over.new.rings c.pop.new.self
    c.requires.whole c.requires.there is fits chosen.1.at guilt c.schedule_job.ensures.journal c.schedule_job.ensures.tied c.schedule_job.ensures.room c.schedule_job.ensures.places
    told c.put.ensures (c.pass_over.ensures ∙ ap (λ js. ring_row_changed c.put.new.self c.args.ring (passed_row js)) c.deref.ensures.value)
    (taken_popped t c.args.ring c.in-Some.number chosen.0 c.entity-entity.result c.is_guilty-skipped.result c.schedule_job.new.journal.items c.pop.new.self c.pop.result c.requires.whole chosen.1 taken
    c.schedule_job.ensures.journal c.pop.ensures.some c.pop.ensures.none) in
    (done.0, done.1)

pub returns-clause-whole : goal.returns-clause-whole
returns-clause-whole c =
    let t = c.args.self.now in
    let is = sym c.requires.chosen ∙ c.in-Some.is in
    let chosen = choice_is (state_of t) c.args.ring c.in-Some.number is in
    let told = credits_told t.journal.items c.in-Some.number c.credits-credits.result chosen.0 c.index.result.now chosen.1.at c.index.ensures c.credits-credits.ensures in
    let need = c.need-need.ensures ∙ need_told t c.args.ring c.in-Some.number c.credits-credits.result chosen.0 c.credits-ring_credits.result.now c.requires.whole c.requires.there chosen.1.at c.credits-ring_credits.ensures told in
    let free = c.free-free.ensures ∙ free_told t c.args.ring c.credits-ring_credits.result.now c.requires.whole c.requires.there c.credits-ring_credits.ensures in
    let fits = not_less c.free-free.result c.need-need.result (free_credits (state_of t) c.args.ring) (credits_of (state_of t) c.args.ring c.in-Some.number) c.if-need-free.false (sym free) (sym need) in
    let taken = is_taken t c.args.ring c.in-Some.number chosen.0 c.index.result.now c.entity-entity.result c.requires.whole chosen.1 c.index.ensures c.entity-entity.ensures in
    let guilt = guilty_is t.entities c.entity-entity.result c.is_guilty-skipped.result taken.there c.is_guilty-skipped.ensures ∙ ap (is_guilty (state_of t)) (sym taken.of_entity) in
    let done = pick_done t c.args.ring c.args.now c.in-Some.number c.credits-credits.result chosen.0 c.is_guilty-skipped.result c.schedule_job.new.journal c.schedule_job.new.fences c.put.new.self c.pass_over.new.rings c.pop.new.self
    c.requires.whole c.requires.there is fits chosen.1.at guilt c.schedule_job.ensures.journal c.schedule_job.ensures.tied c.schedule_job.ensures.room c.schedule_job.ensures.places
    told c.put.ensures (c.pass_over.ensures ∙ ap (λ js. ring_row_changed c.put.new.self c.args.ring (passed_row js)) c.deref.ensures.value)
    (taken_popped t c.args.ring c.in-Some.number chosen.0 c.entity-entity.result c.is_guilty-skipped.result c.schedule_job.new.journal.items c.pop.new.self c.pop.result c.requires.whole chosen.1 taken
    c.schedule_job.ensures.journal c.pop.ensures.some c.pop.ensures.none) in
    done.2
