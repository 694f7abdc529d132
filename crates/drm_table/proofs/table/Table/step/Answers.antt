use Rattle.std.proofs.Common.{◌+◌, ◌<◌, ◌∙◌, sym, ap, subst, Some, None, arith, slice_get, ◌≤◌}
use Rattle.std.specs.Prelude.{option_map, IfSome}
use Rattle.std.specs.Option.{option_map_or}
use Rattle.drm_packet.proofs.InStores.{target_touched, source_touched}
use Rattle.drm_buffer.specs.Memory.{sizes_of}
use Rattle.drm_buffer.specs.Stored.{Stored}
use Rattle.drm_packet.proofs.Sizes.{sizes-effect}
use Rattle.drm_state.specs.declared.journal.JobRecord.{JobRecord}
use Rattle.drm_state.specs.Outcomes.{must_stall}
use Rattle.drm_table.specs.Tables.{state_of}
use Rattle.drm_table.proofs.TableFacts.{running_at, running_found, next_in_range, few_packets, vec_holds, row_there}
use Rattle.drm_state.proofs.CallsAre.{step_may, step_stalls}
use Rattle.drm_table.proofs.StepDone.{step_done, ran_passes}
use Rattle.drm_table.proofs.table.Table.step.Goals as goal
use Rattle.drm_ring.specs.RingRows.{pending_at, passed_at, ring_row_changed}
use Rattle.drm_state.specs.Rows.{is_open, passed_of, passed_row}

pub index-record-requires : goal.index-record-requires
index-record-requires c =
    let run = running_at c.args.self.now c.args.ring c.in-Some.number c.requires.whole c.requires.there (sym c.current.ensures ∙ c.in-Some.is) in
    vec_holds c.args.self.now.journal c.in-Some.number run.0 run.1.current.at

pub packet-packet-requires : goal.packet-packet-requires
packet-packet-requires c =
    (running_found c.args.self.now c.args.ring c.in-Some.number c.index-record.result.now c.requires.whole c.requires.there (sym c.current.ensures ∙ c.in-Some.is) c.index-record.ensures).left

pub returns-then-must_stall-clause-ran : goal.returns-then-must_stall-clause-ran
returns-then-must_stall-clause-ran c =
    let t = c.args.self.now in
    let is = sym c.current.ensures ∙ c.in-Some.is in
    let run = running_found t c.args.ring c.in-Some.number c.index-record.result.now c.requires.whole c.requires.there is c.index-record.ensures in
    (step_may (state_of t) c.args.ring c.in-Some.number is, step_stalls (state_of t) c.args.ring c.in-Some.number c.index-record.result.now c.packet-packet.result is run.current.at c.packet-packet.ensures (ap (must_stall c.packet-packet.result) (sym c.resets.ensures) ∙ sym c.if-must_stall.ensures))

pub run_in-requires-clause-range : goal.run_in-requires-clause-range
run_in-requires-clause-range c =
    let t = c.args.self.now in
    let run = running_found t c.args.ring c.in-Some.number c.index-record.result.now c.requires.whole c.requires.there (sym c.current.ensures ∙ c.in-Some.is) c.index-record.ensures in
    next_in_range t c.args.ring c.in-Some.number c.index-record.result.now c.packet-packet.result c.requires.whole run c.packet-packet.ensures

pub run_in-requires-clause-target : goal.run_in-requires-clause-target
run_in-requires-clause-target c b is =
    let t = c.args.self.now in
    let here = sym c.current.ensures ∙ c.in-Some.is in
    let run = running_found t c.args.ring c.in-Some.number c.index-record.result.now c.requires.whole c.requires.there here c.index-record.ensures in
    c.requires.inside c.in-Some.number c.packet-packet.result here
    (ap (λ o. option_map_or (λ (z : JobRecord). slice_get z.job.packets z.ran) o None) run.current.at ∙ c.packet-packet.ensures) b (target_touched c.packet-packet.result b is)

pub run_in-requires-clause-source : goal.run_in-requires-clause-source
run_in-requires-clause-source c b is =
    let t = c.args.self.now in
    let here = sym c.current.ensures ∙ c.in-Some.is in
    let run = running_found t c.args.ring c.in-Some.number c.index-record.result.now c.requires.whole c.requires.there here c.index-record.ensures in
    c.requires.inside c.in-Some.number c.packet-packet.result here
    (ap (λ o. option_map_or (λ (z : JobRecord). slice_get z.job.packets z.ran) o None) run.current.at ∙ c.packet-packet.ensures) b (source_touched c.packet-packet.result b is)

pub overflow_add-count : goal.overflow_add-count
overflow_add-count c =
    let run = running_found c.args.self.now c.args.ring c.in-Some.number c.index-record.result.now c.requires.whole c.requires.there (sym c.current.ensures ∙ c.in-Some.is) c.index-record.ensures in
    let few = few_packets c.args.self.now.spec c.index-record.result.now.job run.job in
    let left = run.left in
    omega (arith, few, left)

pub index_mut-requires : goal.index_mut-requires
index_mut-requires c =
    let run = running_at c.args.self.now c.args.ring c.in-Some.number c.requires.whole c.requires.there (sym c.current.ensures ∙ c.in-Some.is) in
    vec_holds c.args.self.now.journal c.in-Some.number run.0 run.1.current.at

pub count_packet-requires-clause-scheduled : goal.count_packet-requires-clause-scheduled
count_packet-requires-clause-scheduled c =
    let run = running_found c.args.self.now c.args.ring c.in-Some.number c.index-record.result.now c.requires.whole c.requires.there (sym c.current.ensures ∙ c.in-Some.is) c.index-record.ensures in
    ap (option_map (λ x. x.phase)) run.fence ∙ ap (λ p. Some p) run.current.phase

pub count_packet-requires-clause-fits : goal.count_packet-requires-clause-fits
count_packet-requires-clause-fits c =
    let run = running_found c.args.self.now c.args.ring c.in-Some.number c.index-record.result.now c.requires.whole c.requires.there (sym c.current.ensures ∙ c.in-Some.is) c.index-record.ensures in
    let few = few_packets c.args.self.now.spec c.index-record.result.now.job run.job in
    let left = run.left in
    let fits : c.index-record.result.now.ran + 1 < 4294967296 = omega (arith, few, left) in
    subst (λ o. IfSome (option_map (λ x. x.ran) o) (λ n. n + 1 < 4294967296)) (sym run.fence) fits

pub pass_over-requires-clause-there : goal.pass_over-requires-clause-there
pass_over-requires-clause-there c = row_there c.args.self.now c.args.ring c.requires.whole c.requires.there

pub pass_over-requires-clause-passed : goal.pass_over-requires-clause-passed
pass_over-requires-clause-passed c =
    let t = c.args.self.now in
    let is = sym c.current.ensures ∙ c.in-Some.is in
    let run = running_found t c.args.ring c.in-Some.number c.index-record.result.now c.requires.whole c.requires.there is c.index-record.ensures in
    subst (λ js. passed_at t.rings c.args.ring ≤ passed_of (is_open js) (pending_at t.rings c.args.ring)) (sym c.deref.ensures.value)
    (ran_passes t c.args.ring c.in-Some.number c.index_mut.result.now c.index-record.result.now c.requires.whole c.requires.there run.current.at c.index_mut.ensures.value)

pub returns-clause-ran : goal.returns-clause-ran
returns-clause-ran c =
    let t = c.args.self.now in
    let is = sym c.current.ensures ∙ c.in-Some.is in
    let run = running_found t c.args.ring c.in-Some.number c.index-record.result.now c.requires.whole c.requires.there is c.index-record.ensures in (
      step_may (state_of t) c.args.ring c.in-Some.number is,
      (step_done t c.args.ring c.in-Some.number c.index_mut.result.now c.index-record.result.now c.packet-packet.result c.run_in.new.store c.count_packet.new.self c.pass_over.new.rings c.requires.whole c.requires.there is run
          c.index_mut.ensures.value c.packet-packet.ensures (ap (must_stall c.packet-packet.result) (sym c.resets.ensures) ∙ sym c.if-must_stall.ensures) (ap (λ (s : Stored). s.bytes) c.run_in.ensures) (ap (λ (s : Stored). sizes_of s.bytes) c.run_in.ensures ∙ sizes-effect c.packet-packet.result t.memory.bytes (next_in_range t c.args.ring c.in-Some.number c.index-record.result.now c.packet-packet.result c.requires.whole run c.packet-packet.ensures)) c.count_packet.ensures.list c.count_packet.ensures.places
          (c.pass_over.ensures ∙ ap (λ js. ring_row_changed t.rings c.args.ring (passed_row js)) c.deref.ensures.value)).0,
    )

pub returns-clause-whole : goal.returns-clause-whole
returns-clause-whole c =
    let t = c.args.self.now in
    let is = sym c.current.ensures ∙ c.in-Some.is in
    let run = running_found t c.args.ring c.in-Some.number c.index-record.result.now c.requires.whole c.requires.there is c.index-record.ensures in
    (step_done t c.args.ring c.in-Some.number c.index_mut.result.now c.index-record.result.now c.packet-packet.result c.run_in.new.store c.count_packet.new.self c.pass_over.new.rings c.requires.whole c.requires.there is run
    c.index_mut.ensures.value c.packet-packet.ensures (ap (must_stall c.packet-packet.result) (sym c.resets.ensures) ∙ sym c.if-must_stall.ensures) (ap (λ (s : Stored). s.bytes) c.run_in.ensures) (ap (λ (s : Stored). sizes_of s.bytes) c.run_in.ensures ∙ sizes-effect c.packet-packet.result t.memory.bytes (next_in_range t c.args.ring c.in-Some.number c.index-record.result.now c.packet-packet.result c.requires.whole run c.packet-packet.ensures)) c.count_packet.ensures.list c.count_packet.ensures.places
    (c.pass_over.ensures ∙ ap (λ js. ring_row_changed t.rings c.args.ring (passed_row js)) c.deref.ensures.value)).1
