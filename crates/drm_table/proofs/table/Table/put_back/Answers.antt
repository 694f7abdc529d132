use Rattle.std.proofs.Common.{◌≡◌, ◌+◌, ◌<◌, ◌∙◌, sym, ap, subst, Some, None, arith, slice_get, ◌≤◌}
use Rattle.std.specs.Prelude.{option_map, IfSome, Contains}
use Rattle.std.specs.Option.{option_map_or}
use Rattle.std.proofs.lemmas.Option.{slice_get_within}
use Rattle.drm_lists.proofs.Places.{at_index}
use Rattle.drm_buffer.specs.Memory.{bytes_of, sizes_of}
use Rattle.drm_buffer.specs.Stored.{Stored}
use Rattle.drm_packet.proofs.Sizes.{sizes-effect}
use Rattle.drm_packet.specs.Touches.{touches}
use Rattle.drm_packet.specs.Parts.{target_of, part_effect, other_bytes}
use Rattle.drm_state.specs.declared.journal.JobRecord.{JobRecord}
use Rattle.drm_table.proofs.TableFacts.{running_found, next_in_range, few_packets, vec_holds, row_there}
use Rattle.drm_table.proofs.StepDone.{step_done, ran_passes}
use Rattle.drm_table.proofs.ComingBack.{packet_back, runs_back, back_state}
use Rattle.drm_table.proofs.table.Table.put_back.Goals as goal
use Rattle.drm_ring.specs.RingRows.{pending_at, passed_at, ring_row_changed}
use Rattle.drm_state.specs.Rows.{is_open, passed_of, passed_row}

pub put-requires-clause-out : goal.put-requires-clause-out
put-requires-clause-out c b touched =
    let back = c.requires.back in
    let run = running_found c.args.self.now c.args.ring c.args.number c.index-record.result.now c.requires.whole back.there back.current c.index-record.ensures in
    back.out b (subst (λ q. Contains (touches q) b) (packet_back c.args.self.now c.args.ring c.args.number c.args.write c.args.read back c.index-record.result.now c.packet-packet.result run.current.at c.packet-packet.ensures) touched)

pub put-requires-clause-read : goal.put-requires-clause-read
put-requires-clause-read c =
    let back = c.requires.back in
    let run = running_found c.args.self.now c.args.ring c.args.number c.index-record.result.now c.requires.whole back.there back.current c.index-record.ensures in
    back.read_is
    ∙ ap (λ q. other_bytes q c.args.self.now.memory.bytes)
    (sym (packet_back c.args.self.now c.args.ring c.args.number c.args.write c.args.read back c.index-record.result.now c.packet-packet.result run.current.at c.packet-packet.ensures))

pub put-requires-clause-write : goal.put-requires-clause-write
put-requires-clause-write c =
    let back = c.requires.back in
    let run = running_found c.args.self.now c.args.ring c.args.number c.index-record.result.now c.requires.whole back.there back.current c.index-record.ensures in
    back.write_is
    ∙ ap (λ q. option_map (λ t. part_effect q (bytes_of c.args.self.now.memory.bytes t) c.args.read) (target_of q))
    (sym (packet_back c.args.self.now c.args.ring c.args.number c.args.write c.args.read back c.index-record.result.now c.packet-packet.result run.current.at c.packet-packet.ensures))

pub overflow_add-count : goal.overflow_add-count
overflow_add-count c =
    let back = c.requires.back in
    let run = running_found c.args.self.now c.args.ring c.args.number c.index-record.result.now c.requires.whole back.there back.current c.index-record.ensures in
    let few = few_packets c.args.self.now.spec c.index-record.result.now.job run.job in
    let left = run.left in
    omega (arith, few, left)

pub index_mut-requires : goal.index_mut-requires
index_mut-requires c = vec_holds c.args.self.now.journal c.args.number c.requires.back.job c.requires.back.at

pub count_packet-requires-clause-scheduled : goal.count_packet-requires-clause-scheduled
count_packet-requires-clause-scheduled c =
    let back = c.requires.back in
    let run = running_found c.args.self.now c.args.ring c.args.number c.index-record.result.now c.requires.whole back.there back.current c.index-record.ensures in
    ap (option_map (λ x. x.phase)) run.fence ∙ ap (λ p. Some p) run.current.phase

pub count_packet-requires-clause-fits : goal.count_packet-requires-clause-fits
count_packet-requires-clause-fits c =
    let back = c.requires.back in
    let run = running_found c.args.self.now c.args.ring c.args.number c.index-record.result.now c.requires.whole back.there back.current c.index-record.ensures in
    let few = few_packets c.args.self.now.spec c.index-record.result.now.job run.job in
    let left = run.left in
    let fits : c.index-record.result.now.ran + 1 < 4294967296 = omega (arith, few, left) in
    subst (λ o. IfSome (option_map (λ x. x.ran) o) (λ n. n + 1 < 4294967296)) (sym run.fence) fits

pub pass_over-requires-clause-there : goal.pass_over-requires-clause-there
pass_over-requires-clause-there c = row_there c.args.self.now c.args.ring c.requires.whole c.requires.back.there

pub pass_over-requires-clause-passed : goal.pass_over-requires-clause-passed
pass_over-requires-clause-passed c =
    let t = c.args.self.now in
    let back = c.requires.back in
    let y = c.index-record.result.now in
    let run = running_found t c.args.ring c.args.number y c.requires.whole back.there back.current c.index-record.ensures in
    subst (λ js. passed_at t.rings c.args.ring ≤ passed_of (is_open js) (pending_at t.rings c.args.ring)) (sym c.deref.ensures.value)
    (ran_passes t c.args.ring c.args.number c.index_mut.result.now y c.requires.whole back.there run.current.at c.index_mut.ensures.value)

pub returns-clause-ran : goal.returns-clause-ran
returns-clause-ran c =
    let t = c.args.self.now in
    let back = c.requires.back in
    let y = c.index-record.result.now in
    let p = c.packet-packet.result in
    let run = running_found t c.args.ring c.args.number y c.requires.whole back.there back.current c.index-record.ensures in
    let at_x = at_index t.journal.items c.args.number c.index_mut.result.now c.index_mut.ensures.value (slice_get_within t.journal.items c.args.number y run.current.at) in
    let same : c.index_mut.result.now ≡ y = cc (at_x, run.current.at) in (
      p,
      ap (λ o. option_map_or (λ (z : JobRecord). slice_get z.job.packets z.ran) o None) run.current.at ∙ c.packet-packet.ensures,
      back_state t c.args.ring c.args.number c.index_mut.result.now y p c.put.new.store c.count_packet.new.self c.pass_over.new.rings c.deref.result.now c.requires.whole back.there (ap (λ (s : Stored). s.bytes) c.put.ensures) same run.current.at
          c.pass_over.ensures,
      ap (λ (s : Stored). s.out) c.put.ensures,
    )

pub returns-clause-whole : goal.returns-clause-whole
returns-clause-whole c =
    let t = c.args.self.now in
    let back = c.requires.back in
    let y = c.index-record.result.now in
    let p = c.packet-packet.result in
    let run = running_found t c.args.ring c.args.number y c.requires.whole back.there back.current c.index-record.ensures in
    (step_done t c.args.ring c.args.number c.index_mut.result.now y p c.put.new.store c.count_packet.new.self c.pass_over.new.rings c.requires.whole back.there back.current run
    c.index_mut.ensures.value c.packet-packet.ensures (runs_back t c.args.ring c.args.number c.args.write c.args.read back y p run.current.at c.packet-packet.ensures)
    (ap (λ (s : Stored). s.bytes) c.put.ensures)
    (ap (λ (s : Stored). sizes_of s.bytes) c.put.ensures ∙ sizes-effect p t.memory.bytes (next_in_range t c.args.ring c.args.number y p c.requires.whole run c.packet-packet.ensures))
    c.count_packet.ensures.list c.count_packet.ensures.places
    (c.pass_over.ensures ∙ ap (λ js. ring_row_changed t.rings c.args.ring (passed_row js)) c.deref.ensures.value)).1
