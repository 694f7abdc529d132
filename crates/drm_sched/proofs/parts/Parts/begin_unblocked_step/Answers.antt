use Rattle.std.proofs.Common.{◌≡◌, ◌∙◌, refl, sym, ap, None, slice_get}
use Rattle.std.specs.Option.{option_map_or}
use Rattle.drm_buffer.specs.Stored.{Stored}
use Rattle.drm_state.specs.declared.journal.JobRecord.{JobRecord}
use Rattle.drm_sched.specs.Begun.{out_or}
use Rattle.drm_sched.specs.Marks.{Mark, mark_for, ring_out, buffer_out}
use Rattle.drm_sched.specs.Parts.{mark_of_row, marked_of}
use Rattle.drm_state.specs.Outcomes.{must_stall}
use Rattle.drm_state.specs.Refusals.{step_refusal}
use Rattle.drm_table.specs.Tables.{state_of}
use Rattle.drm_state.proofs.CallsAre.{step_may, step_stalls}
use Rattle.drm_table.proofs.TableFacts.{neither, next_in_range, running_at, running_found, vec_holds}
use Rattle.drm_sched.proofs.HeadsBeside.{same_state}
use Rattle.drm_sched.proofs.MarkedOut.{asks_is, next_is_in}
use Rattle.drm_sched.proofs.MarkedBegun.{MayGo, sent_is, sent_marked, parts_run}
use Rattle.drm_sched.proofs.parts.Parts.begin_unblocked_step.Goals as goal

pub index-record-requires : goal.index-record-requires
index-record-requires c =
    let t = c.args.self.now.table in
    let run = running_at t c.args.ring c.in-Some.number c.requires.whole.table c.requires.there (sym c.current.ensures ∙ c.in-Some.is) in
    vec_holds t.journal c.in-Some.number run.0 run.1.current.at

pub packet-packet-requires : goal.packet-packet-requires
packet-packet-requires c =
    (running_found c.args.self.now.table c.args.ring c.in-Some.number c.index-record.result.now c.requires.whole.table c.requires.there (sym c.current.ensures ∙ c.in-Some.is) c.index-record.ensures).left

pub returns-then-must_stall-clause-call : goal.returns-then-must_stall-clause-call
returns-then-must_stall-clause-call c =
    let t = c.args.self.now.table in
    let is = sym c.current.ensures ∙ c.in-Some.is in
    let run = running_found t c.args.ring c.in-Some.number c.index-record.result.now c.requires.whole.table c.requires.there is c.index-record.ensures in (
      ap (λ b. out_or b (step_refusal (state_of t) c.args.ring)) c.requires.free ∙ step_may (state_of t) c.args.ring c.in-Some.number is,
      (
        step_stalls (state_of t) c.args.ring c.in-Some.number c.index-record.result.now c.packet-packet.result is run.current.at c.packet-packet.ensures
            (ap (must_stall c.packet-packet.result) (sym c.resets.ensures) ∙ sym c.if-must_stall.ensures),
        refl,
      ),
    )

pub take-write-requires : goal.take-write-requires
take-write-requires c b touched =
    let d = c.args.self.now in
    let t = d.table in
    let is = sym c.current.ensures ∙ c.in-Some.is in
    let run = running_found t c.args.ring c.in-Some.number c.index-record.result.now c.requires.whole.table c.requires.there is c.index-record.ensures in
    let free = neither (ring_out (marked_of d) c.args.ring) (buffer_out (marked_of d) c.args.ring) c.requires.free in
    next_is_in d c.args.ring c.requires.whole c.requires.there (asks_is d c.args.ring c.requires.whole c.requires.there ∙ free.1) c.in-Some.number c.packet-packet.result is
    (ap (λ o. option_map_or (λ (z : JobRecord). slice_get z.job.packets z.ran) o None) run.current.at ∙ c.packet-packet.ensures) b touched

pub returns-clause-call : goal.returns-clause-call
returns-clause-call c =
    let d = c.args.self.now in
    let t = d.table in
    let r = c.index-record.result.now in
    let p = c.packet-packet.result in
    let is = sym c.current.ensures ∙ c.in-Some.is in
    let run = running_found t c.args.ring c.in-Some.number r c.requires.whole.table c.requires.there is c.index-record.ensures in
    let mark_is : mark_of_row c.of.result ≡ mark_for (state_of t) c.in-Some.number r p =
    c.of.ensures
    ∙ (ap (λ o. let m : Mark = record { fence = c.in-Some.number; packet = r.ran; write = o; read = c.take-write.result.1 } in m) c.take-write.ensures.write
    ∙ ap (λ o. record (mark_for (state_of t) c.in-Some.number r p) { read = o }) c.take-write.ensures.read) in (
      ap (λ b. out_or b (step_refusal (state_of t) c.args.ring)) c.requires.free ∙ step_may (state_of t) c.args.ring c.in-Some.number is,
      (
        r,
        run.current.at,
        is,
        refl,
        c.packet-packet.ensures,
        ap (must_stall p) (sym c.resets.ensures) ∙ (sym c.must_stall.ensures ∙ c.if-must_stall.false),
        c.take-write.ensures.write,
        c.take-write.ensures.read,
        sent_is d c.args.ring c.in-Some.number r p c.of.result c.take-write.new.store mark_is c.take-write.ensures.left,
      ),
    )

pub returns-clause-runs : goal.returns-clause-runs
returns-clause-runs c =
    let t = c.args.self.now.table in
    let p = c.packet-packet.result in
    let is = sym c.current.ensures ∙ c.in-Some.is in
    let run = running_found t c.args.ring c.in-Some.number c.index-record.result.now c.requires.whole.table c.requires.there is c.index-record.ensures in
    parts_run p t.memory.bytes c.take-write.result.0 c.take-write.result.1 c.packets_fit_their_parts.ensures c.take-write.ensures.write c.take-write.ensures.read
    (next_in_range t c.args.ring c.in-Some.number c.index-record.result.now p c.requires.whole.table run c.packet-packet.ensures)

pub returns-clause-whole : goal.returns-clause-whole
returns-clause-whole c =
    let d = c.args.self.now in
    let t = d.table in
    let r = c.index-record.result.now in
    let p = c.packet-packet.result in
    let is = sym c.current.ensures ∙ c.in-Some.is in
    let run = running_found t c.args.ring c.in-Some.number r c.requires.whole.table c.requires.there is c.index-record.ensures in
    let mark_is : mark_of_row c.of.result ≡ mark_for (state_of t) c.in-Some.number r p =
    c.of.ensures
    ∙ (ap (λ o. let m : Mark = record { fence = c.in-Some.number; packet = r.ran; write = o; read = c.take-write.result.1 } in m) c.take-write.ensures.write
    ∙ ap (λ o. record (mark_for (state_of t) c.in-Some.number r p) { read = o }) c.take-write.ensures.read) in
    let may : MayGo d c.args.ring c.in-Some.number r p = record {
      there = c.requires.there;
      free = c.requires.free;
      current = is;
      at = run.current.at;
      next = c.packet-packet.ensures;
      runs = ap (must_stall p) (sym c.resets.ensures) ∙ (sym c.must_stall.ensures ∙ c.if-must_stall.false);
    } in
    sent_marked d c.args.ring c.in-Some.number r p c.of.result c.take-write.new.store c.requires.whole may mark_is c.take-write.ensures.left

pub returns-clause-heads : goal.returns-clause-heads
returns-clause-heads c =
    let t = c.args.self.now.table in
    let same : state_of (record t { memory = c.take-write.new.store }) ≡ state_of t = ap (λ (s : Stored). state_of (record t { memory = s })) c.take-write.ensures.left in
    same_state t (record t { memory = c.take-write.new.store }) c.args.self.now.heads same refl c.requires.heads
