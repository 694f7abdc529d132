-- A report of a device: what comes back is what went out, and it is the step of the ring.
use Rattle.std.proofs.Common.{◌≡◌, ℕ, ◌<◌, List, set, map, length, Some, None, Option, refl, sym, ap, subst, ◌∙◌, slice_get, get_or}
use Rattle.std.specs.Option.{option_map_or}
use Rattle.std.specs.Prelude.{option_map, Contains}
use Rattle.std.proofs.lemmas.List.{map-set, length-map}
use Rattle.std.proofs.lemmas.Option.{slice_get-get_or}
use Rattle.drm_lists.proofs.Places.{to_map}
use Rattle.drm_buffer.specs.Memory.{bytes_of}
use Rattle.drm_packet.specs.Parts.{target_of, part_effect}
use Rattle.drm_state.specs.declared.answer.Answer.TheVariants as answer
use Rattle.drm_state.specs.declared.journal.JobRecord.{JobRecord}
use Rattle.drm_table.specs.declared.table.Table.{Table}
use Rattle.drm_sched.specs.declared.parts.OutMark.{OutMark}
use Rattle.drm_sched.specs.declared.parts.Parts.{Parts}
use Rattle.drm_sched.specs.Begun.{IsReport, HasReported}
use Rattle.drm_sched.specs.Marks.{Mark, MarkedDevice, mark_of, packet_at, reported_device, IsOut}
use Rattle.drm_sched.specs.Parts.{mark_of_row, marked_of, IsWholeMarked}
use Rattle.drm_table.specs.Outside.{ComesBack, IsBack}
use Rattle.drm_state.specs.Outcomes.{next_packet, ran_device}
use Rattle.drm_state.specs.State.{DeviceState}
use Rattle.drm_table.specs.Tables.{state_of}
use Rattle.drm_sched.proofs.Marks.{report_is_step}
use Rattle.drm_sched.proofs.MarksKept.{touches_out}
use Rattle.drm_sched.proofs.MarksOther.{mark_there}

-- the mark of a row
pub row_mark : (d : Parts) (ring : ℕ) (o : Option OutMark) → slice_get d.marks.items ring ≡ Some o → mark_of (marked_of d) ring ≡ option_map mark_of_row o
row_mark d ring o at = ap (λ x. option_map_or (λ z. z) x None) (to_map (option_map mark_of_row) d.marks.items ring o at)

-- the packet of a mark
pub packet_out : (d : DeviceState) (ring : ℕ) (m : Mark) (out : IsOut d ring m) → packet_at d.journal m.fence m.packet ≡ Some out.packet
packet_out d ring m out = ap (λ o. option_map_or (λ (z : JobRecord). slice_get z.job.packets m.packet) o None) out.at ∙ out.next

map_twice : {X Y Z : Type 0} (f : Y → Z) (g : X → Y) (o : Option X) → option_map f (option_map g o) ≡ option_map (λ x. f (g x)) o
map_twice f g None = refl
map_twice f g (Some x) = refl

-- what is reported comes back
pub report_back : (d : Parts) (ring : ℕ) (row : OutMark) (write read : Option (List ℕ)) → IsWholeMarked d → ring < length d.table.spec.rings
    → mark_of (marked_of d) ring ≡ Some (mark_of_row row) → IsReport (marked_of d) ring write read → ComesBack d.table ring row.fence write read
report_back d ring row write read w there is (n, p, is_n, at_p, write_is, read_is) =
    let m = mark_of_row row in
    let out = w.steady.out ring m is in
    let bytes = d.table.memory.bytes in
    let same : n ≡ m = (let e : Some n ≡ Some m = sym is_n ∙ is in cc (e)) in
    let same_packet : p ≡ out.packet =
    (let e : Some p ≡ Some out.packet = sym at_p ∙ (ap (λ (z : Mark). packet_at d.table.journal.items z.fence z.packet) same ∙ packet_out (state_of d.table) ring m out) in cc (e)) in
    let read_m : read ≡ m.read = read_is ∙ ap (λ (z : Mark). z.read) same in
    record {
      there = there;
      current = out.current;
      job = out.job;
      at = out.at;
      packet = out.packet;
      next = ap (λ k. slice_get out.job.job.packets k) out.count ∙ out.next;
      runs = out.runs;
      out = λ b touched. w.out.outside ring m is b (subst (λ (bs : List ℕ). Contains bs b) (sym (touches_out (state_of d.table) ring m out)) touched);
      read_is = read_m ∙ out.read;
      write_is =
          write_is
          ∙ (ap (λ (z : Mark). option_map (λ b. part_effect p b z.read) z.write) same
          ∙ (ap (λ r. option_map (λ b. part_effect p b r) m.write) (sym read_m)
          ∙ (ap (λ q. option_map (λ b. part_effect q b read) m.write) same_packet
          ∙ (ap (option_map (λ b. part_effect out.packet b read)) out.write ∙ map_twice (λ b. part_effect out.packet b read) (bytes_of bytes) (target_of out.packet)))));
    }

-- the device after it
pub report_leaves : (d : Parts) (ring : ℕ) (row : OutMark) (n : Table) (new : Parts) → IsWholeMarked d
    → (is : mark_of (marked_of d) ring ≡ Some (mark_of_row row)) → IsBack d.table row.fence n → new.table ≡ n → new.marks.items ≡ set d.marks.items ring None
    → HasReported (marked_of d) ring (row.fence, row.packet) (marked_of new)
report_leaves d ring row n new w is (p, next, state, outs) table marks =
    let m = mark_of_row row in
    let out = w.steady.out ring m is in
    let at_next : next_packet d.table.journal.items row.fence ≡ Some out.packet =
    ap (λ o. option_map_or (λ (z : JobRecord). slice_get z.job.packets z.ran) o None) out.at ∙ (ap (λ k. slice_get out.job.job.packets k) out.count ∙ out.next) in
    let same : p ≡ out.packet = (let e : Some p ≡ Some out.packet = sym next ∙ at_next in cc (e)) in
    let left : state_of new.table ≡ ran_device (state_of d.table) row.fence out.packet =
    ap state_of table ∙ (state ∙ ap (ran_device (state_of d.table) row.fence) same) in
    let whole : marked_of new ≡ reported_device (marked_of d) ring m out.packet =
    ap (λ s. let z : MarkedDevice = record { state = s; marks = map (option_map mark_of_row) new.marks.items } in z) left
    ∙ ap (λ ms. let z : MarkedDevice = record { state = ran_device (state_of d.table) row.fence out.packet; marks = ms } in z)
    (ap (map (option_map mark_of_row)) marks ∙ map-set (option_map mark_of_row) d.marks.items ring None) in
    let step = report_is_step (state_of d.table) ring m out in (
      m,
      out.packet,
      is,
      packet_out (state_of d.table) ring m out,
      refl,
      whole,
      step.0,
      step.1 ∙ ap (λ s. (answer.Ran row.fence row.packet, s)) (sym left),
    )

-- the mark of a ring that reports stands in its row
pub mark_found : (d : Parts) (ring : ℕ) (x : Option OutMark) (write read : Option (List ℕ)) → x ≡ get_or d.marks.items ring x → IsReport (marked_of d) ring write read
    → slice_get d.marks.items ring ≡ Some x
mark_found d ring x write read x_is (m, p, is, at_p, write_is, read_is) =
    let lt : ring < length d.marks.items =
    subst (λ n. ring < n) (length-map d.marks.items (option_map mark_of_row)) (mark_there (marked_of d).marks ring m is) in
    slice_get-get_or d.marks.items ring x lt ∙ ap (λ o. Some o) (sym x_is)

pub never_empty : (d : Parts) (ring : ℕ) (write read : Option (List ℕ)) → slice_get d.marks.items ring ≡ Some None → IsReport (marked_of d) ring write read → ⊥
never_empty d ring write read at (m, p, is, at_p, write_is, read_is) = let never : None ≡ Some m = sym (row_mark d ring None at) ∙ is in cc (never)
