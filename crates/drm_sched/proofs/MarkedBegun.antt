-- A device stays whole when a packet goes out of it.
use Rattle.std.proofs.Common.{◌≡◌, ℕ, ◌<◌, Bool, true, false, not, List, [], set, length, Some, None, Option, refl, sym, ap, subst, ◌∙◌, slice_get}
use Rattle.std.specs.Option.{option_map_or}
use Rattle.std.specs.Prelude.{IsTrue, is_none, option_map}
use Rattle.std.specs.Vec.{with_item}
use Rattle.std.proofs.lemmas.List.{map-set}
use Rattle.drm_buffer.specs.Memory.{bytes_of}
use Rattle.drm_buffer.specs.Stored.{Stored}
use Rattle.drm_packet.specs.declared.Packet.{Packet}
use Rattle.drm_packet.specs.Laws.{PacketsFitTheirParts}
use Rattle.drm_packet.specs.Parts.{target_of, other_bytes, fits_parts}
use Rattle.drm_packet.specs.Touches.{touches, is_in_range}
use Rattle.drm_state.specs.declared.journal.JobRecord.{JobRecord}
use Rattle.drm_sched.specs.declared.parts.OutMark.{OutMark}
use Rattle.drm_sched.specs.declared.parts.Parts.{Parts}
use Rattle.drm_table.specs.declared.table.Table.{Table}
use Rattle.drm_sched.specs.Marks.{Mark, mark_of, mark_for, ring_out, buffer_out, is_step_blocked, begun_device, IsSteadyMarked}
use Rattle.drm_sched.specs.Parts.{mark_of_row, marked_of, IsWholeMarked, HasOut}
use Rattle.drm_state.specs.Outcomes.{must_stall}
use Rattle.drm_state.specs.Ring.{current_of}
use Rattle.drm_table.specs.Tables.{state_of, IsWhole}
use Rattle.drm_sched.proofs.MarkedBuffers.{set_both, begun_out}
use Rattle.drm_sched.proofs.MarkedOut.{asks_is, next_is_in}
use Rattle.drm_sched.proofs.MarksKept.{begun_steady}
use Rattle.drm_table.proofs.TableFacts.{neither}

-- the ring's next packet, which may go out
pub record MayGo (d : Parts) (ring f : ℕ) (r : JobRecord) (p : Packet) : Type 0 where
  pub there : ring < length d.table.spec.rings
  pub free : is_step_blocked (marked_of d) ring ≡ false
  pub current : current_of (state_of d.table) ring ≡ Some f
  pub at : slice_get d.table.journal.items f ≡ Some r
  pub next : slice_get r.job.packets r.ran ≡ Some p
  pub runs : must_stall p r.karma.resets ≡ false

-- it finds its ranges in its own buffers
pub parts_run : (p : Packet) (m : List (List ℕ)) (write read : Option (List ℕ)) → PacketsFitTheirParts → write ≡ option_map (bytes_of m) (target_of p) → read ≡ other_bytes p m
    → IsTrue (is_in_range p m) → (bytes : List ℕ) → write ≡ Some bytes → IsTrue (fits_parts p bytes read)
parts_run p m write read law write_is read_is range bytes is =
    elim (target_of p) as (λ o. target_of p ≡ o → option_map (bytes_of m) o ≡ Some bytes → IsTrue (fits_parts p bytes read)) [
      | None ↦ λ e none. absurd (cc (none))
      | Some t ↦ λ e some.
          let own : bytes_of m t ≡ bytes = cc (some) in
          subst (λ r. IsTrue (fits_parts p bytes r)) (sym read_is) (subst (λ bs. IsTrue (fits_parts p bs (other_bytes p m))) own (law p t m e range))
    ] refl (sym write_is ∙ is)

-- the memory of a device after the packet's buffers were taken
abbrev pub taken : Parts → Packet → Stored
taken d p = record d.table.memory { out = set_both d.table.memory.out p true }

-- the parts after a packet went out: this memory, and this row for the ring
abbrev pub sent : Parts → ℕ → OutMark → Stored → Parts
sent d ring row memory = record { table = record d.table { memory = memory }; marks = with_item d.marks ring (Some row); heads = d.heads }

-- the mark stands for the packet that went out
pub sent_is : (d : Parts) (ring f : ℕ) (r : JobRecord) (p : Packet) (row : OutMark) (memory : Stored) → mark_of_row row ≡ mark_for (state_of d.table) f r p
    → memory ≡ taken d p → marked_of (sent d ring row memory) ≡ begun_device (marked_of d) ring (mark_for (state_of d.table) f r p)
sent_is d ring f r p row memory mark_is memory_is =
    ap (λ s. marked_of (sent d ring row s)) memory_is
    ∙ ap (λ ms. record (marked_of d) { marks = ms })
    (map-set (option_map mark_of_row) d.marks.items ring (Some row) ∙ ap (λ m. set (marked_of d).marks ring (Some m)) mark_is)

-- tables are whole whatever of their memory is out
whole_out : (t : Table) (out : List Bool) → IsWhole t → IsWhole (record t { memory = record t.memory { out = out } })
whole_out t out w = record {
  steady = w.steady;
  limits = w.limits;
  count = w.count;
  fences = w.fences;
  waits = w.waits;
  queues = w.queues;
  loads = w.loads;
  rows = λ ring row at. record { passed = (w.rows ring row at).passed; credits = (w.rows ring row at).credits };
  sizes = w.sizes;
  rooms = record { jobs = w.rooms.jobs; waits = w.rooms.waits; places = w.rooms.places; queues = w.rooms.queues };
}

pub sent_marked : (d : Parts) (ring f : ℕ) (r : JobRecord) (p : Packet) (row : OutMark) (memory : Stored) → IsWholeMarked d → MayGo d ring f r p
    → mark_of_row row ≡ mark_for (state_of d.table) f r p → memory ≡ taken d p → IsWholeMarked (sent d ring row memory)
sent_marked d ring f r p row memory w may mark_is memory_is =
    let m = mark_for (state_of d.table) f r p in
    let is = sent_is d ring f r p row memory mark_is memory_is in
    let ways = neither (ring_out (marked_of d) ring) (buffer_out (marked_of d) ring) may.free in
    let here : ring < length (marked_of d).marks = subst (λ n. ring < n) (sym w.steady.count) may.there in
    let none : mark_of (marked_of d) ring ≡ None = not_marked (mark_of (marked_of d) ring) ways.0 in
    let next : option_map_or (λ (z : JobRecord). slice_get z.job.packets z.ran) (slice_get d.table.journal.items f) None ≡ Some p =
    ap (λ o. option_map_or (λ (z : JobRecord). slice_get z.job.packets z.ran) o None) may.at ∙ may.next in
    let same = ap (λ o. option_map_or touches o []) (ap (λ o. option_map_or (λ (z : JobRecord). slice_get z.job.packets r.ran) o None) may.at ∙ may.next) in
    let inside = next_is_in d ring w may.there (asks_is d ring w may.there ∙ ways.1) f p may.current next in
    record {
      table = subst (λ s. IsWhole (record d.table { memory = s })) (sym memory_is) (whole_out d.table (set_both d.table.memory.out p true) w.table);
      steady = subst IsSteadyMarked (sym is) (begun_steady (marked_of d) ring f r p w.steady here ways.1 may.current may.at may.next may.runs);
      out = subst (λ z. HasOut z memory.out) (sym is)
          (subst (HasOut (begun_device (marked_of d) ring m)) (sym (ap (λ (s : Stored). s.out) memory_is))
          (begun_out (marked_of d) ring m p d.table.memory.out w.out here none same inside));
    }
  where
    not_marked : (o : Option Mark) → not (is_none o) ≡ false → o ≡ None
    not_marked None free = refl
    not_marked (Some x) free = let never : true ≡ false = free in absurd (cc (never))
