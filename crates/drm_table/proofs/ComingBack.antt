-- A packet that comes back to its table is the step of its ring.
use Rattle.std.proofs.Common.{◌≡◌, ℕ, ◌+◌, ◌<◌, false, List, set, length, map, Some, Option, refl, sym, ap, ◌∙◌, slice_get}
use Rattle.drm_buffer.specs.Stored.{Stored}
use Rattle.drm_fence.specs.Fences.{Fences}
use Rattle.drm_packet.specs.declared.Packet.{Packet}
use Rattle.drm_packet.specs.Effect.{effect}
use Rattle.drm_state.specs.declared.journal.JobRecord.{JobRecord}
use Rattle.drm_table.specs.declared.table.Table.{Table}
use Rattle.drm_state.specs.State.{DeviceState}
use Rattle.drm_table.specs.Outside.{ComesBack}
use Rattle.drm_state.specs.Outcomes.{must_stall, ran_device}
use Rattle.drm_state.specs.Rows.{passed_row, ring_state_of}
use Rattle.drm_table.specs.Tables.{state_of, IsWhole}
use Rattle.drm_state.proofs.Records.{changed_is}
use Rattle.drm_state.proofs.RanLawful.{one_more_ran}
use Rattle.drm_table.proofs.TableFacts.{row_found, row_changed_is}
use Rattle.drm_table.proofs.StepDone.{ran_tables}
use Rattle.drm_ring.specs.RingRows.{RingRow, ring_row_changed}
use Rattle.drm_state.proofs.LoadsKept.{map_set_same}

-- the job of what comes back, and its packet
pub job_back : (t : Table) (ring number : ℕ) (write read : Option (List ℕ)) (back : ComesBack t ring number write read) (y : JobRecord) → slice_get t.journal.items number ≡ Some y → y ≡ back.job
job_back t ring number write read back y at = cc (at, back.at)

pub packet_back : (t : Table) (ring number : ℕ) (write read : Option (List ℕ)) (back : ComesBack t ring number write read) (y : JobRecord) (p : Packet)
    → slice_get t.journal.items number ≡ Some y → slice_get y.job.packets y.ran ≡ Some p → p ≡ back.packet
packet_back t ring number write read back y p at next =
    let same = job_back t ring number write read back y at in
    let e : Some p ≡ Some back.packet = sym next ∙ (ap (λ (z : JobRecord). slice_get z.job.packets z.ran) same ∙ back.next) in cc (e)

pub runs_back : (t : Table) (ring number : ℕ) (write read : Option (List ℕ)) (back : ComesBack t ring number write read) (y : JobRecord) (p : Packet)
    → slice_get t.journal.items number ≡ Some y → slice_get y.job.packets y.ran ≡ Some p → must_stall p y.karma.resets ≡ false
runs_back t ring number write read back y p at next =
    ap (λ q. must_stall q y.karma.resets) (packet_back t ring number write read back y p at next)
    ∙ (ap (λ (z : JobRecord). must_stall back.packet z.karma.resets) (job_back t ring number write read back y at) ∙ back.runs)

-- the tables after it are those of the device that ran it
pub back_state : (t : Table) (ring f : ℕ) (x y : JobRecord) (p : Packet) (memory : Stored) (fences : Fences) (rows : List RingRow) (journal : List JobRecord) → IsWhole t
    → ring < length t.spec.rings → memory.bytes ≡ effect p t.memory.bytes → x ≡ y → slice_get t.journal.items f ≡ Some y → rows ≡ ring_row_changed t.rings ring (passed_row journal)
    → state_of (ran_tables t f x y.ran memory fences rows) ≡ ran_device (state_of t) f p
back_state t ring f x y p memory fences rows journal w there bytes same at passed =
    let row = row_found t ring w there in
    let new : RingRow = passed_row journal row.0 in
    let rows_are : rows ≡ set t.rings ring new = passed ∙ row_changed_is t.rings ring row.0 (passed_row journal) row.1 in
    ap (λ rs. let d : DeviceState = record (state_of t) { memory = memory.bytes; journal = set t.journal.items f (record x { ran = y.ran + 1 }); rings = rs } in d)
    (ap (map ring_state_of) rows_are ∙ map_set_same ring_state_of t.rings ring row.0 new row.1 refl)
    ∙ (ap (λ bs. let d : DeviceState = record (state_of t) { memory = bs; journal = set t.journal.items f (record x { ran = y.ran + 1 }) } in d) bytes
    ∙ (ap (λ (z : JobRecord). let d : DeviceState = record (state_of t) { memory = effect p t.memory.bytes; journal = set t.journal.items f (record z { ran = y.ran + 1 }) } in d) same
    ∙ ap (λ js. let d : DeviceState = record (state_of t) { memory = effect p t.memory.bytes; journal = js } in d) (sym (changed_is t.journal.items f y one_more_ran at))))
