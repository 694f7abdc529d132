-- Lists of blank rows, and the tables that are made of them.
use Rattle.std.proofs.Common.{◌≡◌, ℕ, zero, suc, false, List, [], ◌∷◌, map, length, replicate, Some, None, refl, sym, ap, subst, ◌∙◌, arith, slice_get}
use Rattle.std.specs.Prelude.{sum_by}
use Rattle.std.specs.Option.{option_map_or}
use Rattle.drm_lists.proofs.Places.{map_to_same}
use Rattle.drm_types.specs.Limits.{spec_fault}
use Rattle.drm_types.specs.declared.spec.RingSpec.{RingSpec}
use Rattle.drm_types.specs.declared.spec.DeviceSpec.{DeviceSpec}
use Rattle.drm_entity.specs.Rows.{EntityRow, EntityRows}
use Rattle.drm_buffer.specs.Memory.{sizes_of}
use Rattle.drm_buffer.specs.Stored.{Stored, all_in}
use Rattle.drm_state.specs.declared.journal.JobRecord.{JobRecord}
use Rattle.drm_ring.specs.RingRows.{RingRow, idle_row}
use Rattle.drm_table.specs.declared.table.Table.{Table}
use Rattle.drm_state.specs.State.{RingState, DeviceState, opened_device}
use Rattle.drm_state.specs.Steady.{IsSteady}
use Rattle.drm_table.specs.Plain.{marks_of, marks, WaitsStand, QueuesStand}
use Rattle.drm_state.specs.Loads.{LoadsOf}
use Rattle.drm_state.specs.Rows.{is_open, passed_of, RowsStand, ring_state_of}
use Rattle.drm_state.specs.Records.{fence_state_of}
use Rattle.drm_table.specs.Tables.{state_of, HasRooms, IsWhole}
use Rattle.drm_state.proofs.LoadsKept.{loads_blank}
use Rattle.drm_state.proofs.Opening.{opened_steady}
use Rattle.drm_ring.specs.Counted.{Counted}
use Rattle.drm_state.specs.Ring.{credit_limit_of, credits_of}

pub map_same : {X Y : Type 0} (f : X → Y) (n : ℕ) (x : X) → map f (replicate n x) ≡ replicate n (f x)
map_same f zero x = refl
map_same f (suc n) x = ap (λ ys. f x ∷ ys) (map_same f n x)

-- the row of a ring of the description, on which nothing is pending
idle_at : (specs : List RingSpec) (ring : ℕ) (row : RingRow) → slice_get (map idle_row specs) ring ≡ Some row
    → (row.state.pending ≡ []) × (row.passed ≡ 0)
    × (row.credits ≡ record { limit = option_map_or (λ (s : RingSpec). s.credit_limit) (slice_get specs ring) 0; count = 0 })
idle_at [] ring row at = absurd (cc (at))
idle_at (s ∷ specs) zero row at =
    let is : idle_row s ≡ row = cc (at) in (
      ap (λ (r : RingRow). r.state.pending) (sym is),
      ap (λ (r : RingRow). r.passed) (sym is),
      ap (λ (r : RingRow). r.credits) (sym is),
    )
idle_at (s ∷ specs) (suc ring) row at = idle_at specs ring row at

-- such rows are those of no jobs
blank_rows : (d : DeviceState) (rows : List RingRow) → rows ≡ map idle_row d.spec.rings → RowsStand d rows
blank_rows d rows blank ring row at =
    let is = idle_at d.spec.rings ring row (ap (λ rs. slice_get rs ring) (sym blank) ∙ at) in
    record {
      passed = is.1 ∙ sym (ap (passed_of (is_open d.journal)) is.0);
      credits = is.2 ∙ sym (ap (λ ns. let c : Counted = record { limit = credit_limit_of d ring; count = sum_by (credits_of d ring) ns } in c) is.0);
    }

-- and of an opened device
idle_states : (specs : List RingSpec) → map ring_state_of (map idle_row specs) ≡ map (λ (ring : RingSpec). record { pending = []; since = 0 }) specs
idle_states [] = refl
idle_states (s ∷ specs) = ap (λ l. let idle : RingState = record { pending = []; since = 0 } in idle ∷ l) (idle_states specs)

-- entities with nothing queued and no marks
abbrev pub blank_entities : DeviceSpec → EntityRows
blank_entities spec = record {
  places = spec.max_jobs;
  rows = replicate (length spec.entities) (record { queue = []; is_stopped = false; is_guilty = false });
}

-- their queues are those of no jobs
no_queues : (spec : DeviceSpec) → QueuesStand [] (blank_entities spec)
no_queues spec entity lt = by_row (length spec.entities) entity
  where
    by_row : (n entity : ℕ) → option_map_or (λ (r : EntityRow). r.queue) (slice_get (replicate n (record { queue = []; is_stopped = false; is_guilty = false })) entity) [] ≡ []
    by_row zero entity = refl
    by_row (suc n) zero = refl
    by_row (suc n) (suc entity) = by_row n entity

-- the tables of a device on which no job was armed
pub blank_device : (t : Table) → t.memory ≡ all_in t.spec.buffers → t.journal.items ≡ []
    → t.rings ≡ map idle_row t.spec.rings → t.entities ≡ blank_entities t.spec → state_of t ≡ opened_device t.spec
blank_device t memory journal rings entities =
    ap (λ m. let d : DeviceState = record { spec = t.spec; memory = m; journal = t.journal.items; rings = map ring_state_of t.rings; entities = marks t.entities } in d) (ap (λ (s : Stored). s.bytes) memory)
    ∙ (ap (λ j. let d : DeviceState = record { spec = t.spec; memory = t.spec.buffers; journal = j; rings = map ring_state_of t.rings; entities = marks t.entities } in d) journal
    ∙ (ap (λ rs. let d : DeviceState = record { spec = t.spec; memory = t.spec.buffers; journal = []; rings = rs; entities = marks t.entities } in d)
    (ap (map ring_state_of) rings ∙ idle_states t.spec.rings)
    ∙ ap (λ es. record (opened_device t.spec) { entities = es })
    (ap marks entities ∙ (map_same marks_of (length t.spec.entities) (record { queue = []; is_stopped = false; is_guilty = false })
    ∙ sym (map_to_same (record { is_stopped = false; is_guilty = false }) t.spec.entities)))))

-- no job waits for anything
pub no_waits : (journal : List JobRecord) (waits : List (List (ℕ × ℕ))) → journal ≡ [] → waits ≡ [] → WaitsStand journal waits
no_waits journal waits no_jobs none = subst (λ ws. WaitsStand journal ws) (sym none) (subst (λ j. WaitsStand j []) (sym no_jobs) (record {
  count = refl;
  stand = λ j r deps at going found. absurd (cc (at));
}))

pub blank_whole : (t : Table) → state_of t ≡ opened_device t.spec → t.rings ≡ map idle_row t.spec.rings → spec_fault t.spec ≡ None → t.fences.list ≡ [] → t.waits.lists ≡ [] → t.entities ≡ blank_entities t.spec
    → t.loads.live.items ≡ replicate (length t.spec.rings) 0 → t.loads.last.items ≡ replicate (length t.spec.entities) None → t.loads.ended ≡ 0 → HasRooms t → IsWhole t
blank_whole t opened blank limits fences waits entities live last ended rooms =
    let no_jobs : t.journal.items ≡ [] = ap (λ (d : DeviceState). d.journal) opened in
    record {
      steady = subst IsSteady (sym opened) (opened_steady t.spec);
      limits = limits;
      count = let none : length t.journal.items ≡ 0 = ap length no_jobs in omega (arith, none);
      fences = fences ∙ ap (map fence_state_of) (sym no_jobs);
      waits = no_waits t.journal.items t.waits.lists no_jobs waits;
      queues = subst (QueuesStand t.journal.items) (sym entities) (subst (λ js. QueuesStand js (blank_entities t.spec)) (sym no_jobs) (no_queues t.spec));
      loads = subst (λ js. LoadsOf t.spec js t.loads) (sym no_jobs) (loads_blank t.spec t.loads live last ended);
      rows = blank_rows (state_of t) t.rings blank;
      sizes = ap (λ (d : DeviceState). sizes_of d.memory) opened;
      rooms = rooms;
    }
