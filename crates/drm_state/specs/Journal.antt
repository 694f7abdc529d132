-- The journal: looking at records, and what is said of one record.
use Rattle.std.specs.Prelude.{ℕ, Bool, false, ◌||◌, nat_le, List, map, length, slice_get, slice_set}
use Rattle.std.specs.Option.{option_map_or}
use Rattle.std.specs.List.{enumerate_from}
use Rattle.drm_serial.specs.Serial.{Turn}
use Rattle.drm_fence.specs.Phases.{has_ended}
use Rattle.drm_state.specs.declared.journal.JobRecord.{JobRecord}

-- the records with their numbers
abbrev pub numbered : List JobRecord → List (ℕ × JobRecord)
numbered journal = enumerate_from 0 journal

-- the turns of the jobs in arming order, each with the packets that it has run
abbrev pub turns : List JobRecord → List Turn
turns journal = map (λ r. record { job = r.job; ran = r.ran }) journal

-- whether there is a record of this number that passes the test
abbrev pub is_at : List JobRecord → ℕ → (JobRecord → Bool) → Bool
is_at journal number test = option_map_or test (slice_get journal number) false

-- the journal with one record changed
abbrev pub changed_at : List JobRecord → ℕ → (JobRecord → JobRecord) → List JobRecord
changed_at journal number change = option_map_or (λ r. slice_set journal number (change r)) (slice_get journal number) journal

-- whether all packets of the job have run, or it is skipped
abbrev pub is_complete : JobRecord → Bool
is_complete r = r.is_skipped || nat_le (length r.job.packets) r.ran

-- whether the job will run no packet any more
abbrev pub is_over : JobRecord → Bool
is_over r = is_complete r || has_ended r.phase
