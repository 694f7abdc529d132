-- What a ring keeps beside its state: how many of its pending jobs at the front it is done with, and the credits of
-- all.
use Rattle.std.specs.Prelude.{◌≡◌, ℕ, zero, suc, Bool, not, cond, List, [], ◌∷◌, Some, sum_by, slice_get}
use Rattle.drm_ring.specs.RingRows.{RingState, RingRow}
use Rattle.drm_state.specs.declared.journal.JobRecord.{JobRecord}
use Rattle.drm_state.specs.State.{DeviceState}
use Rattle.drm_state.specs.Journal.{is_at, is_complete}
use Rattle.drm_state.specs.Ring.{credit_limit_of, credits_of}

-- the state that a row stands for
abbrev pub ring_state_of : RingRow → RingState
ring_state_of row = row.state

-- whether the job is there and has packets to run
abbrev pub is_open : List JobRecord → ℕ → Bool
is_open journal f = is_at journal f (λ r. not (is_complete r))

-- how many stand before the first one that passes the test
abbrev pub passed_of : (ℕ → Bool) → List ℕ → ℕ
passed_of test [] = zero
passed_of test (f ∷ rest) = cond (test f) zero (suc (passed_of test rest))

-- the row of a ring that has passed over what it is done with by now
abbrev pub passed_row : List JobRecord → RingRow → RingRow
passed_row journal row = record row { passed = passed_of (is_open journal) row.state.pending }

-- the row has passed over the jobs before the one that the ring runs, and counts the credits of all
pub record RowStands (device : DeviceState) (ring : ℕ) (row : RingRow) : Type 0 where
  pub passed : row.passed ≡ passed_of (is_open device.journal) row.state.pending
  pub credits : row.credits ≡ record { limit = credit_limit_of device ring; count = sum_by (credits_of device ring) row.state.pending }

-- so do all rows
abbrev pub RowsStand : DeviceState → List RingRow → Type 0
RowsStand device rows = (ring : ℕ) (row : RingRow) → slice_get rows ring ≡ Some row → RowStands device ring row
