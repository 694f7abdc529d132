-- What the engine keeps of what each lane showed last.
use Rattle.std.specs.Prelude.{◌≡◌, ℕ, ◌<◌, false, List, length, Option, option_and_then, slice_get}
use Rattle.drm_types.specs.declared.spec.DeviceSpec.{DeviceSpec}
use Rattle.drm_core.specs.State.{CoreState}
use Rattle.drm_perfetto.specs.declared.lanes.Lane.{Lane}
use Rattle.drm_perfetto.specs.declared.lanes.Lane.TheVariants as lane
use Rattle.drm_perfetto.specs.declared.lanes.Row.{Row}
use Rattle.drm_perfetto.specs.declared.named.Moves.{Moves}
use Rattle.drm_perfetto.specs.declared.rows.Rows.{Rows}
use Rattle.drm_perfetto.specs.Tracks.{count_of, shown}
use Rattle.drm_perfetto.specs.Watches.{AreKnown}

-- the row of this number
abbrev pub row_at : List (Option Row) → ℕ → Option Row
row_at rows number = option_and_then (λ row. row) (slice_get rows number)

-- the rows are what the lanes of a kind show
abbrev pub AreRows : CoreState → Lane → List (Option Row) → Type 0
AreRows core kind rows =
    (length rows ≡ count_of core.device.spec kind) × ((number : ℕ) → number < count_of core.device.spec kind → row_at rows number ≡ shown core kind number)

-- they are what all lanes show, and what is known of the first jobs in the queues is so
pub record AllRows (core : CoreState) (rows : Rows) : Type 0 where
  pub wait : AreRows core lane.Wait rows.wait.items
  pub queue : AreRows core lane.Queue rows.queue.items
  pub ring : AreRows core lane.Ring rows.ring.items
  pub buffer : AreRows core lane.Buffer rows.buffer.items
  pub credits : AreRows core lane.Credits rows.credits.items
  pub queued : AreRows core lane.Queued rows.queued.items
  pub known : AreKnown core.device rows.watches

-- they are what the lanes of jobs, rings and entities show
pub record DeviceRows (core : CoreState) (rows : Rows) : Type 0 where
  pub wait : AreRows core lane.Wait rows.wait.items
  pub queue : AreRows core lane.Queue rows.queue.items
  pub ring : AreRows core lane.Ring rows.ring.items
  pub credits : AreRows core lane.Credits rows.credits.items
  pub queued : AreRows core lane.Queued rows.queued.items

-- they are what those lanes show of which nothing was moved
pub record KeepsRows (moves : Moves) (core : CoreState) (rows : Rows) : Type 0 where
  pub device : moves.device ≡ false → DeviceRows core rows
  pub holders : moves.holders ≡ false → AreRows core lane.Buffer rows.buffer.items

-- there are as many as lanes
pub record HaveRoom (spec : DeviceSpec) (rows : Rows) : Type 0 where
  pub wait : length rows.wait.items ≡ count_of spec lane.Wait
  pub queue : length rows.queue.items ≡ count_of spec lane.Queue
  pub ring : length rows.ring.items ≡ count_of spec lane.Ring
  pub buffer : length rows.buffer.items ≡ count_of spec lane.Buffer
  pub credits : length rows.credits.items ≡ count_of spec lane.Credits
  pub queued : length rows.queued.items ≡ count_of spec lane.Queued
