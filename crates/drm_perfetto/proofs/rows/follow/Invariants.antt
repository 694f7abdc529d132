use Rattle.std.proofs.Common.{◌≡◌, ℕ, ◌<◌, ◌≤◌, length}
use Rattle.drm_perfetto.specs.Pens.{AddsEntries}
use Rattle.drm_perfetto.specs.Rows.{row_at}
use Rattle.drm_perfetto.specs.Steps.{changed, each}
use Rattle.drm_perfetto.specs.Tracks.{count_of, shown}
use Rattle.drm_perfetto.specs.Watches.{AreKnown}
use Rattle.drm_perfetto.proofs.rows.follow.Given as goal

abbrev pub invariant-loop-number : goal.invariant-loop-number
invariant-loop-number g l = record {
  room : length l.rows.items ≡ count_of l.core.device.spec l.lane;
  known : AreKnown l.core.device l.watches;
  done : (n : ℕ) → n < l.number → row_at l.rows.items n ≡ shown l.core l.lane n;
  left : (n : ℕ) → l.number ≤ n → row_at l.rows.items n ≡ row_at l.fn.rows.items n;
  entries : AddsEntries l.fn.pen l.fn.writer (each l.number (λ n. changed l.lane l.change.when l.change.cause n (row_at l.fn.rows.items n) (shown l.core l.lane n))) l.pen l.writer;
}
