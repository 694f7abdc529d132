use Rattle.std.proofs.Common.{◌≡◌, ℕ, ◌<◌, length}
use Rattle.drm_perfetto.specs.Rows.{row_at}
use Rattle.drm_perfetto.specs.Tracks.{shown}
use Rattle.drm_perfetto.specs.Watches.{AreKnown}
use Rattle.drm_perfetto.proofs.rows.rows_of.Given as goal

abbrev pub invariant-loop-number : goal.invariant-loop-number
invariant-loop-number l = record {
  room : length l.rows.items ≡ l.number;
  done : (n : ℕ) → n < l.number → row_at l.rows.items n ≡ shown l.core l.lane n;
  known : AreKnown l.core.device l.watches;
}
