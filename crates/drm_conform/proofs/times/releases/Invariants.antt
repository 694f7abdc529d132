use Rattle.std.proofs.Common.{◌≡◌, ℕ, take}
use Rattle.std.specs.Prelude.{slice_index_or}
use Rattle.drm_conform.specs.Times.{latest_release}
use Rattle.drm_conform.proofs.times.releases.Given as goal

abbrev pub invariant-loop-event : goal.invariant-loop-event
invariant-loop-event l = (job : ℕ) → slice_index_or l.rows.items job 0 ≡ latest_release l.index (take l.event-index l.log) job
