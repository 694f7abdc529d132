use Rattle.std.proofs.Common.{◌≡◌, ◌*◌, ◌≤◌, drop}
use Rattle.std.specs.Prelude.{fold}
use Rattle.drm_draw.specs.Levels.{level_behind, level_of}
use Rattle.drm_draw.proofs.levels.last_level.Given as goal

abbrev pub invariant-loop-step : goal.invariant-loop-step
invariant-loop-step l = record {
  level : fold (level_behind l.ring l.limit l.armed) l.level (drop l.step-index l.steps) ≡ level_of l.ring l.limit l.armed l.steps;
  most : l.level ≤ 65535 * l.step-index;
}
