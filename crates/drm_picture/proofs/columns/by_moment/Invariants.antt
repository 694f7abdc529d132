use Rattle.std.proofs.Common.{◌≡◌, map, take}
use Rattle.std.specs.List.{enumerate_from}
use Rattle.drm_picture.specs.Columns.{IsPeriod, column_at}
use Rattle.drm_picture.specs.declared.columns.Scale.TheVariants as scale
use Rattle.drm_picture.proofs.columns.by_moment.Given as goal

abbrev pub invariant-loop-place : goal.invariant-loop-place
invariant-loop-place l = record {
  period : IsPeriod (take l.place l.commands) l.period;
  placed : l.lefts.items ≡ map (λ p. column_at (scale.Moment l.unit) l.commands p.0) (enumerate_from 0 (take l.place l.commands));
}
