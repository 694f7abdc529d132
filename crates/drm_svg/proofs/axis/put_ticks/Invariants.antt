use Rattle.std.proofs.Common.{◌≡◌, ◌++◌, flat_map, take}
use Rattle.std.specs.List.{enumerate_from}
use Rattle.drm_picture.specs.Columns.{last_moment}
use Rattle.drm_svg.specs.Axis.{tick_in}
use Rattle.drm_svg.proofs.axis.put_ticks.Given as goal

abbrev pub invariant-loop-place : goal.invariant-loop-place
invariant-loop-place l = record {
  written : l.out.items ≡ l.initial.out.items ++ flat_map (tick_in l.picture) (enumerate_from 0 (take l.place l.picture.columns.items));
  told : l.told ≡ last_moment (take l.place l.picture.columns.items);
}
