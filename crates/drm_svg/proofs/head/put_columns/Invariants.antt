use Rattle.std.proofs.Common.{◌≡◌, [], flat_map, take}
use Rattle.std.specs.List.{enumerate_from}
use Rattle.drm_picture.specs.Columns.{last_moment}
use Rattle.drm_svg.specs.Head.{column_in}
use Rattle.drm_svg.specs.Pens.{Adds}
use Rattle.drm_svg.proofs.head.put_columns.Given as goal

abbrev pub invariant-loop-place : goal.invariant-loop-place
invariant-loop-place l = record {
  written : Adds l.fn.out.items [] (flat_map (column_in l.picture) (enumerate_from 0 (take l.place l.picture.columns.items))) l.out.items l.pen;
  told : l.told ≡ last_moment (take l.place l.picture.columns.items);
}
