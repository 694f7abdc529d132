use Rattle.std.proofs.Common.{◌≡◌, ◌<◌, length, arith}
use Rattle.drm_engine.proofs.Places.{same_count, same_size, read_at, differ_here}
use Rattle.drm_engine.proofs.comparison.compare.Goals as goal

pub first_difference-requires : goal.first_difference-requires
first_difference-requires c =
    let few : length c.args.left.now ≡ length c.args.told.now = same_count c.args.left.now c.args.told.now c.requires in
    let left : c.loop-buffer.buffer < length c.args.left.now = omega arith in
    let told : c.loop-buffer.buffer < length c.args.told.now = omega arith in
    same_size c.args.left.now c.args.told.now c.loop-buffer.buffer _ _ c.requires
    (read_at _ _ _ _ left c.index-left-buffer.is c.as_slice.ensures)
    (read_at _ _ _ _ told c.index-told-buffer.is c.as_slice-in-loop-buffer.ensures)

pub returns-in-Some : goal.returns-in-Some
returns-in-Some c =
    let few : length c.args.left.now ≡ length c.args.told.now = same_count c.args.left.now c.args.told.now c.requires in
    let left : c.loop-buffer.buffer < length c.args.left.now = omega arith in
    let told : c.loop-buffer.buffer < length c.args.told.now = omega arith in
    differ_here c.args.left.now c.args.told.now c.loop-buffer.buffer c.in-Some.byte _ _
    (read_at _ _ _ _ left c.index-left-buffer.is c.as_slice.ensures)
    (read_at _ _ _ _ told c.index-told-buffer.is c.as_slice-in-loop-buffer.ensures)
    c.loop-buffer.invariant c.in-Some.ensures.some
