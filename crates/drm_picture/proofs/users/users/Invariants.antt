use Rattle.std.proofs.Common.{◌≡◌, length}
use Rattle.drm_picture.specs.Users.{AreUsers}
use Rattle.drm_picture.proofs.users.users.Given as goal

abbrev pub invariant-loop-buffer : goal.invariant-loop-buffer
invariant-loop-buffer l = record {
  count : length l.users.items ≡ l.buffer;
  users : AreUsers l.run l.users.items l.fences;
}
