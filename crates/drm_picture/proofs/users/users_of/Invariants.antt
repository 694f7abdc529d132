use Rattle.std.proofs.Common.{take}
use Rattle.drm_picture.specs.Users.{AreUsersOf}
use Rattle.drm_picture.proofs.users.users_of.Given as goal

abbrev pub invariant-loop-bar : goal.invariant-loop-bar
invariant-loop-bar l = AreUsersOf l.run l.buffer l.entities.items (take l.bar-index l.fences)
