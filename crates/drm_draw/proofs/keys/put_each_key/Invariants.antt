use Rattle.std.proofs.Common.{◌≡◌, ◌++◌, take}
use Rattle.drm_draw.specs.Keys.{each_key_text}
use Rattle.drm_draw.proofs.keys.put_each_key.Given as goal

abbrev pub invariant-loop-place : goal.invariant-loop-place
invariant-loop-place l = l.out.items ≡ l.initial.out.items ++ each_key_text l.wide l.top (take l.place l.keys)
