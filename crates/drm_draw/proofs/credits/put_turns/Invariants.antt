use Rattle.std.proofs.Common.{◌≡◌, ◌++◌, ◌+◌, ◌*◌, ◌≤◌, drop}
use Rattle.drm_draw.specs.Credits.{turns_text}
use Rattle.drm_draw.proofs.credits.put_turns.Given as goal

abbrev pub invariant-loop-place : goal.invariant-loop-place
invariant-loop-place l = record {
  level : l.before ≤ l.level + 65535 * l.place;
  text : l.out.items ++ turns_text l.ring l.limit l.picture l.row l.place l.before (drop l.place l.part) ≡ l.initial.out.items ++ turns_text l.ring l.limit l.picture l.row 0 l.level l.part;
}
