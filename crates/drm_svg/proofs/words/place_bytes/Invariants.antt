use Rattle.std.proofs.Common.{◌≡◌, ◌+◌, ◌++◌, take}
use Rattle.drm_svg.proofs.words.place_bytes.Given as goal

abbrev pub invariant-bytes : goal.invariant-bytes
invariant-bytes l = take (l.at + l.place) l.room ≡ take l.at l.fn.room ++ take l.place l.bytes
