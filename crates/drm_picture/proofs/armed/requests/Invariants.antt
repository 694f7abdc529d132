use Rattle.std.proofs.Common.{◌≡◌, take}
use Rattle.std.specs.List.{enumerate_from, filter_map}
use Rattle.drm_picture.specs.Armed.{request_at}
use Rattle.drm_picture.proofs.armed.requests.Given as goal

abbrev pub invariant-loop-place : goal.invariant-loop-place
invariant-loop-place l = l.requests.items ≡ filter_map (request_at l.run) (enumerate_from 0 (take l.place l.run))
