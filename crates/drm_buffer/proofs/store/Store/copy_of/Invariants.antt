use Rattle.std.proofs.Common.{◌≡◌, map, take, false}
use Rattle.drm_buffer.specs.Places.{bytes_at, is_out_at}
use Rattle.drm_buffer.proofs.store.Store.copy_of.Given as goal

abbrev pub invariant-loop-original : goal.invariant-loop-original
invariant-loop-original l =
    (map bytes_at l.places.items ≡ take l.original-index l.originals) × (map is_out_at l.places.items ≡ map (λ bytes. false) (take l.original-index l.originals))
