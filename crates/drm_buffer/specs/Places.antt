-- What a place of the memory shows.
use Rattle.std.specs.Prelude.{ℕ, Bool, true, false, List, map}
use Rattle.drm_buffer.specs.declared.place.Place.{Place}
use Rattle.drm_buffer.specs.declared.place.Place.TheVariants.{In, Out}
use Rattle.drm_buffer.specs.Stored.{Stored}

-- the bytes of its buffer, as they went out where it is out
abbrev pub bytes_at : Place → List ℕ
bytes_at (In buffer) = buffer
bytes_at (Out went) = went.value

-- whether its buffer is out
abbrev pub is_out_at : Place → Bool
is_out_at (In buffer) = false
is_out_at (Out went) = true

-- the bytes that places show, and which are out
abbrev pub stored : List Place → Stored
stored places = record { bytes = map bytes_at places; out = map is_out_at places }
