-- Events in chunks.
use Rattle.std.specs.Prelude.{List}
use Rattle.std.specs.List.{flat_map}
use Rattle.drm_job.specs.declared.Draft.{Draft}
use Rattle.drm_core.specs.declared.event.Event.{Event}

-- the events of these chunks, in their order
abbrev pub all_of : List (List (Event Draft)) → List (Event Draft)
all_of chunks = flat_map (λ chunk. chunk) chunks
