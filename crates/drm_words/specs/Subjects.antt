-- What a sentence is told of, and the numbers that this names. 0 stands for what it does not name, and no sentence
-- that belongs to an answer of the core tells that 0.
use Rattle.std.specs.Prelude.{ℕ}
use Rattle.drm_job.specs.declared.Draft.{Draft}
use Rattle.drm_core.specs.declared.event.Event.{Event}
use Rattle.drm_core.specs.declared.event.Event.TheVariants as event
use Rattle.drm_core.specs.Jobs.{with_job}

-- the event with the entity of its job
abbrev pub subject_of : Event Draft → Event ℕ
subject_of event = with_job (λ draft. draft.entity) event

abbrev pub ctx_of : Event ℕ → ℕ
ctx_of (event.Begin ctx) = ctx
ctx_of (event.Try ctx buffer) = ctx
ctx_of (event.Done ctx) = ctx
ctx_of (event.Drop ctx buffer) = ctx
ctx_of (event.End ctx) = ctx
ctx_of (event.Plan ctx entity) = ctx
ctx_of (event.Arm ctx) = ctx
ctx_of (event.Read ctx buffer) = ctx
ctx_of _ = 0

abbrev pub buffer_of : Event ℕ → ℕ
buffer_of (event.Try ctx buffer) = buffer
buffer_of (event.Drop ctx buffer) = buffer
buffer_of (event.Read ctx buffer) = buffer
buffer_of (event.Dump buffer) = buffer
buffer_of _ = 0

abbrev pub ring_of : Event ℕ → ℕ
ring_of (event.Pick ring now) = ring
ring_of (event.Step ring) = ring
ring_of (event.Finish ring now) = ring
ring_of (event.Timeout ring now) = ring
ring_of _ = 0

abbrev pub entity_of : Event ℕ → ℕ
entity_of (event.Submit entity) = entity
entity_of (event.Plan ctx entity) = entity
entity_of (event.Cancel entity) = entity
entity_of (event.Reap entity) = entity
entity_of _ = 0

abbrev pub fence_of : Event ℕ → ℕ
fence_of (event.Status fence) = fence
fence_of _ = 0
