-- The numbers that are queued.
use Rattle.std.specs.Prelude.{ℕ, ◌<◌, Contains}
use Rattle.drm_entity.specs.Rows.{EntityRows, queue_at}

-- each is below this one
abbrev pub AllBelow : EntityRows → ℕ → Type 0
AllBelow entities limit = (entity number : ℕ) → Contains (queue_at entities entity) number → number < limit
