-- The bars of a lane, of which those of jobs that wait stand in the order of their fences.
use Rattle.std.specs.Prelude.{ℕ, Bool, false, ◌+◌, ◌==◌, Option, Some, None, if◌then◌else◌}
use Rattle.drm_picture.specs.declared.bars.Kind.{Kind}
use Rattle.drm_picture.specs.declared.bars.Kind.TheVariants as kind
use Rattle.drm_svg.specs.declared.placing.Placed.{Placed}

abbrev pub waits_with : ℕ → Kind → ℕ → Bool
waits_with fence kind.Waiting number = number == fence
waits_with fence _ number = false

-- the bar is that of a job that waits and has this fence
abbrev pub is_waiting : ℕ → Placed → Bool
is_waiting fence placed = waits_with fence placed.bar.kind placed.bar.opening.number

-- the bar, if there is one and it is that of such a job
abbrev pub if_waiting : ℕ → Option Placed → Option Placed
if_waiting fence (Some placed) = if is_waiting fence placed then Some placed else None
if_waiting fence None = None

abbrev pub order_by : Kind → ℕ → ℕ
order_by kind.Waiting fence = fence + 1
order_by _ number = 0

-- where a bar stands in the order of a lane: one of a job that waits behind all others, by its fence
abbrev pub order_of : Placed → ℕ
order_of placed = order_by placed.bar.kind placed.bar.opening.number
