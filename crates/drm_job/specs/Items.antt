-- What a list of a draft has, wherever it stands.
use Rattle.std.specs.Prelude.{List, []}
use Rattle.drm_job.specs.declared.short_list.Items.{Items}
use Rattle.drm_job.specs.declared.short_list.Items.TheVariants.{Empty, One, Many}

-- the items, in their order
abbrev pub items_of : {T : Type 0} → Items T → List T
items_of Empty = []
items_of (One item) = item
items_of (Many items) = items.items
