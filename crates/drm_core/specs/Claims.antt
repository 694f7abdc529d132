-- What a claim answers where another context holds the reservation, and how the row of a context changes.
use Rattle.std.specs.Prelude.{ℕ, nat_lt, if◌then◌else◌, true, None}
use Rattle.drm_state.specs.declared.answer.Answer.{Answer}
use Rattle.drm_state.specs.declared.answer.Answer.TheVariants as answer
use Rattle.drm_core.specs.declared.cores.ContextRow.{ContextRow}

-- the holder is older, or younger, than the context of this ticket
abbrev pub claimed_of : ℕ → ℕ → Answer
claimed_of ticket holder = if nat_lt holder ticket then answer.Older holder else answer.Younger holder

-- the row of a context that locks no more
abbrev pub with_seal : ContextRow → ContextRow
with_seal row = record row { is_sealed = true }

-- the row of a context that has nothing planned
abbrev pub without_plan : ContextRow → ContextRow
without_plan row = record row { plan = None }
