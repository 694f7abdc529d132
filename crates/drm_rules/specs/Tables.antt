-- Tables of a log: what their rows tell of its lines.
use Rattle.std.specs.Prelude.{◌≡◌, ℕ, List, Option, None, slice_index_or}
use Rattle.drm_trace.specs.declared.event.Event.{Event}
use Rattle.drm_rules.specs.declared.index.Firsts.{Firsts}
use Rattle.drm_rules.specs.declared.lanes.Lanes.{Lanes}
use Rattle.drm_rules.specs.Lines.{count_in, ending, first_in, last_in, queueing, queues_of, running, runs_of}
use Rattle.drm_rules.specs.Rules.{begins_on, ends_on, unmet}

-- the rows have the first lines of each job
pub record AreFirsts (firsts : Firsts) (log : List Event) : Type 0 where
  pub queued : (job : ℕ) → slice_index_or firsts.queued.items job None ≡ queueing log job
  pub ran : (job : ℕ) → slice_index_or firsts.ran.items job None ≡ running log job
  pub ended : (job : ℕ) → slice_index_or firsts.ended.items job None ≡ ending log job

-- the rows have the last of some lines of a log, for each entity and each ring, and how many begin and end on each ring
pub record AreLanes (lanes : Lanes) (log seen : List Event) : Type 0 where
  pub queued : (entity : ℕ) → slice_index_or lanes.queued.items entity None ≡ last_in queues_of seen entity
  pub ran : (entity : ℕ) → slice_index_or lanes.ran.items entity None ≡ last_in runs_of seen entity
  pub ended : (ring : ℕ) → slice_index_or lanes.ended.items ring None ≡ last_in (ends_on log) seen ring
  pub begun : (ring : ℕ) → slice_index_or lanes.begun.items ring 0 ≡ count_in (begins_on log) seen ring
  pub over : (ring : ℕ) → slice_index_or lanes.over.items ring 0 ≡ count_in (ends_on log) seen ring

-- the rows have of each job the first line that tells a wait which was not met when it ran
abbrev pub AreWaits : ℕ → List Event → List (Option Event) → Type 0
AreWaits tolerance log waits = (job : ℕ) → slice_index_or waits job None ≡ first_in (unmet tolerance log) log job
