-- What it is that a log keeps the rules, and that one is broken.
use Rattle.std.specs.Prelude.{◌≡◌, ◌↔◌, ℕ, ◌<◌, IsTrue, ◌||◌, not, List, [], ◌∷◌, Option, Some, None, is_none, slice_get, slice_index_or, take, Contains}
use Rattle.drm_trace.specs.declared.event.Event.{Event}
use Rattle.drm_trace.specs.declared.event.Place.{Place}
use Rattle.drm_trace.specs.declared.event.What.{What}
use Rattle.drm_trace.specs.declared.event.What.TheVariants as does
use Rattle.drm_rules.specs.declared.rules.Broken.{Broken}
use Rattle.drm_rules.specs.declared.rules.Demands.{Demands}
use Rattle.drm_rules.specs.Lines.{ending, first_in, is_line, last_in, queueing, queues_of, running, runs_of}
use Rattle.drm_rules.specs.Rules.{broken, broken_at, ended_before, ends_next, ends_on, has_room, in_flight, in_turn, is_next, unmet}

module _ (demands : Demands) (log seen : List Event) (e : Event) where
  -- a job is queued once, in its entity's order
  pub record KeepsQueued (place : Place) : Type 0 where
    pub once : IsTrue (is_line (queueing log e.job) e)
    pub in_order : IsTrue (is_next demands.tolerance (last_in queues_of seen place.entity) e)

  -- a job runs once, behind its queueing, in its entity's order, once each fence is met that it waits for, where its
  -- ring has room
  pub record KeepsRun (place : Place) : Type 0 where
    pub once : IsTrue (is_line (running log e.job) e)
    pub queued : IsTrue (in_turn demands.tolerance (queueing log e.job) e)
    pub in_order : IsTrue (is_next demands.tolerance (last_in runs_of seen place.entity) e)
    pub ready : IsTrue (is_none (first_in (unmet demands.tolerance log) log e.job) || not (is_line (running log e.job) e))
    pub room : IsTrue (has_room (slice_index_or demands.limits place.ring None) (in_flight log seen place.ring))

  -- a job ends once, behind its run, and where that is asked for in the order of its ring
  pub record KeepsEnd : Type 0 where
    pub once : IsTrue (is_line (ending log e.job) e)
    pub ran : IsTrue (in_turn demands.tolerance (running log e.job) e)
    pub in_order : IsTrue (not demands.in_order || ends_next demands.tolerance log (ended_before log seen (ends_on log e)) e)

  -- a line keeps the rules behind these lines of the log
  abbrev pub Keeps : What → Type 0
  Keeps (does.Queued place) = KeepsQueued place
  Keeps (does.Ran place) = KeepsRun place
  Keeps (does.Waits on) = Unit {0}
  Keeps does.Ended = KeepsEnd

-- each line of the log keeps the rules
abbrev pub Conforms : Demands → List Event → Type 0
Conforms demands log = (place : ℕ) (e : Event) → slice_get log place ≡ Some e → Keeps demands log (take place log) e e.what

-- a line of the log breaks the rule
abbrev pub IsBroken : Demands → List Event → Broken → Type 0
IsBroken demands log one = (place : ℕ) × (e : Event) × (slice_get log place ≡ Some e) × Contains (broken_at demands log (take place log) e) one

-- a line of the log breaks the rule, and all lines before it keep all rules
pub record BreaksFirst (demands : Demands) (log : List Event) (one : Broken) : Type 0 where
  pub place : ℕ
  pub line : slice_get log place ≡ Some one.at
  pub breaks : Contains (broken_at demands log (take place log) one.at) one
  pub kept_before : (earlier : ℕ) (e : Event) → earlier < place → slice_get log earlier ≡ Some e → Keeps demands log (take earlier log) e e.what

-- what is told as broken is, and what is broken is told
abbrev pub TellsBroken : Type 0
TellsBroken = (demands : Demands) (log : List Event) (one : Broken) → Contains (broken demands log) one ↔ IsBroken demands log one

-- nothing is told exactly where the log keeps all rules
abbrev pub TellsNoneWhereKept : Type 0
TellsNoneWhereKept = (demands : Demands) (log : List Event) → (broken demands log ≡ []) ↔ Conforms demands log

-- the line that is told first is the least that breaks a rule
abbrev pub TellsLeastFirst : Type 0
TellsLeastFirst = (demands : Demands) (log : List Event) (one : Broken) (more : List Broken) → broken demands log ≡ one ∷ more → BreaksFirst demands log one
