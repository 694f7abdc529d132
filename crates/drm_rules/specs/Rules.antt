-- The rules, each a test of a line beside the lines that it has to be held against.
use Rattle.std.specs.Prelude.{ℕ, Bool, true, false, not, ◌+◌, ◌-◌, ◌&&◌, ◌||◌, ◌==◌, nat_lt, nat_le, List, [], ◌∷◌, ◌++◌, Option, Some, None, is_none, is_some, slice_index_or, if◌then◌else◌}
use Rattle.std.specs.Option.{option_and_then}
use Rattle.drm_trace.specs.declared.event.Event.{Event}
use Rattle.drm_trace.specs.declared.event.Place.{Place}
use Rattle.drm_trace.specs.declared.event.What.{What}
use Rattle.drm_trace.specs.declared.event.What.TheVariants as does
use Rattle.drm_rules.specs.declared.rules.Broken.{Broken}
use Rattle.drm_rules.specs.declared.rules.Demands.{Demands}
use Rattle.drm_rules.specs.declared.rules.Rule.{Rule}
use Rattle.drm_rules.specs.declared.rules.Rule.TheVariants as rule
use Rattle.drm_rules.specs.Lines.{count_in, ending, ends, first_in, is_line, job_awaited, last_in, number_told, queueing, queues_of, ring_run, running, runs_of}

-- how far two times are apart
abbrev pub apart : ℕ → ℕ → ℕ
apart a b = (a - b) + (b - a)

-- the lines are less than the tolerance apart, so they may stand in either order
abbrev pub is_near : ℕ → Event → Event → Bool
is_near tolerance a b = nat_lt (apart a.time b.time) tolerance

-- the first line stands before the second, or may have happened before it
abbrev pub precedes : ℕ → Event → Event → Bool
precedes tolerance first e = nat_lt first.line e.line || is_near tolerance first e

-- a line that has to come first does, if it is told
abbrev pub in_turn : ℕ → Option Event → Event → Bool
in_turn tolerance None e = true
in_turn tolerance (Some first) e = precedes tolerance first e

-- a line tells no earlier job of its entity than the line before it
abbrev pub is_next : ℕ → Option Event → Event → Bool
is_next tolerance None e = true
is_next tolerance (Some before) e = nat_le (number_told before.what) (number_told e.what) || is_near tolerance before e

-- ---- dependencies: a fence is met once its job has ended, or runs on the same ring

-- the job has ended before this line
abbrev pub has_ended : ℕ → Option Event → Event → Bool
has_ended tolerance None run = false
has_ended tolerance (Some end) run = precedes tolerance end run

-- two lines run their jobs on the same ring
abbrev pub same_ring : Option ℕ → Option ℕ → Bool
same_ring (Some ring) (Some other) = ring == other
same_ring None other = false
same_ring (Some ring) None = false

-- a job that runs finds another met: the log does not tell that it runs, or it has ended, or it ran before on the same
-- ring
abbrev pub is_met : ℕ → Option Event → Option Event → Option Event → Bool
is_met tolerance None awaited end = true
is_met tolerance (Some run) None end = true
is_met tolerance (Some run) (Some awaited) end =
    has_ended tolerance end run || (same_ring (ring_run awaited.what) (ring_run run.what) && precedes tolerance awaited run)

-- the job that waits in this line, if it ran before what it waits for was met
abbrev pub unmet_of : ℕ → List Event → ℕ → Option ℕ → Option ℕ
unmet_of tolerance log job None = None
unmet_of tolerance log job (Some on) = if is_met tolerance (running log job) (running log on) (ending log on) then None else Some job

abbrev pub unmet : ℕ → List Event → Event → Option ℕ
unmet tolerance log e = unmet_of tolerance log e.job (job_awaited e.what)

-- the end of the job for which a line waits
abbrev pub end_awaited : List Event → Option Event → Option Event
end_awaited log None = None
end_awaited log (Some wait) = option_and_then (λ on. ending log on) (job_awaited wait.what)

-- ---- rings

-- the ring on which a line begins its job: its first run
abbrev pub begins_on : List Event → Event → Option ℕ
begins_on log e = if is_line (running log e.job) e then ring_run e.what else None

-- the ring of a run that stands before a line
abbrev pub ring_before : Option Event → Event → Option ℕ
ring_before None e = None
ring_before (Some run) e = if nat_lt run.line e.line then ring_run run.what else None

-- the ring on which a line ends its job: its first end, behind its run
abbrev pub ends_on : List Event → Event → Option ℕ
ends_on log e = if is_some (ends e) && is_line (ending log e.job) e then ring_before (running log e.job) e else None

-- how many jobs have begun on a ring and have not ended
abbrev pub in_flight : List Event → List Event → ℕ → ℕ
in_flight log seen ring = count_in (begins_on log) seen ring - count_in (ends_on log) seen ring

-- fewer than the limit, if there is one
abbrev pub has_room : Option ℕ → ℕ → Bool
has_room None count = true
has_room (Some most) count = nat_lt count most

-- of two jobs the first ran first, if both ran
abbrev pub ran_first : Option Event → Option Event → Bool
ran_first None other = true
ran_first (Some first) None = true
ran_first (Some first) (Some second) = nat_le first.line second.line

-- a job that ends ran behind the one that ended before it on the ring
abbrev pub ends_next : ℕ → List Event → Option Event → Event → Bool
ends_next tolerance log None e = true
ends_next tolerance log (Some before) e = ran_first (running log before.job) (running log e.job) || is_near tolerance before e

-- ---- what is told

-- a broken rule, unless it is kept
abbrev pub unless : Bool → Broken → List Broken
unless true one = []
unless false one = one ∷ []

-- of a line that queues a job: the line that queues it first, and that which queued before it in the entity
abbrev pub broken_queued : ℕ → Event → Option Event → Option Event → List Broken
broken_queued tolerance e first before =
    unless (is_line first e) (record { rule = rule.QueuedTwice; at = e; by = first; end = None })
    ++ unless (is_next tolerance before e) (record { rule = rule.QueuedOutOfOrder; at = e; by = before; end = None })

-- of a line that runs a job: the line that runs it first, that which queues it, and that which ran before it in the
-- entity
abbrev pub broken_run : ℕ → Event → Option Event → Option Event → Option Event → List Broken
broken_run tolerance e first queued before =
    unless (is_line first e) (record { rule = rule.RanTwice; at = e; by = first; end = None })
    ++ unless (in_turn tolerance queued e) (record { rule = rule.RanUnqueued; at = e; by = queued; end = None })
    ++ unless (is_next tolerance before e) (record { rule = rule.RanOutOfOrder; at = e; by = before; end = None })

-- the same: a wait that was not met, and the end of what it waits for; and whether there was room on the ring
abbrev pub broken_start : Event → Option Event → Option Event → Option Event → Bool → List Broken
broken_start e first wait end room =
    unless (is_none wait || not (is_line first e)) (record { rule = rule.RanUnready; at = e; by = wait; end = end })
    ++ unless room (record { rule = rule.RanBeyondLimit; at = e; by = None; end = None })

-- of a line that ends a job: the line that ends it first, that which runs it, and that which ended before it on the
-- ring
abbrev pub broken_end : ℕ → Event → Option Event → Option Event → Option Event → Bool → List Broken
broken_end tolerance e first run before next =
    unless (is_line first e) (record { rule = rule.EndedTwice; at = e; by = first; end = None })
    ++ unless (in_turn tolerance run e) (record { rule = rule.EndedUnrun; at = e; by = run; end = None })
    ++ unless next (record { rule = rule.EndedOutOfOrder; at = e; by = before; end = None })

-- the line that ended before this one on its ring, where it ends a job
abbrev pub ended_before : List Event → List Event → Option ℕ → Option Event
ended_before log seen None = None
ended_before log seen (Some ring) = last_in (ends_on log) seen ring

module _ (demands : Demands) (log seen : List Event) (e : Event) where
  -- the rules that a line breaks, behind these lines of the log
  abbrev pub broken_by : What → List Broken
  broken_by (does.Queued place) = broken_queued demands.tolerance e (queueing log e.job) (last_in queues_of seen place.entity)
  broken_by (does.Ran place) =
      broken_run demands.tolerance e (running log e.job) (queueing log e.job) (last_in runs_of seen place.entity)
      ++ broken_start e (running log e.job) (first_in (unmet demands.tolerance log) log e.job) (end_awaited log (first_in (unmet demands.tolerance log) log e.job))
      (has_room (slice_index_or demands.limits place.ring None) (in_flight log seen place.ring))
  broken_by (does.Waits on) = []
  broken_by does.Ended =
      broken_end demands.tolerance e (ending log e.job) (running log e.job) (ended_before log seen (ends_on log e))
      (not demands.in_order || ends_next demands.tolerance log (ended_before log seen (ends_on log e)) e)

  abbrev pub broken_at : List Broken
  broken_at = broken_by e.what

-- the rules that the lines break which are left behind these
abbrev pub broken_from : Demands → List Event → List Event → List Event → List Broken
broken_from demands log seen [] = []
broken_from demands log seen (e ∷ rest) = broken_at demands log seen e ++ broken_from demands log (seen ++ e ∷ []) rest

-- all that a log breaks, line by line
abbrev pub broken : Demands → List Event → List Broken
broken demands log = broken_from demands log [] log
