-- What is told of a log, in words.
use Rattle.std.specs.Prelude.{ℕ, zero, suc, ◌/◌, ◌==◌, List, [], ◌++◌, codes, length, Option, Some, None, slice_get, if◌then◌else◌}
use Rattle.std.specs.Fmt.{decimal}
use Rattle.drm_trace.specs.declared.event.Event.{Event}
use Rattle.drm_trace.specs.declared.kinds.Format.{Format}
use Rattle.drm_trace.specs.declared.kinds.Format.TheVariants as formats
use Rattle.drm_trace.specs.declared.log.Log.{Log}
use Rattle.drm_rules.specs.declared.rules.Broken.{Broken}
use Rattle.drm_rules.specs.declared.rules.Rule.{Rule}
use Rattle.drm_rules.specs.declared.rules.Rule.TheVariants as rules
use Rattle.drm_conform.specs.declared.times.Counts.{Counts}
use Rattle.drm_conform.specs.declared.times.Times.{Times}
use Rattle.drm_conform.specs.declared.times.Total.{Total}
use Rattle.drm_rules.specs.Lines.{job_awaited, ring_run, running}
use Rattle.drm_conform.specs.Times.{ring_of, times_of, total_of}

-- ---- names

abbrev pub name_or_mark : Option (List ℕ) → List ℕ
name_or_mark None = codes "unknown"
name_or_mark (Some name) = name

abbrev pub ring_name : List (List ℕ) → ℕ → List ℕ
ring_name rings ring = name_or_mark (slice_get rings ring)

-- a job by its context and number, or by its ring and its number there
abbrev pub name_by : Option Format → List (List ℕ) → Option (ℕ × ℕ) → List ℕ
name_by format rings None = codes "unknown"
name_by (Some formats.Addresses) rings (Some name) = ring_name rings name.0 ++ codes ":" ++ decimal name.1
name_by (Some formats.Numbers) rings (Some name) = decimal name.0 ++ codes ":" ++ decimal name.1
name_by None rings (Some name) = decimal name.0 ++ codes ":" ++ decimal name.1

abbrev pub job_name : Log → ℕ → List ℕ
job_name log job = name_by log.format log.rings (slice_get log.jobs job)

-- ---- broken rules

-- the number of a line, if there is one
abbrev pub line_text : Option Event → List ℕ
line_text None = []
line_text (Some e) = decimal e.line

-- the job of a line, and the line
abbrev pub job_text : Log → Option Event → List ℕ
job_text log None = []
job_text log (Some e) = codes "job " ++ job_name log e.job ++ codes " (line " ++ decimal e.line ++ codes ")"

-- the job that a line waits for, and the line
abbrev pub awaited_in : Log → ℕ → Option ℕ → List ℕ
awaited_in log line None = []
awaited_in log line (Some on) = codes "job " ++ job_name log on ++ codes ", for which it waits (line " ++ decimal line ++ codes ")"

abbrev pub awaited_text : Log → Option Event → List ℕ
awaited_text log None = []
awaited_text log (Some wait) = awaited_in log wait.line (job_awaited wait.what)

-- the line of an end, where the log has it
abbrev pub end_text : Option Event → List ℕ
end_text None = []
end_text (Some end) = codes " (line " ++ decimal end.line ++ codes ")"

-- the ring on which a line runs a job
abbrev pub on_ring : Log → Option ℕ → List ℕ
on_ring log None = []
on_ring log (Some ring) = codes " on " ++ ring_name log.rings ring

-- what is wrong with the job of a line
abbrev pub words_of : Log → Broken → Rule → List ℕ
words_of log one rules.QueuedTwice = codes " is queued again: it was queued in line " ++ line_text one.by
words_of log one rules.QueuedOutOfOrder = codes " is queued behind " ++ job_text log one.by ++ codes " of its entity, which comes later"
words_of log one rules.RanTwice = codes " runs again: it ran in line " ++ line_text one.by
words_of log one rules.RanUnqueued = codes " runs before it is queued in line " ++ line_text one.by
words_of log one rules.RanOutOfOrder = codes " runs behind " ++ job_text log one.by ++ codes " of its entity, which comes later"
words_of log one rules.RanUnready = codes " runs before " ++ awaited_text log one.by ++ codes ", has ended" ++ end_text one.end
words_of log one rules.RanBeyondLimit = codes " runs while its ring has as many jobs as it may have"
words_of log one rules.EndedTwice = codes " ends again: it ended in line " ++ line_text one.by
words_of log one rules.EndedUnrun = codes " ends before it runs in line " ++ line_text one.by
words_of log one rules.EndedOutOfOrder = codes " ends behind " ++ job_text log one.by ++ codes " of its ring, which ran later"

-- a broken rule in one line
abbrev pub text_of_broken : Log → Broken → List ℕ
text_of_broken log one =
    codes "line " ++ decimal one.at.line ++ codes ": job " ++ job_name log one.at.job ++ on_ring log (ring_run one.at.what)
    ++ words_of log one one.rule ++ codes "\n"

-- ---- numbers

-- so many of these
abbrev pub count_text : ℕ → List ℕ → List ℕ → List ℕ
count_text n one many = decimal n ++ codes " " ++ (if n == 1 then one else many)

-- words, and so many of these
abbrev pub counted_text : List ℕ → ℕ → List ℕ → List ℕ → List ℕ
counted_text words n one many = words ++ count_text n one many

-- how many jobs there are, and how many broken rules
abbrev pub text_of_counts : Counts → ℕ → List ℕ
text_of_counts counts broken =
    count_text counts.jobs (codes "job") (codes "jobs") ++ codes ", " ++ count_text broken (codes "broken rule") (codes "broken rules") ++ codes "\n"

-- what was not judged, or not wholly
abbrev pub text_of_rest : Counts → ℕ → List ℕ
text_of_rest counts passed =
    counted_text (codes "passed over: ") passed (codes "line") (codes "lines")
    ++ counted_text (codes "; queued before the log begins: ") counts.early (codes "job") (codes "jobs")
    ++ counted_text (codes "; not ended where it ends: ") counts.late (codes "job") (codes "jobs") ++ codes "\n"

-- the last line that tells that events were lost, if one does
abbrev pub text_of_loss : Option ℕ → List ℕ
text_of_loss None = []
text_of_loss (Some line) = codes "events were lost before line " ++ decimal line ++ codes ": a rule may look broken for want of them\n"

-- how far lines may be out of order
abbrev pub near_text : ℕ → List ℕ
near_text tolerance = codes "lines less than " ++ decimal tolerance ++ codes " us apart may stand in either order\n"

-- the same where they may be
abbrev pub text_of_tolerance : ℕ → List ℕ
text_of_tolerance tolerance = if tolerance == 0 then [] else near_text tolerance

-- ---- times, in microseconds

abbrev pub micros : ℕ → List ℕ
micros time = decimal (time / 1000)

abbrev pub text_of_total : List (List ℕ) → ℕ → Total → List ℕ
text_of_total rings ring total =
    codes "ring " ++ ring_name rings ring ++ codes ": " ++ count_text total.jobs (codes "whole job") (codes "whole jobs")
    ++ codes ", waited for fences " ++ micros total.fences ++ codes ", for their turn " ++ micros total.turn ++ codes ", ran " ++ micros total.ran ++ codes " us\n"

-- the rings up to one of them
abbrev pub text_of_rings : Log → ℕ → List ℕ
text_of_rings log zero = []
text_of_rings log (suc ring) = text_of_rings log ring ++ text_of_total log.rings ring (total_of log.events (length log.jobs) ring)

abbrev pub text_of_times : Log → ℕ → Option ℕ → Option Times → List ℕ
text_of_times log job ring None = []
text_of_times log job ring (Some times) =
    codes "job " ++ job_name log job ++ on_ring log ring ++ codes ": waited for fences " ++ micros times.fences ++ codes ", for its turn " ++ micros times.turn
    ++ codes ", ran " ++ micros times.ran ++ codes " us\n"

-- the jobs up to one of them
abbrev pub text_of_jobs : Log → ℕ → List ℕ
text_of_jobs log zero = []
text_of_jobs log (suc job) = text_of_jobs log job ++ text_of_times log job (ring_of (running log.events job)) (times_of log.events job)
