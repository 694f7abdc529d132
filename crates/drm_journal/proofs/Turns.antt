-- Journals that run as they are read: each line adds to the jobs that were forgotten what it adds to all.
use Rattle.std.proofs.Common.{◌≡◌, ℕ, ◌+◌, ◌<◌, ◌≤◌, Bool, true, false, cond, List, [], ◌∷◌, ◌++◌, append_assoc, append-nil, length, length-append, map, Option, Some, None, Result, Ok, Err, refl, sym, ap, subst, ◌∙◌, arith}
use Rattle.std.specs.Prelude.{◌&&◌, is_none, not, nat_le, take, All, IfOk, IfSome}
use Rattle.std.specs.List.{AllByRecursion}
use Rattle.std.proofs.lemmas.Bool.{and_parts, leb-true, ltb-true}
use Rattle.std.proofs.lemmas.List.{map-append}
use Rattle.std.proofs.lemmas.List.Elements.{All-from_recursion}
use Rattle.std.proofs.lemmas.List.Sums.{fold-append}
use Rattle.drm_buffer.specs.Memory.{sizes_of}
use Rattle.drm_types.specs.Firsts.{is_nil}
use Rattle.drm_types.proofs.Firsts.{none_at, none_when}
use Rattle.drm_types.specs.Limits.{is_between, spec_fault, spec_tests, whole}
use Rattle.drm_types.specs.declared.spec.DeviceSpec.{DeviceSpec}
use Rattle.drm_job.specs.Fault.{job_fault}
use Rattle.drm_job.specs.Ranges.{RunsIn}
use Rattle.drm_job.proofs.InRange.{runs_in}
use Rattle.drm_serial.specs.Serial.{after_turn, serial}
use Rattle.drm_serial.proofs.Sizes.{runs_by_sizes, sizes-serial}
use Rattle.drm_text.specs.Cut.{Left, Words}
use Rattle.drm_text.specs.declared.fault.Fault.{Fault}
use Rattle.drm_text.specs.declared.fault.ReadError.{ReadError}
use Rattle.drm_text.specs.declared.fault.ReadError.TheVariants as errors
use Rattle.drm_text.specs.declared.keywords.Command.TheVariants as command
use Rattle.drm_text.specs.declared.keywords.Keyword.{Keyword}
use Rattle.drm_text.specs.declared.keywords.Keyword.TheVariants as line
use Rattle.drm_text.specs.Lines.{last_line, start_at, out_of_order}
use Rattle.drm_text.specs.Reading.{◌>>=◌, or_fault, Fails, Gives}
use Rattle.drm_text.specs.Words.{end_at}
use Rattle.drm_text.proofs.WordReaders.{bind_ok, ok_is}
use Rattle.drm_stream.specs.Transfer.{input_error_of}
use Rattle.drm_stream.proofs.Known.{spelled}
use Rattle.drm_journal.proofs.Taken.{judge_journal_taken}
use Rattle.drm_parse.specs.Job.{is_job}
use Rattle.drm_journal.specs.declared.journal.JournalJob.{JournalJob}
use Rattle.drm_journal.specs.declared.journal.Reading.{Reading}
use Rattle.drm_journal.specs.declared.running.JournalBuffers.{JournalBuffers}
use Rattle.drm_journal.specs.Journal.{JournalParts, AreRecords, IsJournal, IsRead, body_of, final_at, has_place, is_record, journal_line, judge_journal, nothing_read, record_at, size_of, with_body}
use Rattle.drm_journal.specs.Leaving.{AreOfAJournal, IsRunOf, buffers_if_read, buffers_of, judge_buffers, left_by, turn_of}
use Rattle.drm_journal.proofs.JournalReaders.{journal_stands, journal_takes, line_keeps, none_read, the_journal}

-- what was read, with these jobs before its own
abbrev pub with_before : List JournalJob → Reading → Reading
with_before before reading = record { jobs = before ++ reading.jobs; finals = reading.finals; is_over = reading.is_over }

-- ---- a line tells the same, whatever jobs come before

added : (here : Bool) (read : Result JournalJob Fault) (before : List JournalJob) (reading : Reading) (fault : Fault)
    → cond here (read >>= λ job. let r : Reading = record (with_before before reading) { jobs = (before ++ reading.jobs) ++ job ∷ [] } in Ok r) (Err fault)
    ≡ (cond here (read >>= λ job. let r : Reading = record reading { jobs = reading.jobs ++ job ∷ [] } in Ok r) (Err fault) >>= λ next. Ok (with_before before next))
added true (Ok job) before reading fault =
    ap (λ (js : List JournalJob). let r : Reading = record { jobs = js; finals = reading.finals; is_over = reading.is_over } in Ok r) (append_assoc before reading.jobs (job ∷ []))
added true (Err e) before reading fault = refl
added false read before reading fault = refl

told : (read : Result (List ℕ) Fault) (before : List JournalJob) (reading : Reading)
    → (read >>= λ bytes. let r : Reading = record (with_before before reading) { finals = reading.finals ++ bytes ∷ [] } in Ok r)
    ≡ ((read >>= λ bytes. let r : Reading = record reading { finals = reading.finals ++ bytes ∷ [] } in Ok r) >>= λ next. Ok (with_before before next))
told (Ok bytes) before reading = refl
told (Err e) before reading = refl

told_sized : (size : Option ℕ) (words : Words) (before : List JournalJob) (reading : Reading) (fault : Fault)
    → (or_fault size fault >>= λ k. final_at k words >>= λ bytes. let r : Reading = record (with_before before reading) { finals = reading.finals ++ bytes ∷ [] } in Ok r)
    ≡ ((or_fault size fault >>= λ k. final_at k words >>= λ bytes. let r : Reading = record reading { finals = reading.finals ++ bytes ∷ [] } in Ok r) >>= λ next. Ok (with_before before next))
told_sized (Some k) words before reading fault = told (final_at k words) before reading
told_sized None words before reading fault = refl

ended : {E : Type 0} (here : Bool) (read : Result E Fault) (before : List JournalJob) (reading : Reading) (fault : Fault)
    → cond here (read >>= λ _. let r : Reading = record (with_before before reading) { is_over = true } in Ok r) (Err fault)
    ≡ (cond here (read >>= λ _. let r : Reading = record reading { is_over = true } in Ok r) (Err fault) >>= λ next. Ok (with_before before next))
ended true (Ok done) before reading fault = refl
ended true (Err e) before reading fault = refl
ended false read before reading fault = refl

body_behind : (spec : DeviceSpec) (number : ℕ) (before : List JournalJob) (reading : Reading) (n : ℕ) (keyword : Keyword) (words : Words)
    → with_body spec number (with_before before reading) n keyword words ≡ (with_body spec number reading n keyword words >>= λ next. Ok (with_before before next))
body_behind spec number before reading n line.Job words =
    added (is_nil reading.finals && not reading.is_over) (record_at spec number words) before reading (out_of_order n)
body_behind spec number before reading n line.Final words =
    told_sized (size_of spec (length reading.finals)) words before reading (out_of_order n)
body_behind spec number before reading n (line.Command command.End) words = ended _ (end_at words) before reading (out_of_order n)
body_behind spec number before reading n other words = refl

started : (spec : DeviceSpec) (number : ℕ) (before : List JournalJob) (reading : Reading) (n : ℕ) (start : Result (Keyword × Words) Fault)
    → (start >>= λ s. with_body spec number (with_before before reading) n s.0 s.1)
    ≡ ((start >>= λ s. with_body spec number reading n s.0 s.1) >>= λ next. Ok (with_before before next))
started spec number before reading n (Ok s) = body_behind spec number before reading n s.0 s.1
started spec number before reading n (Err e) = refl

line_behind : (spec : DeviceSpec) (number : ℕ) (before : List JournalJob) (reading : Reading) (n : ℕ) (bytes : List ℕ)
    → journal_line spec number (with_before before reading) n bytes ≡ (journal_line spec number reading n bytes >>= λ next. Ok (with_before before next))
unfolding journal_line
line_behind spec number before reading n bytes = started spec number before reading n (start_at n bytes)

-- ---- one line after another

counted : (before : List JournalJob) (reading : Reading) (armed : ℕ) → length before ≡ armed → reading.jobs ≡ [] → length (before ++ reading.jobs) ≡ armed
counted before reading armed is none = ap (λ (js : List JournalJob). length (before ++ js)) none ∙ ap (λ (js : List JournalJob). length js) (append-nil before) ∙ is

-- a line that is read tells the same of all that was read
line_read : (spec : DeviceSpec) (before : List JournalJob) (reading next : Reading) (armed n : ℕ) (bytes : List ℕ) → length before ≡ armed → reading.jobs ≡ []
    → journal_line spec armed reading n bytes ≡ Ok next → journal_line spec (length (before ++ reading.jobs)) (with_before before reading) n bytes ≡ Ok (with_before before next)
line_read spec before reading next armed n bytes is none read =
    ap (λ (k : ℕ). journal_line spec k (with_before before reading) n bytes) (counted before reading armed is none)
    ∙ line_behind spec armed before reading n bytes
    ∙ ap (λ (r : Result Reading Fault). r >>= λ next. Ok (with_before before next)) read

line_faulty : (spec : DeviceSpec) (before : List JournalJob) (reading : Reading) (armed n : ℕ) (bytes : List ℕ) (fault : Fault) → length before ≡ armed → reading.jobs ≡ []
    → journal_line spec armed reading n bytes ≡ Err fault → journal_line spec (length (before ++ reading.jobs)) (with_before before reading) n bytes ≡ Err fault
line_faulty spec before reading armed n bytes fault is none read =
    ap (λ (k : ℕ). journal_line spec k (with_before before reading) n bytes) (counted before reading armed is none)
    ∙ line_behind spec armed before reading n bytes
    ∙ ap (λ (r : Result Reading Fault). r >>= λ next. Ok (with_before before next)) read

goes_on : (spec : DeviceSpec) (before : List JournalJob) (reading next : Reading) (armed n : ℕ) (bytes more : List ℕ) (rest : List (List ℕ)) → length before ≡ armed → reading.jobs ≡ []
    → journal_line spec armed reading n bytes ≡ Ok next
    → body_of spec (with_before before reading) n bytes (more ∷ rest) ≡ body_of spec (with_before before next) (n + 1) more rest
unfolding body_of
goes_on spec before reading next armed n bytes more rest is none read =
    ap (λ (r : Result Reading Fault). r >>= λ r. body_of spec r (n + 1) more rest) (line_read spec before reading next armed n bytes is none read)

stops : (spec : DeviceSpec) (before : List JournalJob) (reading : Reading) (armed n : ℕ) (bytes more : List ℕ) (rest : List (List ℕ)) (fault : Fault) → length before ≡ armed → reading.jobs ≡ []
    → journal_line spec armed reading n bytes ≡ Err fault
    → body_of spec (with_before before reading) n bytes (more ∷ rest) ≡ Err fault
unfolding body_of
stops spec before reading armed n bytes more rest fault is none read =
    ap (λ (r : Result Reading Fault). r >>= λ r. body_of spec r (n + 1) more rest) (line_faulty spec before reading armed n bytes fault is none read)

-- what holds of all that was read holds with one more line
keeps : (spec : DeviceSpec) (before : List JournalJob) (reading next : Reading) (armed n : ℕ) (bytes : List ℕ) → length before ≡ armed → reading.jobs ≡ []
    → journal_line spec armed reading n bytes ≡ Ok next → IsRead spec (with_before before reading) → IsRead spec (with_before before next)
keeps spec before reading next armed n bytes is none read all =
    line_keeps spec (with_before before reading) n bytes (with_before before next) all (line_read spec before reading next armed n bytes is none read)

-- where the jobs that were read are forgotten, they come before
forgotten : (before : List JournalJob) (reading next : Reading) → next ≡ record reading { jobs = [] } → with_before (before ++ reading.jobs) next ≡ with_before before reading
forgotten before reading next is =
    ap (with_before (before ++ reading.jobs)) is
    ∙ ap (λ (js : List JournalJob). let r : Reading = record { jobs = js; finals = reading.finals; is_over = reading.is_over } in r) (append-nil (before ++ reading.jobs))

-- ---- the jobs that were read can run, and are few

none_from : {X : Type 0} (o : Option X) → is_none o ≡ true → o ≡ None
none_from None is = refl
none_from (Some x) is = absurd (cc)

job_of_record : (spec : DeviceSpec) (number : ℕ) (armed : JournalJob) → is_record spec number armed ≡ true → job_fault spec armed.job ≡ None
unfolding is_job
job_of_record spec number armed is = none_from (job_fault spec armed.job) (and_parts (is_job spec armed.job) (has_place spec.max_jobs number armed) is).0

turns_run : (spec : DeviceSpec) (number : ℕ) (jobs : List JournalJob) → AreRecords spec number jobs
    → AllByRecursion (λ turn. RunsIn spec.buffers turn.job) (map turn_of jobs)
turns_run spec number [] are = tt
turns_run spec number (armed ∷ jobs) are =
    (runs_in spec armed.job spec.buffers (job_of_record spec number armed are.0) refl, turns_run spec (number + 1) jobs are.1)

-- the later jobs are records too
later_records : (spec : DeviceSpec) (number : ℕ) (before jobs : List JournalJob) → AreRecords spec number (before ++ jobs) → (later : ℕ) × AreRecords spec later jobs
later_records spec number [] jobs are = (number, are)
later_records spec number (armed ∷ before) jobs are = later_records spec (number + 1) before jobs are.1

earlier_records : (spec : DeviceSpec) (number : ℕ) (before jobs : List JournalJob) → AreRecords spec number (before ++ jobs) → AreRecords spec number before
earlier_records spec number [] jobs are = tt
earlier_records spec number (armed ∷ before) jobs are = (are.0, earlier_records spec (number + 1) before jobs are.1)

run_in : (spec : DeviceSpec) (number : ℕ) (jobs : List JournalJob) (memory : List (List ℕ)) → sizes_of memory ≡ sizes_of spec.buffers → AreRecords spec number jobs
    → AllByRecursion (λ armed. RunsIn memory armed.job) jobs
run_in spec number [] memory same are = tt
run_in spec number (armed ∷ jobs) memory same are =
    (runs_by_sizes armed.job memory spec.buffers same (runs_in spec armed.job spec.buffers (job_of_record spec number armed are.0) refl), run_in spec (number + 1) jobs memory same are.1)

-- what the turns of these jobs leave has the sizes of the header's buffers
sizes_left : (spec : DeviceSpec) (jobs : List JournalJob) → AreRecords spec 0 jobs → sizes_of (serial spec.buffers (map turn_of jobs)) ≡ sizes_of spec.buffers
sizes_left spec jobs are =
    sizes-serial (map turn_of jobs) spec.buffers (All-from_recursion (λ turn. RunsIn spec.buffers turn.job) (map turn_of jobs) (turns_run spec 0 jobs are))

-- the jobs of a line can run after those before
can_run : (spec : DeviceSpec) (before : List JournalJob) (reading : Reading) (machine : List (List ℕ)) → IsRead spec (with_before before reading)
    → machine ≡ serial spec.buffers (map turn_of before) → All (λ armed. RunsIn machine armed.job) reading.jobs
can_run spec before reading machine read is =
    let later = later_records spec 0 before reading.jobs read.0 in
    let same : sizes_of machine ≡ sizes_of spec.buffers = ap sizes_of is ∙ sizes_left spec before (earlier_records spec 0 before reading.jobs read.0) in
    All-from_recursion (λ armed. RunsIn machine armed.job) reading.jobs (run_in spec later.0 reading.jobs machine same later.1)

-- the turns of these jobs, and then of those
turns_after : (initial machine next : List (List ℕ)) (before jobs : List JournalJob) → machine ≡ serial initial (map turn_of before) → next ≡ serial machine (map turn_of jobs)
    → next ≡ serial initial (map turn_of (before ++ jobs))
turns_after initial machine next before jobs first then =
    then ∙ ap (λ m. serial m (map turn_of jobs)) first
    ∙ sym (fold-append after_turn initial (map turn_of before) (map turn_of jobs))
    ∙ ap (serial initial) (sym (map-append turn_of before jobs))

below_limit : (spec : DeviceSpec) (number : ℕ) (armed : JournalJob) → is_record spec number armed ≡ true → number < spec.max_jobs
below_limit spec number armed is =
    ltb-true number spec.max_jobs (and_parts _ _ (and_parts _ _ (and_parts (is_job spec armed.job) (has_place spec.max_jobs number armed) is).1).0).0

few_records : (spec : DeviceSpec) (number : ℕ) (jobs : List JournalJob) → number ≤ spec.max_jobs → AreRecords spec number jobs → number + length jobs ≤ spec.max_jobs
few_records spec number [] few are = omega (arith, few)
few_records spec number (armed ∷ jobs) few are =
    let here = below_limit spec number armed are.0 in
    let rest = few_records spec (number + 1) jobs (omega (arith, here)) are.1 in
    omega (arith, rest)

-- the jobs of a device can be counted in 16 bits
few_jobs : (spec : DeviceSpec) → spec_fault spec ≡ None → spec.max_jobs ≤ 65535
few_jobs spec none =
    let count = none_when (is_between 1 65535 spec.max_jobs) (record { part = 8; index = 0 })
    (none_at (spec_tests spec) 8 (whole 8 (is_between 1 65535 spec.max_jobs)) none refl) in
    leb-true spec.max_jobs 65535 (and_parts (nat_le 1 spec.max_jobs) (nat_le spec.max_jobs 65535) count).1

-- the device has room for all jobs that were read
are_few : (spec : DeviceSpec) (before : List JournalJob) (reading : Reading) (armed : ℕ) → length before ≡ armed → IsRead spec (with_before before reading)
    → armed + length reading.jobs ≤ spec.max_jobs
are_few spec before reading armed is read =
    let few = few_records spec 0 (before ++ reading.jobs) (omega arith) read.0 in
    omega (arith, few, is, length-append before reading.jobs)

-- ---- the loop over the lines

-- of the jobs that were forgotten: they are as many as were armed, with them all lines read as this, and the machine
-- ran their turns
abbrev pub RunsOn : DeviceSpec → Result Reading Fault → ℕ → Reading → List (List ℕ) → Left → Type 0
RunsOn spec all armed reading machine left =
    (before : List JournalJob) × (length before ≡ armed) × (body_of spec (with_before before reading) left.line left.bytes left.more ≡ all)
    × IsRead spec (with_before before reading) × (machine ≡ serial spec.buffers (map turn_of before))

-- the jobs of a line that is read
pub runs_here : (spec : DeviceSpec) (all : Result Reading Fault) (armed : ℕ) (reading next : Reading) (machine : List (List ℕ)) (left : Left) → RunsOn spec all armed reading machine left → reading.jobs ≡ []
    → journal_line spec armed reading left.line left.bytes ≡ Ok next → All (λ armed. RunsIn machine armed.job) next.jobs
runs_here spec all armed reading next machine left on none read =
    can_run spec on.0 next machine (keeps spec on.0 reading next armed left.line left.bytes on.1 none read on.3) on.4

pub few_here : (spec : DeviceSpec) (all : Result Reading Fault) (armed : ℕ) (reading next : Reading) (machine : List (List ℕ)) (left : Left) → spec_fault spec ≡ None
    → RunsOn spec all armed reading machine left → reading.jobs ≡ [] → journal_line spec armed reading left.line left.bytes ≡ Ok next → armed + length next.jobs ≤ 65535
few_here spec all armed reading next machine left fits on none read =
    let few = are_few spec on.0 next armed on.1 (keeps spec on.0 reading next armed left.line left.bytes on.1 none read on.3) in
    let jobs = few_jobs spec fits in
    omega (arith, few, jobs)

-- a line whose jobs ran and were forgotten
pub runs_more : (spec : DeviceSpec) (all : Result Reading Fault) (armed : ℕ) (reading next after : Reading) (machine later : List (List ℕ)) (left rest : Left)
    → RunsOn spec all armed reading machine left → reading.jobs ≡ [] → left.more ≡ rest.bytes ∷ rest.more → rest.line ≡ left.line + 1
    → journal_line spec armed reading left.line left.bytes ≡ Ok next → after ≡ record next { jobs = [] } → later ≡ serial machine (map turn_of next.jobs)
    → RunsOn spec all (armed + length next.jobs) after later rest
runs_more spec all armed reading next after machine later left rest on none more line read forgets runs =
    let before = on.0 ++ next.jobs in
    let whole : with_before before after ≡ with_before on.0 next = forgotten on.0 next after forgets in
    let body : body_of spec (with_before on.0 reading) left.line left.bytes left.more ≡ body_of spec (with_before on.0 next) rest.line rest.bytes rest.more =
    ap (λ (m : List (List ℕ)). body_of spec (with_before on.0 reading) left.line left.bytes m) more
    ∙ goes_on spec on.0 reading next armed left.line left.bytes rest.bytes rest.more on.1 none read
    ∙ ap (λ (n : ℕ). body_of spec (with_before on.0 next) n rest.bytes rest.more) (sym line) in
    let count : length before ≡ armed + length next.jobs = length-append on.0 next.jobs ∙ ap (λ (n : ℕ). n + length next.jobs) on.1 in (
      before,
      count,
      ap (λ (r : Reading). body_of spec r rest.line rest.bytes rest.more) whole ∙ sym body ∙ on.2,
      subst (λ (r : Reading). IsRead spec r) (sym whole) (keeps spec on.0 reading next armed left.line left.bytes on.1 none read on.3),
      turns_after spec.buffers machine later on.0 next.jobs on.4 runs,
    )

-- a line that has a fault
pub runs_no_more : (spec : DeviceSpec) (all : Result Reading Fault) (armed : ℕ) (reading : Reading) (machine : List (List ℕ)) (left rest : Left) (e : ReadError)
    → RunsOn spec all armed reading machine left → reading.jobs ≡ [] → left.more ≡ rest.bytes ∷ rest.more
    → Fails e (journal_line spec armed reading left.line left.bytes) → Fails e (buffers_if_read spec all)
runs_no_more spec all armed reading machine left rest errors.Memory on none more read = tt
runs_no_more spec all armed reading machine left rest (errors.Fault fault) on none more read =
    let is : all ≡ Err fault = sym on.2 ∙ ap (λ (m : List (List ℕ)). body_of spec (with_before on.0 reading) left.line left.bytes m) more
    ∙ stops spec on.0 reading armed left.line left.bytes rest.bytes rest.more fault on.1 none read in
    ap (buffers_if_read spec) is

at_end : (spec : DeviceSpec) (all : Result Reading Fault) (armed : ℕ) (reading : Reading) (machine : List (List ℕ)) (left : Left) (on : RunsOn spec all armed reading machine left) → left.more ≡ []
    → all ≡ (last_line left.line left.bytes >>= λ _. cond reading.is_over (Ok (with_before on.0 reading)) (Err (out_of_order left.line)))
unfolding body_of
at_end spec all armed reading machine left on none =
    sym on.2 ∙ ap (λ (m : List (List ℕ)). body_of spec (with_before on.0 reading) left.line left.bytes m) none

pub ends_faulty : (spec : DeviceSpec) (all : Result Reading Fault) (armed : ℕ) (reading : Reading) (machine : List (List ℕ)) (left : Left) (fault : Fault) → RunsOn spec all armed reading machine left
    → left.more ≡ [] → last_line left.line left.bytes ≡ Err fault → buffers_if_read spec all ≡ Err fault
ends_faulty spec all armed reading machine left fault on none last =
    let is : all ≡ Err fault = at_end spec all armed reading machine left on none
    ∙ ap (λ (r : Result (Unit {0}) Fault). r >>= λ _. cond reading.is_over (Ok (with_before on.0 reading)) (Err (out_of_order left.line))) last in
    ap (buffers_if_read spec) is

pub ends_early : (spec : DeviceSpec) (all : Result Reading Fault) (armed : ℕ) (reading : Reading) (machine : List (List ℕ)) (left : Left) → RunsOn spec all armed reading machine left
    → left.more ≡ [] → last_line left.line left.bytes ≡ Ok tt → reading.is_over ≡ false → buffers_if_read spec all ≡ Err (out_of_order left.line)
ends_early spec all armed reading machine left on none last over =
    let is : all ≡ Err (out_of_order left.line) = at_end spec all armed reading machine left on none
    ∙ ap (λ (r : Result (Unit {0}) Fault). r >>= λ _. cond reading.is_over (Ok (with_before on.0 reading)) (Err (out_of_order left.line))) last
    ∙ ap (λ (over : Bool). cond over (Ok (with_before on.0 reading)) (Err (out_of_order left.line))) over in
    ap (buffers_if_read spec) is

pub ends : (spec : DeviceSpec) (all : Result Reading Fault) (armed : ℕ) (reading : Reading) (machine : List (List ℕ)) (left : Left) → RunsOn spec all armed reading machine left → reading.jobs ≡ []
    → left.more ≡ [] → last_line left.line left.bytes ≡ Ok tt → reading.is_over ≡ true → buffers_if_read spec all ≡ Ok (record { left = machine; told = reading.finals })
ends spec all armed reading machine left on empty none last over =
    let jobs : on.0 ++ reading.jobs ≡ on.0 = ap (λ (js : List JournalJob). on.0 ++ js) empty ∙ append-nil on.0 in
    let buffers : serial spec.buffers (map turn_of (on.0 ++ reading.jobs)) ≡ machine = ap (λ (js : List JournalJob). serial spec.buffers (map turn_of js)) jobs ∙ sym on.4 in
    let is : all ≡ Ok (with_before on.0 reading) = at_end spec all armed reading machine left on none
    ∙ ap (λ (r : Result (Unit {0}) Fault). r >>= λ _. cond reading.is_over (Ok (with_before on.0 reading)) (Err (out_of_order left.line))) last
    ∙ ap (λ (over : Bool). cond over (Ok (with_before on.0 reading)) (Err (out_of_order left.line))) over in
    ap (buffers_if_read spec) is
    ∙ ap (λ (bs : List (List ℕ)). let b : JournalBuffers = record { left = bs; told = reading.finals } in Ok b) buffers

-- ---- the buffers of a journal

-- of a header and the lines behind it
pub of_lines : (lines : DeviceSpec) (read : Result Reading Fault) → (read >>= λ reading. Ok (the_journal lines reading)) >>= (λ journal. Ok (buffers_of journal)) ≡ buffers_if_read lines read
of_lines spec (Ok reading) = refl
of_lines spec (Err fault) = refl

-- what a journal leaves has the sizes of its last bytes
pub left_sizes : (journal : JournalParts) → IsJournal journal → map length (left_by journal) ≡ map length journal.finals
left_sizes journal is = sizes_left journal.spec journal.jobs is.1 ∙ sym is.2

pub buffers_stand : (text : List ℕ) (r : Result JournalBuffers ReadError) → Gives (λ b. b) r (judge_buffers text) → IfOk r AreOfAJournal
unfolding judge_buffers
buffers_stand text (Ok buffers) gives =
    let a = bind_ok (judge_journal text) (λ journal. Ok (buffers_of journal)) buffers gives in
    (a.0, journal_stands text a.0 (journal_takes text a.0 a.1), sym (ok_is (buffers_of a.0) buffers a.2))
buffers_stand text (Err e) gives = tt

pub sizes_stand : {E : Type 0} (r : Result JournalBuffers E) → IfOk r AreOfAJournal → IfOk r (λ b. map length b.left ≡ map length b.told)
sizes_stand (Ok buffers) of = rw of.2 (left_sizes of.0 of.1)
sizes_stand (Err e) of = tt

-- of a text that was read from a reader
pub run_of : (known : Option (List ℕ)) (text : List ℕ) (buffers : JournalBuffers) → IfSome known (λ xs. text ≡ take 1048577 xs) → judge_buffers text ≡ Ok buffers → IsRunOf known (Ok buffers)
unfolding judge_buffers
run_of known text buffers is e =
    let a = bind_ok (judge_journal text) (λ journal. Ok (buffers_of journal)) buffers e in
    (a.0, spelled judge_journal judge_journal_taken known text (Ok a.0) is a.1, sym (ok_is (buffers_of a.0) buffers a.2))

err_of : (r : Result JournalParts Fault) (fault : Fault) → (r >>= λ journal. Ok (buffers_of journal)) ≡ Err fault → r ≡ Err fault
err_of (Ok journal) fault e = absurd (cc)
err_of (Err other) fault e = cc (e)

pub not_run : (known : Option (List ℕ)) (text : List ℕ) (e : ReadError) → IfSome known (λ xs. text ≡ take 1048577 xs) → Fails e (judge_buffers text) → IsRunOf known (Err (input_error_of e))
unfolding judge_buffers
not_run known text errors.Memory is e = tt
not_run known text (errors.Fault fault) is e = spelled judge_journal judge_journal_taken known text (Err fault) is (err_of (judge_journal text) fault e)
