-- Journals: a header, the jobs that were armed, the bytes of each buffer, and `end`.
use Rattle.std.specs.Prelude.{◌≡◌, ℕ, Bool, true, false, not, ◌+◌, ◌-◌, ◌^◌, ◌==◌, ◌&&◌, nat_lt, nat_le, List, [], ◌∷◌, ◌++◌, length, map, take, slice_get, codes, option_map, IsTrue, Option, Some, None, Result, Ok, Err, if◌then◌else◌}
use Rattle.std.specs.List.{list_all}
use Rattle.std.specs.Str.{bytes_eq}
use Rattle.drm_types.specs.Firsts.{is_nil}
use Rattle.drm_types.specs.Limits.{spec_fault}
use Rattle.drm_types.specs.declared.outcome.Outcome.{Outcome}
use Rattle.drm_types.specs.declared.outcome.Outcome.TheVariants as outcome
use Rattle.drm_types.specs.declared.spec.DeviceSpec.{DeviceSpec}
use Rattle.drm_text.specs.declared.fault.Fault.{Fault}
use Rattle.drm_text.specs.declared.fault.Fault.TheVariants.{Text}
use Rattle.drm_text.specs.declared.fault.TextFault.TheVariants as what
use Rattle.drm_journal.specs.declared.journal.JournalJob.{JournalJob}
use Rattle.drm_journal.specs.declared.journal.Reading.{Reading}
use Rattle.drm_text.specs.declared.keywords.Command.TheVariants as command
use Rattle.drm_text.specs.declared.keywords.Keyword.{Keyword}
use Rattle.drm_text.specs.declared.keywords.Keyword.TheVariants as line
use Rattle.drm_text.specs.Cut.{Words, Left}
use Rattle.drm_text.specs.Reading.{◌>>=◌, or_fault}
use Rattle.drm_parse.specs.Header.{header_at}
use Rattle.drm_text.specs.Hexadecimal.{bytes_at}
use Rattle.drm_parse.specs.Job.{is_job, job_at}
use Rattle.drm_text.specs.Lines.{start_at, last_line, out_of_order, lines_of}
use Rattle.drm_text.specs.Words.{word_at, number_at, end_at, fault_here}

-- what a journal tells
pub record JournalParts : Type 0 where
  pub spec : DeviceSpec
  pub jobs : List JournalJob
  pub finals : List (List ℕ)

-- the outcome that a status tells; a job without one has status 0
abbrev pub status_of : List ℕ → Option (Option Outcome)
status_of word =
    if bytes_eq word (codes "0") then Some None
    else if bytes_eq word (codes "1") then Some (Some outcome.Good)
    else if bytes_eq word (codes "-125") then Some (Some outcome.Cancelled)
    else if bytes_eq word (codes "-3") then Some (Some outcome.Stopped)
    else None

-- how many of its packets a job with such an outcome may have run
abbrev pub may_have_run : Option Outcome → ℕ → ℕ → Bool
may_have_run None packets ran = nat_le ran packets
may_have_run (Some outcome.Good) packets ran = ran == packets
may_have_run (Some outcome.Cancelled) packets ran = nat_le ran packets
may_have_run (Some outcome.Stopped) packets ran = ran == 0

-- whether a job can have this number, waits only for earlier jobs, and can have run its packets
abbrev pub has_place : ℕ → ℕ → JournalJob → Bool
has_place max_jobs number armed =
    nat_lt number max_jobs
    && list_all (λ fence. nat_lt fence number) armed.job.after
    && may_have_run armed.outcome (length armed.job.packets) armed.ran

-- whether the device can have armed this job under this number
abbrev pub is_record : DeviceSpec → ℕ → JournalJob → Bool
is_record spec number armed = is_job spec armed.job && has_place spec.max_jobs number armed

-- the job, or the fault where the device can't have armed it
unfoldable pub record_or : DeviceSpec → ℕ → JournalJob → Fault → Result JournalJob Fault
record_or spec number armed fault = if is_record spec number armed then Ok armed else Err fault

-- each job is one of the device's, under its number
abbrev pub AreRecords : DeviceSpec → ℕ → List JournalJob → Type 0
AreRecords spec number [] = Unit {0}
AreRecords spec number (job ∷ jobs) = IsTrue (is_record spec number job) × AreRecords spec (number + 1) jobs

-- the device is within its limits, its jobs are its own, and each buffer has its bytes
abbrev pub IsJournal : JournalParts → Type 0
IsJournal journal =
    (spec_fault journal.spec ≡ None)
    × AreRecords journal.spec 0 journal.jobs
    × (map length journal.finals ≡ map length journal.spec.buffers)

-- the job of a line, behind its first word
unfoldable pub record_at : DeviceSpec → ℕ → Words → Result JournalJob Fault
record_at spec number words =
    number_at (2 ^ 32 - 1) words >>= λ ran.
    word_at ran.1 >>= λ word.
    or_fault (status_of word.0) (fault_here ran.1 what.Word) >>= λ outcome.
    job_at word.1 >>= λ draft.
    record_or spec number (record { job = draft; ran = ran.0; outcome = outcome }) (Text words.line 1 what.BadJob)

-- bytes of this length, which end the line
unfoldable pub final_at : ℕ → Words → Result (List ℕ) Fault
final_at size words =
    bytes_at words >>= λ bytes.
    if length bytes.0 == size then (end_at bytes.1 >>= λ _. Ok bytes.0) else Err (fault_here words what.Number)

-- what was read with one more line: of a job, which has this number, of a buffer, or the end
abbrev pub with_job : DeviceSpec → ℕ → Reading → ℕ → Words → Result Reading Fault
with_job spec number reading line words =
    if is_nil reading.finals && not reading.is_over
    then (record_at spec number words >>= λ job. Ok (record reading { jobs = reading.jobs ++ job ∷ [] }))
    else Err (out_of_order line)

-- how many bytes the buffer at this place has
abbrev pub size_of : DeviceSpec → ℕ → Option ℕ
size_of spec number = option_map length (slice_get spec.buffers number)

abbrev pub with_final : DeviceSpec → Reading → ℕ → Words → Result Reading Fault
with_final spec reading line words =
    or_fault (size_of spec (length reading.finals)) (out_of_order line) >>= λ size.
    final_at size words >>= λ bytes.
    Ok (record reading { finals = reading.finals ++ bytes ∷ [] })

abbrev pub with_end : DeviceSpec → Reading → ℕ → Words → Result Reading Fault
with_end spec reading line words =
    if (length reading.finals == length spec.buffers) && not reading.is_over
    then (end_at words >>= λ _. Ok (record reading { is_over = true }))
    else Err (out_of_order line)

abbrev pub with_body : DeviceSpec → ℕ → Reading → ℕ → Keyword → Words → Result Reading Fault
with_body spec number reading n line.Job words = with_job spec number reading n words
with_body spec number reading n line.Final words = with_final spec reading n words
with_body spec number reading n (line.Command command.End) words = with_end spec reading n words
with_body spec number reading n other words = Err (out_of_order n)

-- what was read with one more line, whose job has this number if it is one of a job
unfoldable pub journal_line : DeviceSpec → ℕ → Reading → ℕ → List ℕ → Result Reading Fault
journal_line spec number reading n bytes = start_at n bytes >>= λ start. with_body spec number reading n start.0 start.1

-- what was read, and the lines up to the end of the text
unfoldable pub body_of : DeviceSpec → Reading → ℕ → List ℕ → List (List ℕ) → Result Reading Fault
body_of spec reading n bytes [] =
    last_line n bytes >>= λ _. if reading.is_over then Ok reading else Err (out_of_order n)
body_of spec reading n bytes (next ∷ rest) =
    journal_line spec (length reading.jobs) reading n bytes >>= λ more. body_of spec more (n + 1) next rest

abbrev pub nothing_read : Reading
nothing_read = record { jobs = []; finals = []; is_over = false }

-- the journal of a header and of the lines behind it
abbrev pub journal_of : Left → Result JournalParts Fault
journal_of lines =
    header_at lines >>= λ header.
    body_of header.0 nothing_read header.1.line header.1.bytes header.1.more >>= λ reading.
    Ok (record { spec = header.0; jobs = reading.jobs; finals = reading.finals })

-- the journal that a text spells, or its first fault
unfoldable pub judge_journal : List ℕ → Result JournalParts Fault
judge_journal text =
    if nat_lt 1048576 (length text) then Err (Text 0 0 what.TooLong)
    else journal_of (lines_of text)

-- what holds of what was read so far
abbrev pub IsRead : DeviceSpec → Reading → Type 0
IsRead spec reading =
    AreRecords spec 0 reading.jobs
    × (map length reading.finals ≡ take (length reading.finals) (map length spec.buffers))
    × (reading.is_over ≡ true → length reading.finals ≡ length spec.buffers)
