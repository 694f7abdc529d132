-- Scripts for threads: a header, and a job on each further line.
use Rattle.std.specs.Prelude.{◌≡◌, ℕ, Bool, ◌+◌, ◌&&◌, nat_lt, List, [], ◌∷◌, ◌++◌, length, Result, Ok, Err, if◌then◌else◌}
use Rattle.std.specs.List.{AllByRecursion}
use Rattle.drm_job.specs.Fault.{IsJob}
use Rattle.drm_job.specs.declared.Draft.{Draft}
use Rattle.drm_types.specs.Firsts.{is_nil}
use Rattle.drm_types.specs.declared.spec.DeviceSpec.{DeviceSpec}
use Rattle.drm_text.specs.declared.fault.Fault.{Fault}
use Rattle.drm_text.specs.declared.fault.Fault.TheVariants.{Text}
use Rattle.drm_text.specs.declared.fault.TextFault.TheVariants as what
use Rattle.drm_text.specs.declared.keywords.Command.TheVariants as command
use Rattle.drm_text.specs.declared.keywords.Keyword.{Keyword}
use Rattle.drm_text.specs.declared.keywords.Keyword.TheVariants as line
use Rattle.drm_script.specs.declared.run_script.RunScript.{RunScript}
use Rattle.drm_text.specs.Cut.{Words, Left}
use Rattle.drm_text.specs.Reading.{◌>>=◌}
use Rattle.drm_text.specs.Lines.{start_at, last_line, out_of_order, lines_of}
use Rattle.drm_parse.specs.Header.{header_at}
use Rattle.drm_parse.specs.Job.{job_at}
use Rattle.drm_parse.specs.Job.{is_job}

-- a job of the device that names no fence
abbrev pub IsRunnable : DeviceSpec → Draft → Type 0
IsRunnable spec job = IsJob spec job × (job.after ≡ [])

abbrev pub AreRunnable : DeviceSpec → List Draft → Type 0
AreRunnable spec jobs = AllByRecursion (IsRunnable spec) jobs

-- whether a job can have this number, is one of the device, and names no fence
abbrev pub is_runnable : DeviceSpec → ℕ → Draft → Bool
is_runnable spec number draft = is_job spec draft && is_nil draft.after && nat_lt number spec.max_jobs

-- the job, or the fault where threads can't submit it
unfoldable pub runnable_or : DeviceSpec → ℕ → Draft → Fault → Result Draft Fault
runnable_or spec number draft fault = if is_runnable spec number draft then Ok draft else Err fault

-- the job of a line, behind its first word
unfoldable pub run_job_at : DeviceSpec → ℕ → Words → Result Draft Fault
run_job_at spec number words =
    job_at words >>= λ draft. runnable_or spec number draft (Text words.line 1 what.BadJob)

-- the job of a line that begins with this word
abbrev pub submitted_at : DeviceSpec → ℕ → ℕ → Keyword → Words → Result Draft Fault
submitted_at spec number n (line.Command command.Submit) words = run_job_at spec number words
submitted_at spec number n other words = Err (out_of_order n)

-- the job of a line, which has this number among the jobs
unfoldable pub run_line : DeviceSpec → ℕ → ℕ → List ℕ → Result Draft Fault
run_line spec number n bytes = start_at n bytes >>= λ start. submitted_at spec number n start.0 start.1

-- these jobs, and those of the lines up to the end of the text
unfoldable pub jobs_of : DeviceSpec → List Draft → ℕ → List ℕ → List (List ℕ) → Result (List Draft) Fault
jobs_of spec jobs n bytes [] = last_line n bytes >>= λ _. Ok jobs
jobs_of spec jobs n bytes (next ∷ rest) =
    run_line spec (length jobs) n bytes >>= λ job. jobs_of spec (jobs ++ job ∷ []) (n + 1) next rest

-- the script of a header and of the jobs behind it
abbrev pub run_of : Left → Result RunScript Fault
run_of lines =
    header_at lines >>= λ header.
    jobs_of header.0 [] header.1.line header.1.bytes header.1.more >>= λ jobs.
    Ok (record { spec = header.0; jobs = jobs })

-- the script for threads that a text spells, or its first fault
unfoldable pub judge_run : List ℕ → Result RunScript Fault
judge_run text =
    if nat_lt 1048576 (length text) then Err (Text 0 0 what.TooLong)
    else run_of (lines_of text)
