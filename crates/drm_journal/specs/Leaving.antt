-- What the jobs of a journal leave, and the journals that devices and cores leave.
use Rattle.std.specs.Prelude.{◌≡◌, ◌≤◌, ℕ, List, length, map, slice_get, Option, Some, Result, Ok, Err, IfSome}
use Rattle.drm_types.specs.declared.spec.DeviceSpec.{DeviceSpec}
use Rattle.drm_job.specs.Fault.{IsJob}
use Rattle.drm_fence.specs.Phases.{outcome_of}
use Rattle.drm_serial.specs.Serial.{Turn, serial}
use Rattle.drm_state.specs.declared.journal.JobRecord.{JobRecord}
use Rattle.drm_state.specs.Lawful.{HasRightOutcome}
use Rattle.drm_state.specs.Order.{HasPlace}
use Rattle.drm_core.specs.State.{CoreState}
use Rattle.drm_journal.specs.declared.journal.JournalJob.{JournalJob}
use Rattle.drm_journal.specs.declared.journal.Reading.{Reading}
use Rattle.drm_journal.specs.declared.running.JournalBuffers.{JournalBuffers}
use Rattle.drm_journal.specs.Journal.{JournalParts, IsJournal, judge_journal}
use Rattle.drm_stream.specs.declared.input.InputError.{InputError}
use Rattle.drm_stream.specs.declared.input.InputError.TheVariants as input
use Rattle.drm_text.specs.declared.fault.Fault.{Fault}
use Rattle.drm_text.specs.Reading.{◌>>=◌}

-- a job with the number of its packets that have run
abbrev pub turn_of : JournalJob → Turn
turn_of armed = record { job = armed.job; ran = armed.ran }

-- the turns of a journal are its jobs, in order
abbrev pub turns_of : JournalParts → List Turn
turns_of journal = map turn_of journal.jobs

-- the buffers that the serial machine leaves, begun with those of the header
abbrev pub left_by : JournalParts → List (List ℕ)
left_by journal = serial journal.spec.buffers (turns_of journal)

-- the buffers that it leaves, and those that it tells
abbrev pub buffers_of : JournalParts → JournalBuffers
buffers_of journal = record { left = left_by journal; told = journal.finals }

-- there is a journal with these buffers
abbrev pub AreOfAJournal : JournalBuffers → Type 0
AreOfAJournal buffers = (journal : JournalParts) × IsJournal journal × (buffers ≡ buffers_of journal)

-- a run of the journal that the input spells where it is known: its buffers, or its first fault
abbrev pub IsRunOf : Option (List ℕ) → Result JournalBuffers InputError → Type 0
IsRunOf known (Ok buffers) = (journal : JournalParts) × IfSome known (λ text. judge_journal text ≡ Ok journal) × (buffers ≡ buffers_of journal)
IsRunOf known (Err (input.Fault fault)) = IfSome known (λ text. judge_journal text ≡ Err fault)
IsRunOf known (Err input.Memory) = Unit {0}
IsRunOf known (Err input.Failed) = Unit {0}

-- the same of what was read of a journal
abbrev pub buffers_read : DeviceSpec → Reading → JournalBuffers
buffers_read spec reading = record { left = serial spec.buffers (map turn_of reading.jobs); told = reading.finals }

-- or the fault of what was not read
abbrev pub buffers_if_read : DeviceSpec → Result Reading Fault → Result JournalBuffers Fault
buffers_if_read spec read = read >>= λ reading. Ok (buffers_read spec reading)

-- the buffers of the journal that a text spells, or its first fault
unfoldable pub judge_buffers : List ℕ → Result JournalBuffers Fault
judge_buffers text = judge_journal text >>= λ journal. Ok (buffers_of journal)

-- what is told of an armed job
abbrev pub told_of : JobRecord → JournalJob
told_of r = record { job = r.job; ran = r.ran; outcome = outcome_of r.phase }

-- the device has armed this job under this number, and the job has run as many packets as its outcome allows
pub record IsLeft (spec : DeviceSpec) (number : ℕ) (r : JobRecord) : Type 0 where
  pub job : IsJob spec r.job
  pub place : HasPlace spec number r.job
  pub ran : r.ran ≤ length r.job.packets
  pub outcome : HasRightOutcome r r.phase

-- the same of all jobs, in arming order
abbrev pub AreLeft : DeviceSpec → List JobRecord → Type 0
AreLeft spec records = (number : ℕ) (r : JobRecord) → slice_get records number ≡ Some r → IsLeft spec number r

-- the journal of a device with these records, which left these bytes
abbrev pub journal_told : DeviceSpec → List JobRecord → List (List ℕ) → JournalParts
journal_told spec records bytes = record { spec = spec; jobs = map told_of records; finals = bytes }

-- the journal of what a core did: its jobs in arming order, and its memory
abbrev pub journal_left : CoreState → JournalParts
journal_left state = journal_told state.device.spec state.device.journal state.device.memory
