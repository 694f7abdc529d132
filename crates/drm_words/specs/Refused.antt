-- What is said of a refusal: a sentence of the row with its number, and the numbers in it.
use Rattle.std.specs.Prelude.{ℕ, List, [], ◌∷◌}
use Rattle.drm_answer.specs.Answers.{number_of_list, numbers_of_refusal}
use Rattle.drm_explain.specs.Rows.{sentence_at}
use Rattle.drm_job.specs.declared.JobFault.{JobFault}
use Rattle.drm_job.specs.declared.JobFault.TheVariants as job
use Rattle.drm_state.specs.declared.answer.Refusal.{Refusal}
use Rattle.drm_state.specs.declared.answer.Refusal.TheVariants as refusal
use Rattle.drm_core.specs.declared.event.Event.{Event}
use Rattle.drm_core.specs.declared.event.Event.TheVariants as event
use Rattle.drm_engine.specs.Filling.{no_numbers, one, three, two}
use Rattle.drm_words.specs.Subjects.{buffer_of, ctx_of, entity_of, ring_of}

-- the number of a refusal, which the line of the answer tells first
abbrev pub first_number : List ℕ → ℕ
first_number [] = 0
first_number (n ∷ ns) = n

abbrev pub number_of_refusal : Refusal → ℕ
number_of_refusal refused = first_number (numbers_of_refusal refused)

-- which sentence of its row is said of a fault of a job, and the numbers in it
abbrev pub case_of_fault : Event ℕ → JobFault → ℕ × List ℕ
case_of_fault subject job.NoEntity = (0, one (entity_of subject))
case_of_fault subject job.NoCredits = (0, no_numbers)
case_of_fault subject (job.TooMany what) = (number_of_list what, no_numbers)
case_of_fault subject (job.NoBuffer buffer) = (0, one buffer)
case_of_fault subject (job.DeclaredTwice buffer) = (0, one buffer)
case_of_fault subject (job.MoveNotKernel buffer) = (0, two buffer (entity_of subject))
case_of_fault subject (job.PacketUndeclared packet) = (0, one packet)
case_of_fault subject (job.PacketOnHold packet) = (0, one packet)
case_of_fault subject (job.PacketReadOnly packet) = (0, one packet)
case_of_fault subject (job.PacketRange packet) = (0, one packet)

-- which is said of a ring that has nothing to do: what the command looked for there
abbrev pub idle_case : Event ℕ → ℕ
idle_case (event.Pick ring now) = 0
idle_case (event.Step ring) = 1
idle_case _ = 2

-- which is said where the entity of a job is stopped, which a planned job has named before
abbrev pub stopped_case : Event ℕ → ℕ × List ℕ
stopped_case (event.Arm ctx) = (1, one ctx)
stopped_case subject = (0, one (entity_of subject))

-- which is said of a refusal
abbrev pub case_of : Event ℕ → Refusal → ℕ × List ℕ
case_of subject (refusal.Faulty fault) = case_of_fault subject fault
case_of subject refusal.Memory = (0, no_numbers)
case_of subject (refusal.NoFence fence) = (0, one fence)
case_of subject refusal.Stopped = stopped_case subject
case_of subject refusal.Full = (0, no_numbers)
case_of subject refusal.Idle = (idle_case subject, one (ring_of subject))
case_of subject (refusal.NoCredit need free) = (0, three (ring_of subject) need free)
case_of subject refusal.NotComplete = (0, one (ring_of subject))
case_of subject refusal.AlreadyStopped = (0, one (entity_of subject))
case_of subject refusal.Waits = (0, one (entity_of subject))
case_of subject refusal.Nothing = (0, one (entity_of subject))
case_of subject (refusal.Busy fence) = (0, two (buffer_of subject) fence)
case_of subject refusal.PacketOut = (0, no_numbers)
case_of subject refusal.CtxBusy = (0, one (ctx_of subject))
case_of subject refusal.CtxIdle = (0, one (ctx_of subject))
case_of subject (refusal.NotHeld buffer) = (0, two (ctx_of subject) buffer)
case_of subject refusal.NotAllHeld = (0, one (ctx_of subject))
case_of subject refusal.NotPlanned = (0, one (ctx_of subject))
case_of subject refusal.Sealed = (0, one (ctx_of subject))
case_of subject (refusal.StillHolds buffer) = (0, two (ctx_of subject) buffer)
case_of subject (refusal.Held buffer) = (0, one buffer)
case_of subject refusal.TicketsOut = (0, no_numbers)
case_of subject refusal.Already = (0, two (ctx_of subject) (buffer_of subject))

-- the words, with '%' in place of each number, and the numbers
abbrev pub said_of_refusal : Event ℕ → Refusal → List ℕ × List ℕ
said_of_refusal subject refused = (sentence_at (number_of_refusal refused) (case_of subject refused).0, (case_of subject refused).1)
