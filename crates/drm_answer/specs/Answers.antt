-- The lines of answers.
use Rattle.std.specs.Prelude.{ℕ, List, [], ◌∷◌, ◌++◌, Bool, true, false, flat_map, codes}
use Rattle.std.specs.Fmt.{decimal, signed_decimal}
use Rattle.drm_state.specs.declared.answer.Answer.{Answer}
use Rattle.drm_state.specs.declared.answer.Answer.TheVariants as answer
use Rattle.drm_state.specs.declared.answer.Refusal.{Refusal}
use Rattle.drm_state.specs.declared.answer.Refusal.TheVariants as refusal
use Rattle.drm_job.specs.declared.DraftList.{DraftList}
use Rattle.drm_job.specs.declared.DraftList.TheVariants as list
use Rattle.drm_job.specs.declared.JobFault.{JobFault}
use Rattle.drm_job.specs.declared.JobFault.TheVariants as job
use Rattle.drm_types.specs.declared.outcome.Outcome.{Outcome}
use Rattle.drm_types.specs.declared.outcome.Outcome.TheVariants as outcome
use Rattle.drm_text.specs.Hexadecimal.{text_of_bytes}

-- numbers, each after this byte
abbrev pub separated : ℕ → List ℕ → List ℕ
separated separator ns = flat_map (λ n. separator ∷ decimal n) ns

-- numbers, each after a space
abbrev pub numbers : List ℕ → List ℕ
numbers ns = separated 32 ns

-- the number of a list of a job
abbrev pub number_of_list : DraftList → ℕ
number_of_list list.Declared = 0
number_of_list list.After = 1
number_of_list list.Packets = 2

-- the number of a job's fault, and its fields
abbrev pub numbers_of_fault : JobFault → List ℕ
numbers_of_fault job.NoEntity = 10 ∷ []
numbers_of_fault job.NoCredits = 11 ∷ []
numbers_of_fault (job.TooMany what) = 13 ∷ number_of_list what ∷ []
numbers_of_fault (job.NoBuffer buffer) = 14 ∷ buffer ∷ []
numbers_of_fault (job.DeclaredTwice buffer) = 15 ∷ buffer ∷ []
numbers_of_fault (job.MoveNotKernel buffer) = 19 ∷ buffer ∷ []
numbers_of_fault (job.PacketUndeclared packet) = 16 ∷ packet ∷ []
numbers_of_fault (job.PacketOnHold packet) = 21 ∷ packet ∷ []
numbers_of_fault (job.PacketReadOnly packet) = 17 ∷ packet ∷ []
numbers_of_fault (job.PacketRange packet) = 18 ∷ packet ∷ []

-- the number of a refusal, and its fields
abbrev pub numbers_of_refusal : Refusal → List ℕ
numbers_of_refusal (refusal.Faulty fault) = numbers_of_fault fault
numbers_of_refusal refusal.Memory = 12 ∷ []
numbers_of_refusal (refusal.NoFence fence) = 20 ∷ fence ∷ []
numbers_of_refusal refusal.Stopped = 30 ∷ []
numbers_of_refusal refusal.Full = 31 ∷ []
numbers_of_refusal refusal.Idle = 40 ∷ []
numbers_of_refusal (refusal.NoCredit need free) = 41 ∷ need ∷ free ∷ []
numbers_of_refusal refusal.NotComplete = 42 ∷ []
numbers_of_refusal refusal.AlreadyStopped = 43 ∷ []
numbers_of_refusal refusal.Waits = 44 ∷ []
numbers_of_refusal refusal.Nothing = 45 ∷ []
numbers_of_refusal (refusal.Busy fence) = 46 ∷ fence ∷ []
numbers_of_refusal refusal.PacketOut = 47 ∷ []
numbers_of_refusal refusal.CtxBusy = 50 ∷ []
numbers_of_refusal refusal.CtxIdle = 51 ∷ []
numbers_of_refusal (refusal.NotHeld buffer) = 52 ∷ buffer ∷ []
numbers_of_refusal refusal.NotAllHeld = 53 ∷ []
numbers_of_refusal refusal.NotPlanned = 54 ∷ []
numbers_of_refusal refusal.Sealed = 55 ∷ []
numbers_of_refusal (refusal.StillHolds buffer) = 56 ∷ buffer ∷ []
numbers_of_refusal (refusal.Held buffer) = 57 ∷ buffer ∷ []
numbers_of_refusal refusal.TicketsOut = 60 ∷ []
numbers_of_refusal refusal.Already = 114 ∷ []

-- what a job is picked for
abbrev pub text_of_pick : Bool → List ℕ
text_of_pick false = codes " run"
text_of_pick true = codes " skip"

-- the status of a fence whose job ended so
abbrev pub text_of_outcome : Outcome → List ℕ
text_of_outcome outcome.Good = codes " 1"
text_of_outcome outcome.Cancelled = codes " -125"
text_of_outcome outcome.Stopped = codes " -3"

-- what is written for an answer, without its line end
abbrev pub words_of : Answer → List ℕ
words_of (answer.Refused refusal) = codes "refused" ++ numbers (numbers_of_refusal refusal)
words_of answer.Ok = codes "ok"
words_of (answer.Armed fence) = codes "armed" ++ numbers (fence ∷ [])
words_of (answer.Ticket ticket) = codes "ticket" ++ numbers (ticket ∷ [])
words_of answer.Held = codes "held"
words_of (answer.Older holder) = codes "older" ++ numbers (holder ∷ [])
words_of (answer.Younger holder) = codes "younger" ++ numbers (holder ∷ [])
words_of answer.Planned = codes "planned"
words_of (answer.Picked fence skipped) = codes "picked" ++ numbers (fence ∷ []) ++ text_of_pick skipped
words_of (answer.Ran fence packet) = codes "ran" ++ numbers (fence ∷ packet ∷ [])
words_of (answer.Stalled fence) = codes "stalled" ++ numbers (fence ∷ [])
words_of (answer.Finished fence outcome) = codes "finished" ++ numbers (fence ∷ []) ++ text_of_outcome outcome
words_of answer.Empty = codes "empty"
words_of (answer.NotYet due_in) = codes "notyet" ++ numbers (due_in ∷ [])
words_of answer.Complete = codes "complete"
words_of answer.Resumed = codes "resumed"
words_of (answer.Guilty entity) = codes "guilty" ++ numbers (entity ∷ [])
words_of (answer.Reaped fence) = codes "reaped" ++ numbers (fence ∷ [])
words_of (answer.Bytes bytes) = codes "bytes " ++ text_of_bytes bytes
words_of (answer.Status status) = codes "fence " ++ signed_decimal status

-- the line of an answer
unfoldable pub line_of : Answer → List ℕ
line_of a = words_of a ++ 10 ∷ []

-- one line for each answer
abbrev pub text_of_answers : List Answer → List ℕ
text_of_answers answers = flat_map line_of answers
