-- What is said of an answer: a sentence that the command and its answer tell together.
use Rattle.std.specs.Prelude.{ℕ, ℤ, pos, negsuc, Bool, true, false, List, codes, if◌then◌else◌}
use Rattle.std.specs.Ordering.{int_eq}
use Rattle.drm_state.specs.declared.answer.Answer.{Answer}
use Rattle.drm_state.specs.declared.answer.Answer.TheVariants as answer
use Rattle.drm_core.specs.declared.event.Event.{Event}
use Rattle.drm_core.specs.declared.event.Event.TheVariants as event
use Rattle.drm_types.specs.declared.outcome.Outcome.{Outcome}
use Rattle.drm_types.specs.declared.outcome.Outcome.TheVariants as outcome
use Rattle.drm_engine.specs.Filling.{filled}
use Rattle.drm_engine.specs.Filling.{one, three, two}
use Rattle.drm_words.specs.Refused.{said_of_refusal}
use Rattle.drm_words.specs.Subjects.{buffer_of, ctx_of, entity_of, fence_of, ring_of}

-- what was done: a context sealed, let go or ended, or an entity stopped
abbrev pub said_of_ok : Event ℕ → List ℕ × List ℕ
said_of_ok (event.Done ctx) = (codes "context % takes no more locks", one ctx)
said_of_ok (event.Drop ctx buffer) = (codes "context % has let go of buffer %, and has no plan", two ctx buffer)
said_of_ok (event.Cancel entity) =
    (codes "entity % is stopped: it takes no more jobs, and its queued ones are not picked", one entity)
said_of_ok subject = (codes "context % has ended", one (ctx_of subject))

-- a job that was armed at once, or as it was planned
abbrev pub said_of_armed : Event ℕ → ℕ → List ℕ × List ℕ
said_of_armed (event.Arm ctx) fence =
    (codes "the job that context % has planned has fence % and waits in the queue of its entity", two ctx fence)
said_of_armed subject fence = (codes "the job has fence % and waits in the queue of entity %", two fence (entity_of subject))

-- a job that was picked, to be skipped or not
abbrev pub words_of_picked : Bool → List ℕ
words_of_picked false = codes "ring % takes the job of fence %"
words_of_picked true = codes "ring % takes the job of fence %, and runs none of it: its entity is guilty"

-- a job that left its ring
abbrev pub words_of_finished : Outcome → List ℕ
words_of_finished outcome.Good = codes "fence % has ended: its job is done, and leaves ring %"
words_of_finished outcome.Cancelled = codes "fence % has ended: its job was skipped, and leaves ring %"
words_of_finished outcome.Stopped = codes "fence % has ended: its job was stopped, and leaves ring %"

-- bytes that were read under a lock, or with none
abbrev pub said_of_bytes : Event ℕ → List ℕ × List ℕ
said_of_bytes (event.Read ctx buffer) = (codes "context % reads buffer %: all that write it have ended", two ctx buffer)
said_of_bytes subject = (codes "what buffer % holds now, read with no lock", one (buffer_of subject))

-- how far a fence is: 0, 1, -3 or -125
abbrev pub words_of_status : ℤ → List ℕ
words_of_status status =
    if int_eq status (pos 0) then codes "fence % is active: its job has not ended"
    else if int_eq status (pos 1) then codes "fence % has ended: its job is done"
    else if int_eq status (negsuc 2) then codes "fence % has ended: its job was stopped before it ran"
    else codes "fence % has ended: its job was skipped"

-- the words, with '%' in place of each number, and the numbers
abbrev pub said_of : Event ℕ → Answer → List ℕ × List ℕ
said_of subject (answer.Refused refused) = said_of_refusal subject refused
said_of subject answer.Ok = said_of_ok subject
said_of subject (answer.Armed fence) = said_of_armed subject fence
said_of subject (answer.Ticket ticket) =
    (codes "context % has ticket %: of two contexts that with the lower ticket is the older", two (ctx_of subject) ticket)
said_of subject answer.Held = (codes "context % holds buffer % now", two (ctx_of subject) (buffer_of subject))
said_of subject (answer.Older holder) =
    (codes "the older ticket % holds buffer %, so context % should back off", three holder (buffer_of subject) (ctx_of subject))
said_of subject (answer.Younger holder) =
    (codes "the younger ticket % holds buffer %, so context % may wait and try again", three holder (buffer_of subject) (ctx_of subject))
said_of subject answer.Planned =
    (codes "context % may arm its job of entity %, and takes no more locks", two (ctx_of subject) (entity_of subject))
said_of subject (answer.Picked fence skipped) = (words_of_picked skipped, two (ring_of subject) fence)
said_of subject (answer.Ran fence packet) = (codes "ring % ran packet % of fence %", three (ring_of subject) packet fence)
said_of subject (answer.Stalled fence) =
    (codes "ring % stands still: the next packet of fence % waits for more resets", two (ring_of subject) fence)
said_of subject (answer.Finished fence outcome) = (words_of_finished outcome, two fence (ring_of subject))
said_of subject answer.Empty = (codes "ring % has no job", one (ring_of subject))
said_of subject (answer.NotYet due_in) = (codes "the first job of ring % is due in %", two (ring_of subject) due_in)
said_of subject answer.Complete = (codes "the first job of ring % is due, but has nothing left to run", one (ring_of subject))
said_of subject answer.Resumed =
    (codes "the first job of ring % hangs: it is reset, and goes on at its next packet", one (ring_of subject))
said_of subject (answer.Guilty entity) =
    (codes "the first job of ring % hangs once too often: entity % is guilty, and its jobs there are skipped", two (ring_of subject) entity)
said_of subject (answer.Reaped fence) =
    (codes "the job of fence % leaves the queue of entity %: it is stopped, and never ran", two fence (entity_of subject))
said_of subject (answer.Bytes bytes) = said_of_bytes subject
said_of subject (answer.Status status) = (words_of_status status, one (fence_of subject))

-- the sentence
abbrev pub sentence_of : Event ℕ → Answer → List ℕ
sentence_of subject given = filled (said_of subject given).0 (said_of subject given).1

-- it is no refusal
abbrev pub IsNoRefusal : Answer → Type 0
IsNoRefusal (answer.Refused refused) = ⊥
IsNoRefusal other = Unit {0}
