-- What is said of a job by its reason: the one place where the words of reasons stand.
use Rattle.std.specs.Prelude.{ℕ, Bool, true, false, List, [], ◌∷◌, ◌++◌, Option, Some, None, codes, flat_map}
use Rattle.std.specs.Fmt.{decimal}
use Rattle.std.specs.Option.{option_map_or}
use Rattle.drm_types.specs.declared.access.Access.{Access}
use Rattle.drm_types.specs.declared.access.Access.TheVariants as access
use Rattle.drm_types.specs.declared.outcome.Outcome.{Outcome}
use Rattle.drm_types.specs.declared.outcome.Outcome.TheVariants as outcome
use Rattle.drm_reason.specs.declared.reason.How.{How}
use Rattle.drm_reason.specs.declared.reason.How.TheVariants as how
use Rattle.drm_reason.specs.declared.reason.Reason.{Reason}
use Rattle.drm_reason.specs.declared.reason.Reason.TheVariants as reason
use Rattle.drm_reason.specs.declared.sentence.Part.{Part as Held}

-- a part of a sentence: a text, and the number behind it, if there is one
abbrev pub Part : Type 0
Part = List ℕ × Option ℕ

abbrev pub bare : List ℕ → Part
bare text = (text, None)

abbrev pub counted : List ℕ → ℕ → Part
counted text number = (text, Some number)

-- a part as code hands it on
abbrev pub told_part : Held → Part
told_part part = (part.text.now, part.number)

-- four parts, of which those behind the last are empty
abbrev pub one : Part → List Part
one a = a ∷ bare [] ∷ bare [] ∷ bare [] ∷ []

abbrev pub two : Part → Part → List Part
two a b = a ∷ b ∷ bare [] ∷ bare [] ∷ []

abbrev pub four : Part → Part → Part → Part → List Part
four a b c d = a ∷ b ∷ c ∷ d ∷ []

-- what an earlier job does with a buffer, and what this one does with it
abbrev pub earlier_does : Access → List ℕ
earlier_does access.Read = codes ", which reads buffer "
earlier_does access.Write = codes ", which writes buffer "
earlier_does access.Hold = codes ", which holds buffer "
earlier_does access.Move = codes ", which moves buffer "

abbrev pub later_does : Access → List ℕ
later_does access.Read = codes " that this job reads"
later_does access.Write = codes " that this job writes"
later_does access.Hold = codes " that this job holds"
later_does access.Move = codes " that this job moves"

-- where the fence is that a job waits for
abbrev pub stands : Bool → List ℕ
stands true = codes ", and is queued for ring "
stands false = codes ", and is pending on ring "

-- a wait for a fence: by what that holds the job up, a buffer or its name, and where it is
abbrev pub wait_parts : ℕ → How → ℕ → Bool → List Part
wait_parts fence (how.Buffer buffer earlier later) ring queued =
    four (counted (codes "waits for fence ") fence) (counted (earlier_does earlier) buffer) (bare (later_does later)) (counted (stands queued) ring)
wait_parts fence how.Named ring queued =
    four (counted (codes "waits for fence ") fence) (bare (codes ", which this job names")) (counted (stands queued) ring) (bare [])

-- a job of a stopped entity
abbrev pub stopped_parts : Option ℕ → List Part
stopped_parts (Some fence) = two (counted (codes "is of a stopped entity, and waits for fence ") fence) (bare (codes " to end"))
stopped_parts None = one (bare (codes "is of a stopped entity, and a reap ends it"))

abbrev pub ended : Outcome → List ℕ
ended outcome.Good = codes "has ended: it is done"
ended outcome.Cancelled = codes "has ended: it was skipped"
ended outcome.Stopped = codes "has ended: it was stopped"

abbrev pub said_parts : Reason → List Part
said_parts reason.NotArmed = one (bare (codes "is not armed"))
said_parts (reason.BehindQueueHead head) = two (counted (codes "waits behind fence ") head) (bare (codes ", the first in the queue of its entity"))
said_parts (reason.Waits fence how ring queued) = wait_parts fence how ring queued
said_parts (reason.BehindRingHead ring head) = two (counted (codes "waits behind fence ") head) (counted (codes ", which comes first on ring ") ring)
said_parts (reason.NoCredits ring need free) =
    four (counted (codes "needs ") need) (counted (codes " credits, and ring ") ring) (counted (codes " has ") free) (bare (codes " left"))
said_parts (reason.Next ring) = two (counted (codes "is the next that ring ") ring) (bare (codes " takes"))
said_parts (reason.Stopped behind) = stopped_parts behind
said_parts (reason.Pending ring front) = two (counted (codes "is pending behind fence ") front) (counted (codes " on ring ") ring)
said_parts (reason.Runs ring packet) = two (counted (codes "runs packet ") packet) (counted (codes " on ring ") ring)
said_parts (reason.Stalls ring packet) = two (counted (codes "stalls at packet ") packet) (counted (codes " on ring ") ring)
said_parts (reason.Complete ring) = one (counted (codes "is complete, and the first to finish on ring ") ring)
said_parts (reason.Ended outcome) = one (bare (ended outcome))

-- the text of parts that follow one another
abbrev pub text_of_part : Part → List ℕ
text_of_part part = part.0 ++ option_map_or decimal part.1 []

abbrev pub text_of_parts : List Part → List ℕ
text_of_parts parts = flat_map text_of_part parts

-- the sentence, without the job
unfoldable pub said_of : Reason → List ℕ
said_of reason = text_of_parts (said_parts reason)
