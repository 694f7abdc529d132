-- What is left where memory was refused, and what is asked of a request.
use Rattle.std.proofs.Common.{◌≡◌, ◌⊎◌, inl, inr, ℕ, Bool, true, false, List, [], ◌∷◌, Option, Some, None, refl}
use Rattle.std.specs.Io.KnownBytes.{Keeps}
use Rattle.clap.specs.Words.{IsAmong, Kinds, Text}
use Rattle.clap.specs.declared.error.kind.ErrorKind.{ErrorKind}
use Rattle.clap.specs.declared.error.kind.ErrorKind.TheVariants.{OutOfMemory}
use Rattle.drm_stream.specs.Streams.{SinkState, SourceState}
use Rattle.drm_engine.specs.Engines.{Runs}
use Rattle.drm_engine.specs.Failures.{EndsBy, TellsWrites}
use Rattle.drm_engine.specs.declared.engine.Engine.{Engine}
use Rattle.drm_engine.specs.declared.engine.Engine.TheVariants as engine
use Rattle.drm_engine.specs.declared.ending.Ending.{Ending}
use Rattle.drm_engine.specs.declared.ending.Ending.TheVariants as ending
use Rattle.drm_explain.specs.Telling.{Tells}
use Rattle.drm_explore.specs.declared.exploring.Wanted.{Wanted}
use Rattle.drm_picture.specs.declared.columns.Axis.{Axis}
use Rattle.drm_command_line.specs.CommandLine.{IsAsked}
use Rattle.drm_command_line.specs.declared.request.Request.{Request}
use Rattle.drm_command_line.specs.declared.request.Request.TheVariants as request
use Rattle.drm_conform.specs.declared.options.Options.{Options}
use Rattle.drm_why.specs.declared.asking.Question.{Question}
use Rattle.drmsim.specs.Statuses.{Does, DrawsAsked, DrawsBetween, EndsAs, ExploresAsked, JudgesAsked, MayHappen, TestsScript, WhysAsked}
use Rattle.drmsim.specs.declared.outcome.Outcome.TheVariants as outcome

pub untouched : (bytes : Option (List ℕ)) → Keeps bytes bytes
untouched None = tt
untouched (Some bytes) = refl

-- a run for which memory was refused leaves what the writer holds
runs_without_memory : (engine : Engine) (input bytes : Option (List ℕ)) → Runs engine input bytes bytes ending.NoMemory
runs_without_memory engine.Replay input bytes = untouched bytes
runs_without_memory engine.Serial input bytes = untouched bytes
runs_without_memory engine.Check input bytes = untouched bytes

-- so does a drawing
part_without_memory : (axis : Axis) (from to : Option ℕ) (source : SourceState) (sink : SinkState) → DrawsBetween axis from to source source sink sink ending.NoMemory
part_without_memory axis (Some from) (Some to) source sink = untouched sink.contents
part_without_memory axis (Some from) None source sink = (refl, refl)
part_without_memory axis None to source sink = (refl, refl)

drawn_without_memory : (asked : Option Axis) (from to : Option ℕ) (source : SourceState) (sink : SinkState) → DrawsAsked asked from to source source sink sink (outcome.Ended ending.NoMemory)
drawn_without_memory (Some axis) from to source sink = part_without_memory axis from to source sink
drawn_without_memory None from to source sink = (refl, refl)

-- an exploration for which memory was refused leaves what the writer holds
explored_without_memory : (backs_off reaps : Bool) (most : Option ℕ) (told : Option Wanted) (source : SourceState) (sink : SinkState)
    → ExploresAsked backs_off reaps most told source source sink sink (outcome.Ended ending.NoMemory)
explored_without_memory backs_off reaps (Some most) (Some told) source sink = untouched sink.contents
explored_without_memory backs_off reaps (Some most) None source sink = (refl, refl)
explored_without_memory backs_off reaps None told source sink = (refl, refl)

-- so does what is asked of jobs, and the judging of a log
why_without_memory : (asked : Option Question) (source : SourceState) (sink : SinkState) → WhysAsked asked source source sink sink (outcome.Ended ending.NoMemory)
why_without_memory (Some asked) source sink = untouched sink.contents
why_without_memory None source sink = (refl, refl)

judged_without_memory : (asked : Option Options) (source : SourceState) (sink : SinkState) → JudgesAsked asked source source sink sink (outcome.Ended ending.NoMemory)
judged_without_memory (Some options) source sink = (refl, refl)
judged_without_memory None source sink = (refl, refl)

-- and a test
tested_without_memory : (lowers : Bool) (source : SourceState) (sink : SinkState) → TestsScript lowers source.remaining sink.contents sink.contents ending.NoMemory
tested_without_memory true source sink = inr (inr refl, untouched sink.contents)
tested_without_memory false source sink = inr (inr refl, untouched sink.contents)

-- and whatever is asked for
done_without_memory : (asked : Request) (source : SourceState) (sink : SinkState) → Does asked source source sink sink (outcome.Ended ending.NoMemory)
done_without_memory (request.Run engine) source sink = runs_without_memory engine source.remaining sink.contents
done_without_memory request.ReplayWithWords source sink = (untouched sink.contents, tt)
done_without_memory request.ReplayAsJournal source sink = untouched sink.contents
done_without_memory (request.Work submitters turns) source sink = untouched sink.contents
done_without_memory (request.Explain word) source sink = (refl, untouched sink.contents)
done_without_memory (request.Draw from to by) source sink = drawn_without_memory _ _ _ source sink
done_without_memory (request.Explore backs_off reaps most stuck reached cover) source sink = explored_without_memory backs_off reaps _ _ source sink
done_without_memory (request.Why fence all rings) source sink = why_without_memory _ source sink
done_without_memory (request.Test lowers) source sink = tested_without_memory lowers source sink
done_without_memory (request.Conform jobs in_order limits tolerance) source sink = judged_without_memory _ source sink
done_without_memory (request.Trace by_command) source sink = untouched sink.contents

pub ends_without_memory : (asked : Request) (source : SourceState) (sink : SinkState) (status : ℕ) → status ≡ 3 → EndsAs asked source source sink sink status
ends_without_memory asked source sink status is = (outcome.Ended ending.NoMemory, done_without_memory asked source sink, (refl, refl), is)

-- an explanation reads nothing, so no read of it fails
pub told_unread : (word : Option Text) (source : SourceState) (old new : SinkState) (ended : Ending) → Tells word old.contents new.contents ended → TellsWrites old new ended → EndsBy source source old new ended
told_unread word source old new ending.Done tells wrote = ((refl, refl), wrote)
told_unread word source old new (ending.Unexplained said) tells wrote = ((refl, refl), wrote)
told_unread word source old new ending.NoMemory tells wrote = (refl, wrote)
told_unread word source old new ending.NoOutput tells wrote = ((refl, refl), wrote)
told_unread word source old new other never wrote = absurd never

-- what is asked for may happen
pub may_happen : (words : List Text) (asked : Request) → IsAsked words asked → MayHappen asked
may_happen words (request.Run engine) is = tt
may_happen words request.ReplayWithWords is = tt
may_happen words request.ReplayAsJournal is = tt
may_happen words (request.Work submitters turns) is = is.3.1.1
may_happen words (request.Explain word) is = tt
may_happen words (request.Draw from to by) is = tt
may_happen words (request.Explore backs_off reaps most stuck reached cover) is = tt
may_happen words (request.Why fence all rings) is = tt
may_happen words (request.Test lowers) is = tt
may_happen words (request.Conform jobs in_order limits tolerance) is = tt
may_happen words (request.Trace by_command) is = tt

-- of words without a fault only want of memory is an error
pub memory_alone : (kinds : Kinds) (found : ErrorKind) → kinds ≡ [] → (found ≡ OutOfMemory) ⊎ IsAmong found kinds → found ≡ OutOfMemory
memory_alone [] found none (inl is) = is
memory_alone [] found none (inr never) = absurd never
memory_alone (k ∷ ks) found none is = absurd (cc)
