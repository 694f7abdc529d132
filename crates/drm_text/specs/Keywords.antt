-- The first words of lines.
use Rattle.std.specs.Prelude.{ℕ, List, [], ◌∷◌, Option, codes, find}
use Rattle.std.specs.Str.{bytes_eq}
use Rattle.drm_text.specs.declared.keywords.Command.{Command}
use Rattle.drm_text.specs.declared.keywords.Command.TheVariants as command
use Rattle.drm_text.specs.declared.keywords.Keyword.{Keyword}
use Rattle.drm_text.specs.declared.keywords.Keyword.TheVariants as line

abbrev pub command_text : Command → List ℕ
command_text command.Submit = codes "submit"
command_text command.Begin = codes "begin"
command_text command.Try = codes "try"
command_text command.Done = codes "done"
command_text command.Drop = codes "drop"
command_text command.End = codes "end"
command_text command.Plan = codes "plan"
command_text command.Arm = codes "arm"
command_text command.Pick = codes "pick"
command_text command.Step = codes "step"
command_text command.Finish = codes "finish"
command_text command.Timeout = codes "timeout"
command_text command.Cancel = codes "cancel"
command_text command.Reap = codes "reap"
command_text command.Read = codes "read"
command_text command.Fence = codes "fence"
command_text command.Dump = codes "dump"

abbrev pub keyword_text : Keyword → List ℕ
keyword_text line.Buffer = codes "buffer"
keyword_text line.Zero = codes "zero"
keyword_text line.Ring = codes "ring"
keyword_text line.Entity = codes "entity"
keyword_text line.Jobs = codes "jobs"
keyword_text line.Go = codes "go"
keyword_text line.Job = codes "job"
keyword_text line.Final = codes "final"
keyword_text (line.Command c) = command_text c

abbrev pub keywords : List Keyword
keywords =
    line.Buffer ∷ line.Zero ∷ line.Ring ∷ line.Entity ∷ line.Jobs ∷ line.Go ∷ line.Job ∷ line.Final
    ∷ line.Command command.Submit
    ∷ line.Command command.Begin
    ∷ line.Command command.Try
    ∷ line.Command command.Done
    ∷ line.Command command.Drop
    ∷ line.Command command.End
    ∷ line.Command command.Plan
    ∷ line.Command command.Arm
    ∷ line.Command command.Pick
    ∷ line.Command command.Step
    ∷ line.Command command.Finish
    ∷ line.Command command.Timeout
    ∷ line.Command command.Cancel
    ∷ line.Command command.Reap
    ∷ line.Command command.Read
    ∷ line.Command command.Fence
    ∷ line.Command command.Dump
    ∷ []

-- the line that begins with this word
unfoldable pub keyword_of : List ℕ → Option Keyword
keyword_of word = find (λ k. bytes_eq word (keyword_text k)) keywords
