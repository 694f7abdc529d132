-- The text of a command, as its script has it.
use Rattle.std.specs.Prelude.{◌≡◌, ℕ, List, [], ◌++◌, None}
use Rattle.std.specs.List.{join_with_byte}
use Rattle.drm_job.specs.declared.Draft.{Draft}
use Rattle.drm_core.specs.declared.event.Event.{Event}
use Rattle.drm_core.specs.Jobs.{job_of}
use Rattle.drm_script.specs.Grammar.{command_words}
use Rattle.drm_why.specs.Lines.{text_of_command}
use Rattle.drm_why.specs.Seeing.{command_of}

-- the line of a command in its script begins with the text that is told of it, and is that text where the command
-- brings no job
pub record BeginsLine (event : Event Draft) : Type 0 where
  pub rest : List ℕ
  pub line : join_with_byte 32 (command_words event) ≡ text_of_command (command_of event) ++ rest
  pub whole : job_of event ≡ None → rest ≡ []

abbrev pub TextsBeginLines : Type 0
TextsBeginLines = (event : Event Draft) → BeginsLine event
