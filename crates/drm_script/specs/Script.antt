-- Scripts: a header, and a command on each further line.
use Rattle.std.specs.Prelude.{ℕ, nat_lt, List, [], length, Result, Ok, Err, if◌then◌else◌}
use Rattle.drm_text.specs.declared.fault.Fault.{Fault}
use Rattle.drm_text.specs.declared.fault.Fault.TheVariants.{Text}
use Rattle.drm_text.specs.declared.fault.TextFault.TheVariants as what
use Rattle.drm_script.specs.declared.script.Script.{Script}
use Rattle.drm_text.specs.Cut.{Left}
use Rattle.drm_text.specs.Reading.{◌>>=◌}
use Rattle.drm_text.specs.Lines.{lines_of}
use Rattle.drm_parse.specs.Header.{header_at}
use Rattle.drm_script.specs.Commands.{events_of}

-- the script of a header and of the events behind it
abbrev pub script_of : Left → Result Script Fault
script_of lines =
    header_at lines >>= λ header.
    events_of header.0 [] header.1.line header.1.bytes header.1.more >>= λ events.
    Ok (record { spec = header.0; lines = events })

-- the script that a text spells, or its first fault
unfoldable pub judge_script : List ℕ → Result Script Fault
judge_script text =
    if nat_lt 1048576 (length text) then Err (Text 0 0 what.TooLong)
    else script_of (lines_of text)
