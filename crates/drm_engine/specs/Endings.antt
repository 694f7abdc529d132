-- What the program tells of an ending.
use Rattle.std.specs.Prelude.{ℕ, Bool, true, false, List, ◌++◌, codes}
use Rattle.std.specs.Fmt.{decimal}
use Rattle.std.specs.String.{string_bytes}
use Rattle.drm_text.specs.Faults.{number_of_fault}
use Rattle.drm_text.specs.declared.fault.Fault.TheVariants.{Text, Device}
use Rattle.drm_stream.specs.declared.input.InputError.{InputError}
use Rattle.drm_stream.specs.declared.input.InputError.TheVariants as input
use Rattle.drm_engine.specs.declared.ending.Ending.{Ending}
use Rattle.drm_engine.specs.declared.ending.Ending.TheVariants as ending

-- how an engine ends whose input could not be read
abbrev pub ending_of_input : InputError → Ending
ending_of_input input.Failed = ending.NoInput
ending_of_input input.Memory = ending.NoMemory
ending_of_input (input.Fault fault) = ending.Fault fault

-- whether standard output has told it all
abbrev pub is_told : Ending → Bool
is_told ending.Done = true
is_told ending.Differs = true
is_told ending.Stuck = true
is_told other = false

-- the exit status
abbrev pub status_of : Ending → ℕ
status_of ending.Done = 0
status_of ending.Differs = 1
status_of (ending.GaveUp worker turns) = 1
status_of ending.NoThread = 1
status_of ending.Stuck = 1
status_of ending.MoreStates = 1
status_of (ending.Fault fault) = 2
status_of ending.TooMany = 2
status_of ending.NoCount = 2
status_of ending.NoStates = 2
status_of (ending.Unexplained word) = 2
status_of ending.NoMemory = 3
status_of ending.NoInput = 4
status_of ending.NoOutput = 4

-- what is printed of it
abbrev pub text_of_ending : Ending → List ℕ
text_of_ending ending.Done = codes "done"
text_of_ending ending.Differs = codes "differs"
text_of_ending (ending.GaveUp worker turns) = codes "gave up " ++ decimal worker
text_of_ending ending.NoThread = codes "no thread"
text_of_ending (ending.Fault (Text line column what)) =
    codes "line " ++ decimal line ++ codes " column " ++ decimal column ++ codes ": fault " ++ decimal (number_of_fault what)
text_of_ending (ending.Fault (Device bad)) = codes "refused 1 " ++ decimal bad.part ++ codes " " ++ decimal bad.index
text_of_ending ending.TooMany =
    codes "error: a picture has at most 5000 commands\n\nDraw a part with '--from N' and '--to M'. For more information, try '--help'."
text_of_ending ending.NoCount =
    codes "error: '--from' and '--to' take a number of commands, 0 to 4294967295\n\nFor more information, try '--help'."
text_of_ending ending.Stuck = codes "stuck"
text_of_ending ending.MoreStates = codes "gave up"
text_of_ending ending.NoStates = codes "error: '--states' takes a number of states, 0 to 4294967295\n\nFor more information, try '--help'."
text_of_ending (ending.Unexplained word) =
    codes "error: invalid value '" ++ string_bytes word
    ++ codes "' for '[NUMBER]': no refusal and no fault has this number\n\nFor more information, try '--help'."
text_of_ending ending.NoMemory = codes "out of memory"
text_of_ending ending.NoInput = codes "input failed"
text_of_ending ending.NoOutput = codes "output failed"
