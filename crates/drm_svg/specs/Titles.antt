-- What the browser tells of a bar where the mouse rests on it.
use Rattle.std.specs.Prelude.{ℕ, List, [], ◌++◌, ◌+◌, Option, Some, None, codes, decimal}
use Rattle.drm_picture.specs.declared.bars.Bar.{Bar}
use Rattle.drm_picture.specs.declared.bars.Kind.{Kind}
use Rattle.drm_picture.specs.declared.bars.Kind.TheVariants as kind
use Rattle.drm_picture.specs.declared.bars.Lane.{Lane}
use Rattle.drm_picture.specs.declared.bars.Look.{Look}
use Rattle.drm_picture.specs.declared.bars.Look.TheVariants as look
use Rattle.drm_svg.specs.declared.titles.TheConstants.{PACKETS}
use Rattle.drm_picture.specs.declared.command.Request.{Request}
use Rattle.drm_svg.specs.Owners.{uses_text}
use Rattle.drm_svg.specs.Signs.{name_of, word_of_look}

-- what a bar is of: its lane, and its fence or context
abbrev pub subject_text : Kind → Lane → ℕ → List ℕ
subject_text kind.Job lane number = name_of lane ++ codes ": fence " ++ decimal number
subject_text kind.Queued lane number = name_of lane ++ codes ": fence " ++ decimal number
subject_text kind.Stopped lane number = name_of lane
subject_text kind.Lock lane number = name_of lane ++ codes ": context " ++ decimal number
subject_text kind.Fence lane number = name_of lane
subject_text kind.Waiting lane number = name_of lane ++ codes ": fence " ++ decimal number

-- whose job it is, where the lane does not tell it
abbrev pub owner_text : Kind → Option Request → List ℕ
owner_text kind.Queued job = []
owner_text _ (Some job) = codes " of entity " ++ decimal job.entity
owner_text _ None = []

-- what the command does that begins it
abbrev pub begins_of : Kind → List ℕ
begins_of kind.Job = codes ", picked by command "
begins_of kind.Queued = codes ", queued by command "
begins_of kind.Stopped = codes ", stopped by command "
begins_of kind.Lock = codes ", locked by command "
begins_of kind.Fence = codes ", armed by command "
begins_of kind.Waiting = codes ", waits from command "

-- what the command does that ends it
abbrev pub ends_of : Kind → List ℕ
ends_of kind.Job = codes ", finished by command "
ends_of kind.Queued = codes ", taken out by command "
ends_of kind.Lock = codes ", dropped by command "
ends_of kind.Waiting = codes ", until command "
ends_of _ = codes ", ended by command "

abbrev pub moment_text : Option ℕ → List ℕ
moment_text (Some now) = codes " at moment " ++ decimal now
moment_text None = []

-- which command ends it, and at which moment
abbrev pub end_text : Look → Bar → List ℕ
end_text look.Open bar = codes ", not ended"
end_text _ bar = ends_of bar.kind ++ decimal (bar.from + bar.span) ++ moment_text bar.ended

-- the same, but of an entity that is stopped, which stays so
abbrev pub last_text : Kind → Bar → List ℕ
last_text kind.Stopped bar = []
last_text _ bar = end_text bar.look bar

-- how many packets ran, of a job on its ring
abbrev pub packets_text : Kind → ℕ → List ℕ
packets_text kind.Job packets = PACKETS.now ++ decimal packets
packets_text _ packets = []

-- what a bar of a job or of none is of, and whose job it is
unfoldable pub whose_of : Option Request → Bar → List ℕ
whose_of job bar = subject_text bar.kind bar.opening.lane bar.opening.number ++ owner_text bar.kind job

-- the commands that begin and end it and their moments, and how many packets ran
unfoldable pub when_of : Bar → List ℕ
when_of bar = begins_of bar.kind ++ decimal bar.from ++ moment_text bar.began ++ last_text bar.kind bar ++ packets_text bar.kind bar.packets

-- what a bar of a job or of none tells up to how it ended: also what its job does with which buffers
unfoldable pub front_of : Option Request → Bar → List ℕ
front_of job bar = whose_of job bar ++ uses_text job ++ when_of bar

-- the same, and how it ended
unfoldable pub title_of : Option Request → Bar → List ℕ
title_of job bar = front_of job bar ++ (codes " -> " ++ word_of_look bar.look)

-- how it ended, with what stands for the arrow in markup
unfoldable pub arrow_text : Look → List ℕ
arrow_text look = codes " -&gt; " ++ word_of_look look
