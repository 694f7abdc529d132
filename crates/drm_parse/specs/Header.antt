-- The header of a text: the description of a device.
use Rattle.std.specs.Prelude.{ℕ, Bool, true, false, ◌+◌, ◌^◌, ◌-◌, List, [], ◌∷◌, ◌++◌, replicate, codes, Option, Some, None, Result, Ok, Err, if◌then◌else◌}
use Rattle.std.specs.Str.{bytes_eq}
use Rattle.drm_types.specs.declared.spec.DeviceSpec.{DeviceSpec}
use Rattle.drm_types.specs.declared.spec.EntitySpec.{EntitySpec}
use Rattle.drm_types.specs.declared.spec.Priority.{Priority}
use Rattle.drm_types.specs.declared.spec.Priority.TheVariants as priority
use Rattle.drm_types.specs.declared.spec.RingSpec.{RingSpec}
use Rattle.drm_types.specs.Limits.{spec_fault}
use Rattle.drm_text.specs.declared.fault.Fault.{Fault}
use Rattle.drm_text.specs.declared.fault.TextFault.TheVariants as what
use Rattle.drm_parse.specs.declared.header.Section.{Section}
use Rattle.drm_parse.specs.declared.header.Section.TheVariants as section
use Rattle.drm_text.specs.declared.keywords.Keyword.{Keyword}
use Rattle.drm_text.specs.declared.keywords.Keyword.TheVariants as line
use Rattle.drm_text.specs.Cut.{Words, Left, parts_of}
use Rattle.drm_text.specs.Reading.{◌>>=◌, ◌>>+◌, or_fault, or_bad_device}
use Rattle.drm_text.specs.Hexadecimal.{last_bytes_at}
use Rattle.drm_text.specs.Lines.{start_at, last_line, out_of_order}
use Rattle.drm_text.specs.Number.{number_up_to}
use Rattle.drm_text.specs.Words.{word_at, number_at, last_number_at, end_at, fault_here}

abbrev pub priority_of : List ℕ → Option Priority
priority_of word =
    if bytes_eq word (codes "kernel") then Some priority.Kernel
    else if bytes_eq word (codes "high") then Some priority.High
    else if bytes_eq word (codes "normal") then Some priority.Normal
    else if bytes_eq word (codes "low") then Some priority.Low
    else None

-- the section of the header that a line belongs to
abbrev pub section_of : Keyword → Option Section
section_of line.Buffer = Some section.Buffers
section_of line.Zero = Some section.Buffers
section_of line.Ring = Some section.Rings
section_of line.Entity = Some section.Entities
section_of line.Jobs = Some section.Limit
section_of line.Go = Some section.Open
section_of line.Job = None
section_of line.Final = None
section_of (line.Command c) = None

-- whether a line of the second section may stand behind a line of the first, or at the beginning for `Buffers`
abbrev pub follows : Section → Section → Bool
follows section.Buffers section.Open = false
follows section.Buffers next = true
follows section.Rings section.Rings = true
follows section.Rings section.Entities = true
follows section.Rings section.Limit = true
follows section.Rings next = false
follows section.Entities section.Entities = true
follows section.Entities section.Limit = true
follows section.Entities next = false
follows section.Limit section.Open = true
follows section.Limit next = false
follows section.Open next = false

abbrev pub section_after : Section → Keyword → Option Section
section_after last keyword = section_of keyword >>+ λ next. if follows last next then Some next else None

abbrev pub is_open : Section → Bool
is_open section.Open = true
is_open other = false

-- the ring of three numbers
unfoldable pub ring_at : Words → Result RingSpec Fault
ring_at words = do
  credit_limit ← number_at 65535 words
  timeout ← number_at (2 ^ 32 - 1) credit_limit.1
  hang_limit ← last_number_at (2 ^ 32 - 1) timeout.1
  Ok (record { credit_limit = credit_limit.0; timeout = timeout.0; hang_limit = hang_limit })

-- these rings, and those whose numbers the pieces spell
unfoldable pub with_rings : List ℕ → List (List ℕ) → Option (List ℕ)
with_rings rings [] = Some rings
with_rings rings (piece ∷ rest) = number_up_to (2 ^ 32 - 1) piece >>+ λ ring. with_rings (rings ++ ring ∷ []) rest

-- the rings that a word lists: between its commas each part is a number
abbrev pub rings_of : List ℕ → Option (List ℕ)
rings_of word = with_rings [] (parts_of 44 word)

-- the rings of the next word. A part that is no number is a fault of the whole word
unfoldable pub rings_at : Words → Result (List ℕ × Words) Fault
rings_at words =
    word_at words >>= λ word.
    or_fault (rings_of word.0) (fault_here words what.Number) >>= λ rings.
    Ok (rings, word.1)

-- the entity of a list of rings and a priority
unfoldable pub entity_at : Words → Result EntitySpec Fault
entity_at words = do
  rings ← rings_at words
  word ← word_at rings.1
  priority ← or_fault (priority_of word.0) (fault_here rings.1 what.Word)
  _ ← end_at word.1
  Ok (record { rings = rings.0; priority = priority })

-- the device has to be within its limits
unfoldable pub checked_device : DeviceSpec → Result (Unit {0}) Fault
checked_device spec = or_bad_device (spec_fault spec)

-- the device with what the words behind the first one say
abbrev pub with_header_words : DeviceSpec → Keyword → Words → Result DeviceSpec Fault
with_header_words spec line.Buffer words =
    last_bytes_at words >>= λ bytes. Ok (record spec { buffers = spec.buffers ++ bytes ∷ [] })
with_header_words spec line.Zero words =
    last_number_at 65535 words >>= λ size. Ok (record spec { buffers = spec.buffers ++ replicate size 0 ∷ [] })
with_header_words spec line.Ring words = ring_at words >>= λ ring. Ok (record spec { rings = spec.rings ++ ring ∷ [] })
with_header_words spec line.Entity words =
    entity_at words >>= λ entity. Ok (record spec { entities = spec.entities ++ entity ∷ [] })
with_header_words spec line.Jobs words = last_number_at (2 ^ 32 - 1) words >>= λ max. Ok (record spec { max_jobs = max })
with_header_words spec other words = end_at words >>= λ _. Ok spec

-- the device and the section with one more line
unfoldable pub header_line : DeviceSpec → Section → ℕ → List ℕ → Result (DeviceSpec × Section) Fault
header_line spec last line bytes =
    start_at line bytes >>= λ start.
    or_fault (section_after last start.0) (out_of_order line) >>= λ section.
    with_header_words spec start.0 start.1 >>= λ more.
    Ok (more, section)

-- the device that the lines describe up to `go`, and the lines behind
unfoldable pub header_of : DeviceSpec → Section → ℕ → List ℕ → List (List ℕ) → Result (DeviceSpec × Left) Fault
header_of spec last line bytes [] = last_line line bytes >>= λ _. Err (out_of_order line)
header_of spec last line bytes (next ∷ rest) =
    header_line spec last line bytes >>= λ read.
    if is_open read.1 then (checked_device read.0 >>= λ _. Ok (read.0, record { line = line + 1; bytes = next; more = rest }))
    else header_of read.0 read.1 (line + 1) next rest

abbrev pub no_device : DeviceSpec
no_device = record { buffers = []; rings = []; entities = []; max_jobs = 0 }

abbrev pub header_at : Left → Result (DeviceSpec × Left) Fault
header_at lines = header_of no_device section.Buffers lines.line lines.bytes lines.more
