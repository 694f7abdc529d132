-- The words of a job.
use Rattle.std.specs.Prelude.{ℕ, Bool, false, is_none, not, ◌||◌, ◌++◌, length, ◌+◌, ◌-◌, ◌^◌, ◌==◌, List, [], ◌∷◌, codes, Option, Some, None, unwrap_or, Result, Ok, Err, if◌then◌else◌}
use Rattle.std.specs.List.{list_any}
use Rattle.std.specs.Str.{bytes_eq}
use Rattle.drm_packet.specs.declared.Packet.{Packet}
use Rattle.drm_packet.specs.declared.Packet.TheVariants.{Fill, Copy, Add, Stall}
use Rattle.drm_types.specs.declared.access.Access.TheVariants as access
use Rattle.drm_types.specs.declared.spec.DeviceSpec.{DeviceSpec}
use Rattle.drm_text.specs.declared.fault.Fault.{Fault}
use Rattle.drm_text.specs.declared.fault.TextFault.TheVariants as what
use Rattle.drm_parse.specs.declared.job.Kind.{Kind}
use Rattle.drm_parse.specs.declared.job.Route.{Route}
use Rattle.drm_parse.specs.declared.job.Kind.TheVariants as kind
use Rattle.drm_text.specs.declared.fault.Position.{Position}
use Rattle.drm_text.specs.Cut.{parts_of, Words}
use Rattle.drm_text.specs.Hexadecimal.{byte_of}
use Rattle.drm_text.specs.Reading.{◌>>=◌, ◌>>+◌, or_fault, fault_at}
use Rattle.drm_job.specs.Fault.{job_fault}
use Rattle.drm_job.specs.declared.Draft.{Draft}
use Rattle.drm_types.specs.Firsts.{is_nil}
use Rattle.drm_text.specs.Words.{number_at}
use Rattle.drm_text.specs.Number.{number_up_to}

-- what a word without a colon is that keeps its buffer from others, by its first byte
abbrev pub held_by_first : List ℕ → Option Kind
held_by_first [] = None
held_by_first (byte ∷ rest) =
    if byte == 104 then Some (kind.Declared access.Hold) else if byte == 109 then Some (kind.Declared access.Move) else None

-- what a word without a colon is, by its first byte
abbrev pub kind_by_first : List ℕ → Option Kind
kind_by_first [] = None
kind_by_first (byte ∷ rest) =
    if byte == 114 then Some (kind.Declared access.Read)
    else if byte == 119 then Some (kind.Declared access.Write)
    else if byte == 104 then Some (kind.Declared access.Hold)
    else if byte == 109 then Some (kind.Declared access.Move)
    else if byte == 97 then Some kind.After
    else None

-- what a word of a job is; one that has a colon is a packet
abbrev pub kind_of : List ℕ → Option Kind
kind_of word = if list_any (λ b. b == 58) word then Some kind.Packet else kind_by_first word

-- what a word is read as: one that begins as no declaration and no fence is read as a packet
abbrev pub kind_read : List ℕ → Kind
kind_read word = unwrap_or (if list_any (λ b. b == 58) word then None else kind_by_first word) kind.Packet

-- the four elements of a list that has four
unfoldable pub four_of : List (List ℕ) → Option (List ℕ × List ℕ × List ℕ × List ℕ)
four_of [] = None
four_of (a ∷ []) = None
four_of (a ∷ b ∷ []) = None
four_of (a ∷ b ∷ c ∷ []) = None
four_of (a ∷ b ∷ c ∷ d ∷ []) = Some (a, b, c, d)
four_of (a ∷ b ∷ c ∷ d ∷ e ∷ rest) = None

-- the packet that the fields of a `fill` spell
unfoldable pub fill_of : List ℕ × List ℕ × List ℕ × List ℕ → Option Packet
fill_of fields =
    number_up_to (2 ^ 32 - 1) fields.0 >>+ λ buffer.
    number_up_to (2 ^ 32 - 1) fields.1 >>+ λ offset.
    number_up_to (2 ^ 32 - 1) fields.2 >>+ λ len.
    byte_of fields.3 >>+ λ byte.
    Some (Fill buffer offset len byte)

-- the five elements of a list that has five
unfoldable pub five_of : List (List ℕ) → Option (List ℕ × List ℕ × List ℕ × List ℕ × List ℕ)
five_of [] = None
five_of (a ∷ []) = None
five_of (a ∷ b ∷ []) = None
five_of (a ∷ b ∷ c ∷ []) = None
five_of (a ∷ b ∷ c ∷ d ∷ []) = None
five_of (a ∷ b ∷ c ∷ d ∷ e ∷ []) = Some (a, b, c, d, e)
five_of (a ∷ b ∷ c ∷ d ∷ e ∷ f ∷ rest) = None

-- the element of a list that has one
abbrev pub one_of : List (List ℕ) → Option (List ℕ)
one_of [] = None
one_of (a ∷ []) = Some a
one_of (a ∷ b ∷ rest) = None

-- what the fields of a `copy` or an `add` spell: source, its offset, target, its offset, length
unfoldable pub route_of : List ℕ × List ℕ × List ℕ × List ℕ × List ℕ → Option Route
route_of fields =
    number_up_to (2 ^ 32 - 1) fields.0 >>+ λ source.
    number_up_to (2 ^ 32 - 1) fields.1 >>+ λ source_offset.
    number_up_to (2 ^ 32 - 1) fields.2 >>+ λ target.
    number_up_to (2 ^ 32 - 1) fields.3 >>+ λ target_offset.
    number_up_to (2 ^ 32 - 1) fields.4 >>+ λ len.
    Some (record { source = source; source_offset = source_offset; target = target; target_offset = target_offset; len = len })

-- the first piece as a number, which it may not spell, and the others
abbrev pub number_first : List (List ℕ) → Option (Option ℕ × List (List ℕ))
number_first [] = None
number_first (piece ∷ rest) = Some (number_up_to (2 ^ 32 - 1) piece, rest)

-- the element of a list that has one, as a number or as a byte, which it may not spell
unfoldable pub number_alone : List (List ℕ) → Option (Option ℕ)
number_alone pieces = one_of pieces >>+ λ piece. Some (number_up_to (2 ^ 32 - 1) piece)

unfoldable pub byte_alone : List (List ℕ) → Option (Option ℕ)
byte_alone pieces = one_of pieces >>+ λ piece. Some (byte_of piece)

-- the packet of these fields, where each is spelled
abbrev pub fill_from : Option ℕ → Option ℕ → Option ℕ → Option ℕ → Option Packet
fill_from buffer offset len byte = buffer >>+ λ b. offset >>+ λ o. len >>+ λ l. byte >>+ λ v. Some (Fill b o l v)

-- what the pieces of a `fill` spell, one after another. It is none where they are not four, and else what `fill_of`
-- says
unfoldable pub fill_in_turn : List (List ℕ) → Option (Option Packet)
fill_in_turn pieces =
    number_first pieces >>+ λ buffer.
    number_first buffer.1 >>+ λ offset.
    number_first offset.1 >>+ λ len.
    byte_alone len.1 >>+ λ byte.
    Some (fill_from buffer.0 offset.0 len.0 byte)

-- the route of these fields, where each is spelled
abbrev pub route_from : Option ℕ → Option ℕ → Option ℕ → Option ℕ → Option ℕ → Option Route
route_from source source_offset target target_offset len =
    source >>+ λ s. source_offset >>+ λ so. target >>+ λ t. target_offset >>+ λ to. len >>+ λ l.
    Some (record { source = s; source_offset = so; target = t; target_offset = to; len = l })

-- what the pieces of a `copy` or an `add` spell, one after another. It is none where they are not five, and else what
-- `route_of` says
unfoldable pub route_in_turn : List (List ℕ) → Option (Option Route)
route_in_turn pieces =
    number_first pieces >>+ λ source.
    number_first source.1 >>+ λ source_offset.
    number_first source_offset.1 >>+ λ target.
    number_first target.1 >>+ λ target_offset.
    number_alone target_offset.1 >>+ λ len.
    Some (route_from source.0 source_offset.0 target.0 target_offset.0 len)

abbrev pub copy_of : Route → Packet
copy_of route = Copy route.source route.source_offset route.target route.target_offset route.len

abbrev pub add_of : Route → Packet
add_of route = Add route.source route.source_offset route.target route.target_offset route.len

-- the packets of the pieces behind the name
unfoldable pub fill_at : Position → List (List ℕ) → Result Packet Fault
fill_at position pieces =
    or_fault (four_of pieces) (fault_at position what.Word) >>= λ fields.
    or_fault (fill_of fields) (fault_at position what.Number)

unfoldable pub route_at : Position → List (List ℕ) → Result Route Fault
route_at position pieces =
    or_fault (five_of pieces) (fault_at position what.Word) >>= λ fields.
    or_fault (route_of fields) (fault_at position what.Number)

abbrev pub copy_at : Position → List (List ℕ) → Result Packet Fault
copy_at position pieces = route_at position pieces >>= λ route. Ok (copy_of route)

abbrev pub add_at : Position → List (List ℕ) → Result Packet Fault
add_at position pieces = route_at position pieces >>= λ route. Ok (add_of route)

unfoldable pub stall_at : Position → List (List ℕ) → Result Packet Fault
stall_at position pieces =
    or_fault (one_of pieces) (fault_at position what.Word) >>= λ field.
    or_fault (number_up_to 65535 field) (fault_at position what.Number) >>= λ resets.
    Ok (Stall resets)

-- the packet of a name and the pieces behind it
abbrev pub packet_named : Position → List ℕ → List (List ℕ) → Result Packet Fault
packet_named position name pieces =
    if bytes_eq name (codes "fill") then fill_at position pieces
    else if bytes_eq name (codes "copy") then copy_at position pieces
    else if bytes_eq name (codes "add") then add_at position pieces
    else if bytes_eq name (codes "stall") then stall_at position pieces
    else Err (fault_at position what.Word)

-- the packet of the pieces of a word
unfoldable pub packet_from : Position → List (List ℕ) → Result Packet Fault
packet_from position [] = Err (fault_at position what.Word)
packet_from position (name ∷ pieces) = packet_named position name pieces

abbrev pub packet_at : Position → List ℕ → Result Packet Fault
packet_at position word = packet_from position (parts_of 58 word)

-- whether what comes after such a word has begun
abbrev pub is_late : Draft → Kind → Bool
is_late draft (kind.Declared access) = not (is_nil draft.after) || not (is_nil draft.packets)
is_late draft kind.After = not (is_nil draft.packets)
is_late draft kind.Packet = false

-- the number behind the first byte
abbrev pub tail_at : Position → List ℕ → Result ℕ Fault
tail_at position [] = Err (fault_at position what.Number)
tail_at position (first ∷ tail) = or_fault (number_up_to (2 ^ 32 - 1) tail) (fault_at position what.Number)

-- the job with what a word adds to it
abbrev pub with_item : Draft → Position → List ℕ → Kind → Result Draft Fault
with_item draft position word (kind.Declared access) =
    tail_at position word >>= λ buffer. Ok (record draft { declared = draft.declared ++ (buffer, access) ∷ [] })
with_item draft position word kind.After = tail_at position word >>= λ fence. Ok (record draft { after = draft.after ++ fence ∷ [] })
with_item draft position word kind.Packet = packet_at position word >>= λ packet. Ok (record draft { packets = draft.packets ++ packet ∷ [] })

abbrev pub with_word : Draft → Position → List ℕ → Result Draft Fault
with_word draft position word =
    or_fault (kind_of word) (fault_at position what.Word) >>= λ kind.
    if is_late draft kind then Err (fault_at position what.Word) else with_item draft position word kind

-- the same for all words that are left of a line, behind its first `at` bytes
abbrev pub with_words : Draft → ℕ → ℕ → List (List ℕ) → Result Draft Fault
with_words draft line at [] = Ok draft
with_words draft line at (word ∷ rest) =
    with_word draft (record { line = line; column = at + 1 }) word >>= λ next. with_words next line (at + length word + 1) rest

-- the job that the words spell
unfoldable pub job_at : Words → Result Draft Fault
job_at words = do
  entity ← number_at (2 ^ 32 - 1) words
  credits ← number_at 65535 entity.1
  with_words (record { entity = entity.0; credits = credits.0; declared = []; after = []; packets = [] }) credits.1.line credits.1.rest.at credits.1.rest.parts

-- whether the draft is a job of the device
unfoldable pub is_job : DeviceSpec → Draft → Bool
is_job spec draft = is_none (job_fault spec draft)
