-- The grammar of what all texts share: the words of a job, and the header of a device. A text is lines and a line is
-- words: what is written here are the words of each line, and in which order the lines of a header stand.
use Rattle.std.specs.Prelude.{◌≡◌, ℕ, ◌^◌, ◌-◌, ◌<◌, ◌≤◌, List, [], ◌∷◌, ◌++◌, length, map, replicate, codes, None, ◌⊎◌}
use Rattle.std.specs.List.{AllByRecursion, join_with_byte}
use Rattle.std.specs.Fmt.{decimal}
use Rattle.drm_job.specs.declared.Draft.{Draft}
use Rattle.drm_packet.specs.declared.Packet.{Packet}
use Rattle.drm_packet.specs.declared.Packet.TheVariants.{Fill, Copy, Add, Stall}
use Rattle.drm_types.specs.declared.access.Access.{Access}
use Rattle.drm_types.specs.declared.access.Access.TheVariants as access
use Rattle.drm_types.specs.Limits.{spec_fault}
use Rattle.drm_types.specs.declared.spec.DeviceSpec.{DeviceSpec}
use Rattle.drm_types.specs.declared.spec.EntitySpec.{EntitySpec}
use Rattle.drm_types.specs.declared.spec.Priority.{Priority}
use Rattle.drm_types.specs.declared.spec.Priority.TheVariants as priority
use Rattle.drm_types.specs.declared.spec.RingSpec.{RingSpec}
use Rattle.drm_text.specs.Grammar.{AreBytes}
use Rattle.drm_text.specs.Hexadecimal.{text_of_byte, text_of_bytes}

-- a number of 32 bits
abbrev pub IsNumber : ℕ → Type 0
IsNumber n = n ≤ 2 ^ 32 - 1

-- ---- jobs

abbrev pub declaration_word : ℕ × Access → List ℕ
declaration_word (buffer, access.Read) = codes "r" ++ decimal buffer
declaration_word (buffer, access.Write) = codes "w" ++ decimal buffer
declaration_word (buffer, access.Hold) = codes "h" ++ decimal buffer
declaration_word (buffer, access.Move) = codes "m" ++ decimal buffer

abbrev pub fence_word : ℕ → List ℕ
fence_word fence = codes "a" ++ decimal fence

-- the pieces of a packet's word, between which there are colons
abbrev pub packet_pieces : Packet → List (List ℕ)
packet_pieces (Fill buffer offset len byte) = codes "fill" ∷ decimal buffer ∷ decimal offset ∷ decimal len ∷ text_of_byte byte ∷ []
packet_pieces (Copy source source_offset target target_offset len) =
    codes "copy" ∷ decimal source ∷ decimal source_offset ∷ decimal target ∷ decimal target_offset ∷ decimal len ∷ []
packet_pieces (Add source source_offset target target_offset len) =
    codes "add" ∷ decimal source ∷ decimal source_offset ∷ decimal target ∷ decimal target_offset ∷ decimal len ∷ []
packet_pieces (Stall resets) = codes "stall" ∷ decimal resets ∷ []

abbrev pub packet_word : Packet → List ℕ
packet_word packet = join_with_byte 58 (packet_pieces packet)

-- its numbers are in their ranges
abbrev pub PacketFits : Packet → Type 0
PacketFits (Fill buffer offset len byte) = IsNumber buffer × IsNumber offset × IsNumber len × (byte < 256)
PacketFits (Copy source source_offset target target_offset len) =
    IsNumber source × IsNumber source_offset × IsNumber target × IsNumber target_offset × IsNumber len
PacketFits (Add source source_offset target target_offset len) =
    IsNumber source × IsNumber source_offset × IsNumber target × IsNumber target_offset × IsNumber len
PacketFits (Stall resets) = resets ≤ 65535

-- what stands behind the credits of a job: its declarations, its fences, its packets
abbrev pub item_words : List (ℕ × Access) → List ℕ → List Packet → List (List ℕ)
item_words declared after packets = map declaration_word declared ++ map fence_word after ++ map packet_word packets

abbrev pub job_words : Draft → List (List ℕ)
job_words job = decimal job.entity ∷ decimal job.credits ∷ item_words job.declared job.after job.packets

abbrev pub ItemsFit : List (ℕ × Access) → List ℕ → List Packet → Type 0
ItemsFit declared after packets =
    AllByRecursion (λ declaration. IsNumber declaration.0) declared × AllByRecursion IsNumber after × AllByRecursion PacketFits packets

abbrev pub JobFits : Draft → Type 0
JobFits job = IsNumber job.entity × (job.credits ≤ 65535) × ItemsFit job.declared job.after job.packets

-- ---- headers

-- the words of a line
abbrev pub Line : Type 0
Line = List (List ℕ)

-- a buffer is told by its bytes, or by its size where each byte is 0
abbrev pub SpellsBuffer : Line → List ℕ → Type 0
SpellsBuffer line bytes =
    ((line ≡ codes "buffer" ∷ text_of_bytes bytes ∷ []) × AreBytes bytes)
    ⊎ ((size : ℕ) × (line ≡ codes "zero" ∷ decimal size ∷ []) × (size ≤ 65535) × (bytes ≡ replicate size 0))

abbrev pub ring_words : RingSpec → Line
ring_words ring = codes "ring" ∷ decimal ring.credit_limit ∷ decimal ring.timeout ∷ decimal ring.hang_limit ∷ []

abbrev pub priority_word : Priority → List ℕ
priority_word priority.Kernel = codes "kernel"
priority_word priority.High = codes "high"
priority_word priority.Normal = codes "normal"
priority_word priority.Low = codes "low"

-- the rings of an entity are numbers with a comma between each two
abbrev pub rings_word : List ℕ → List ℕ
rings_word rings = join_with_byte 44 (map decimal rings)

abbrev pub entity_words : EntitySpec → Line
entity_words entity = codes "entity" ∷ rings_word entity.rings ∷ priority_word entity.priority ∷ []

-- the last lines of a header
abbrev pub opening : ℕ → List Line
opening max_jobs = (codes "jobs" ∷ decimal max_jobs ∷ []) ∷ (codes "go" ∷ []) ∷ []

abbrev pub RingFits : RingSpec → Type 0
RingFits ring = (ring.credit_limit ≤ 65535) × IsNumber ring.timeout × IsNumber ring.hang_limit

-- an entity lists one ring or more
abbrev pub EntityFits : EntitySpec → Type 0
EntityFits entity = (0 < length entity.rings) × AllByRecursion IsNumber entity.rings

-- each line spells the element at its place
abbrev pub Each : {A : Type 0} → (Line → A → Type 0) → List Line → List A → Type 0
Each Spells [] [] = Unit {0}
Each Spells [] (x ∷ xs) = ⊥
Each Spells (line ∷ lines) [] = ⊥
Each Spells (line ∷ lines) (x ∷ xs) = Spells line x × Each Spells lines xs

-- the lines are the header of a device within its limits: its buffers, rings and entities, how many jobs it takes, and
-- `go`
abbrev pub SpellsHeader : List Line → DeviceSpec → Type 0
SpellsHeader lines spec =
    (buffers : List Line) × Each SpellsBuffer buffers spec.buffers
    × (lines ≡ buffers ++ map ring_words spec.rings ++ map entity_words spec.entities ++ opening spec.max_jobs)
    × AllByRecursion RingFits spec.rings × AllByRecursion EntityFits spec.entities × IsNumber spec.max_jobs
    × (spec_fault spec ≡ None)
