-- The text of a header and of a job is the words of the grammar.
use Rattle.std.proofs.Common.{◌≡◌, ℕ, List, [], ◌∷◌, ◌++◌, append_assoc, length, map, refl, sym, ap, ◌∙◌, inl, None}
use Rattle.std.specs.Prelude.{codes, flat_map}
use Rattle.std.specs.List.{AllByRecursion, join_with_byte}
use Rattle.std.specs.Fmt.{decimal}
use Rattle.std.proofs.lemmas.Grind.{flat_map-append}
use Rattle.std.proofs.lemmas.List.{append-nil}
use Rattle.drm_job.specs.declared.Draft.{Draft}
use Rattle.drm_packet.specs.declared.Packet.{Packet}
use Rattle.drm_packet.specs.declared.Packet.TheVariants.{Fill, Copy, Add, Stall}
use Rattle.drm_types.specs.Limits.{spec_fault}
use Rattle.drm_types.specs.declared.access.Access.{Access}
use Rattle.drm_types.specs.declared.access.Access.TheVariants as access
use Rattle.drm_types.specs.declared.spec.DeviceSpec.{DeviceSpec}
use Rattle.drm_types.specs.declared.spec.EntitySpec.{EntitySpec}
use Rattle.drm_types.specs.declared.spec.Priority.{Priority}
use Rattle.drm_types.specs.declared.spec.Priority.TheVariants as priority
use Rattle.drm_types.specs.declared.spec.RingSpec.{RingSpec}
use Rattle.drm_text.specs.Grammar.{AreBytes, line_of_words, text_of_lines}
use Rattle.drm_text.specs.Hexadecimal.{text_of_byte, text_of_bytes}
use Rattle.drm_answer.specs.Answers.{numbers, separated}
use Rattle.drm_parse.specs.Grammar.{Line, Each, SpellsBuffer, SpellsHeader, declaration_word, fence_word, packet_word, job_words, ring_words, priority_word, rings_word, entity_words, opening}
use Rattle.drm_script_writer.specs.Headers.{DeviceFits, line_of_bytes, line_of_entity, line_of_ring, text_of_header, text_of_priority, text_of_rings}
use Rattle.drm_script_writer.specs.Jobs.{pieces, word_of_declaration, word_of_fence, word_of_packet, words_of_job}
use Rattle.drm_script_writer.proofs.Filled.{buffers_sized, entities_fit, filled, rings_listed}

-- words, each behind the separator
abbrev pub behind : ℕ → List (List ℕ) → List ℕ
behind separator words = flat_map (λ word. separator ∷ word) words

pub joined : (separator : ℕ) (word : List ℕ) (words : List (List ℕ)) → join_with_byte separator (word ∷ words) ≡ word ++ behind separator words
joined separator word [] = sym (append-nil word)
joined separator word (next ∷ rest) = ap (λ (r : List ℕ). word ++ separator ∷ r) (joined separator next rest)

pub numbers_behind : (separator : ℕ) (ns : List ℕ) → separated separator ns ≡ behind separator (map decimal ns)
numbers_behind separator [] = refl
numbers_behind separator (n ∷ ns) = ap (λ (r : List ℕ). separator ∷ (decimal n ++ r)) (numbers_behind separator ns)

-- texts of words that each begin with a space
spaced : {X : Type 0} (text word : X → List ℕ) → ((x : X) → text x ≡ 32 ∷ word x) → (xs : List X) → flat_map text xs ≡ behind 32 (map word xs)
spaced text word same [] = refl
spaced text word same (x ∷ xs) = ap (λ (t : List ℕ). t ++ flat_map text xs) (same x) ∙ ap (λ (r : List ℕ). 32 ∷ (word x ++ r)) (spaced text word same xs)

declaration_is : (d : ℕ × Access) → word_of_declaration d ≡ 32 ∷ declaration_word d
declaration_is (buffer, access.Read) = refl
declaration_is (buffer, access.Write) = refl
declaration_is (buffer, access.Hold) = refl
declaration_is (buffer, access.Move) = refl

route_is : (name : List ℕ) (a b c d e : ℕ) → (32 ∷ name ++ pieces (a ∷ b ∷ c ∷ d ∷ e ∷ [])) ≡ 32 ∷ join_with_byte 58 (name ∷ decimal a ∷ decimal b ∷ decimal c ∷ decimal d ∷ decimal e ∷ [])
route_is name a b c d e =
    ap (λ (r : List ℕ). 32 ∷ (name ++ r)) (numbers_behind 58 (a ∷ b ∷ c ∷ d ∷ e ∷ [])) ∙ ap (λ (r : List ℕ). 32 ∷ r) (sym (joined 58 name (decimal a ∷ decimal b ∷ decimal c ∷ decimal d ∷ decimal e ∷ [])))

fill_is : (a b c byte : ℕ) → (codes "fill" ++ pieces (a ∷ b ∷ c ∷ []) ++ 58 ∷ text_of_byte byte) ≡ packet_word (Fill a b c byte)
fill_is a b c byte =
    append_assoc (codes "fill") (pieces (a ∷ b ∷ c ∷ [])) (58 ∷ text_of_byte byte)
    ∙ ap (λ (r : List ℕ). codes "fill" ++ (r ++ 58 ∷ text_of_byte byte)) (numbers_behind 58 (a ∷ b ∷ c ∷ []))
    ∙ ap (λ (r : List ℕ). codes "fill" ++ r) (sym (flat_map-append (λ (word : List ℕ). 58 ∷ word) (decimal a ∷ decimal b ∷ decimal c ∷ []) (text_of_byte byte ∷ []) ∙ ap (λ (r : List ℕ). behind 58 (decimal a ∷ decimal b ∷ decimal c ∷ []) ++ 58 ∷ r) (append-nil (text_of_byte byte))))
    ∙ sym (joined 58 (codes "fill") (decimal a ∷ decimal b ∷ decimal c ∷ text_of_byte byte ∷ []))

packet_is : (p : Packet) → word_of_packet p ≡ 32 ∷ packet_word p
packet_is (Fill a b c byte) = ap (λ (r : List ℕ). 32 ∷ r) (fill_is a b c byte)
packet_is (Copy a b c d e) = route_is (codes "copy") a b c d e
packet_is (Add a b c d e) = route_is (codes "add") a b c d e
packet_is (Stall k) =
    ap (λ (r : List ℕ). 32 ∷ (codes "stall" ++ r)) (numbers_behind 58 (k ∷ [])) ∙ ap (λ (r : List ℕ). 32 ∷ r) (sym (joined 58 (codes "stall") (decimal k ∷ [])))

pub job_is : (job : Draft) → words_of_job job ≡ behind 32 (job_words job)
unfolding words_of_job
job_is job =
    let ds = map declaration_word job.declared in
    let fs = map fence_word job.after in
    let ps = map packet_word job.packets in
    let first = decimal job.entity ∷ decimal job.credits ∷ [] in
    ap (λ (t : List ℕ). t ++ flat_map word_of_declaration job.declared ++ flat_map word_of_fence job.after ++ flat_map word_of_packet job.packets) (numbers_behind 32 (job.entity ∷ job.credits ∷ []))
    ∙ ap (λ (t : List ℕ). behind 32 first ++ t ++ flat_map word_of_fence job.after ++ flat_map word_of_packet job.packets) (spaced word_of_declaration declaration_word declaration_is job.declared)
    ∙ ap (λ (t : List ℕ). behind 32 first ++ behind 32 ds ++ t ++ flat_map word_of_packet job.packets) (spaced word_of_fence fence_word (λ f. refl) job.after)
    ∙ ap (λ (t : List ℕ). behind 32 first ++ behind 32 ds ++ behind 32 fs ++ t) (spaced word_of_packet packet_word packet_is job.packets)
    ∙ ap (λ (t : List ℕ). t ++ behind 32 fs ++ behind 32 ps) (sym (flat_map-append (λ (word : List ℕ). 32 ∷ word) first ds))
    ∙ ap (λ (t : List ℕ). t ++ behind 32 ps) (sym (flat_map-append (λ (word : List ℕ). 32 ∷ word) (first ++ ds) fs))
    ∙ sym (flat_map-append (λ (word : List ℕ). 32 ∷ word) (first ++ ds ++ fs) ps)

abbrev buffer_words : List ℕ → Line
buffer_words bytes = codes "buffer" ∷ text_of_bytes bytes ∷ []

ring_is : (ring : RingSpec) → line_of_ring ring ≡ line_of_words (ring_words ring)
ring_is ring =
    let fields = ring.credit_limit ∷ ring.timeout ∷ ring.hang_limit ∷ [] in
    ap (λ (t : List ℕ). codes "ring" ++ t ++ 10 ∷ []) (numbers_behind 32 fields) ∙ ap (λ (t : List ℕ). t ++ 10 ∷ []) (sym (joined 32 (codes "ring") (map decimal fields)))

priority_is : (p : Priority) → text_of_priority p ≡ 32 ∷ priority_word p
priority_is priority.Kernel = refl
priority_is priority.High = refl
priority_is priority.Normal = refl
priority_is priority.Low = refl

rings_are : (rings : List ℕ) → text_of_rings rings ≡ rings_word rings
rings_are [] = refl
rings_are (ring ∷ rings) = ap (λ (t : List ℕ). decimal ring ++ t) (numbers_behind 44 rings) ∙ sym (joined 44 (decimal ring) (map decimal rings))

entity_is : (entity : EntitySpec) → line_of_entity entity ≡ line_of_words (entity_words entity)
entity_is entity =
    ap (λ (t : List ℕ). codes "entity " ++ t ++ text_of_priority entity.priority ++ 10 ∷ []) (rings_are entity.rings)
    ∙ ap (λ (t : List ℕ). codes "entity " ++ rings_word entity.rings ++ t ++ 10 ∷ []) (priority_is entity.priority)

-- ---- all lines

pub each_line : {X : Type 0} (text : X → List ℕ) (words : X → Line) → ((x : X) → text x ≡ line_of_words (words x)) → (xs : List X) → flat_map text xs ≡ text_of_lines (map words xs)
each_line text words same [] = refl
each_line text words same (x ∷ xs) = ap (λ (t : List ℕ). t ++ flat_map text xs) (same x) ∙ ap (λ (r : List ℕ). line_of_words (words x) ++ r) (each_line text words same xs)

pub lines-append : (front back : List Line) → text_of_lines (front ++ back) ≡ text_of_lines front ++ text_of_lines back
lines-append front back = flat_map-append line_of_words front back

abbrev device_lines : DeviceSpec → List Line
device_lines spec = map buffer_words spec.buffers ++ map ring_words spec.rings ++ map entity_words spec.entities

abbrev pub header_lines : DeviceSpec → List Line
header_lines spec = device_lines spec ++ opening spec.max_jobs

opening_is : (front : List ℕ) (max_jobs : ℕ) → front ++ codes "jobs" ++ numbers (max_jobs ∷ []) ++ codes "\ngo\n" ≡ front ++ text_of_lines (opening max_jobs)
opening_is front max_jobs =
    let words = codes "jobs" ++ 32 ∷ decimal max_jobs in
    ap (λ (n : List ℕ). front ++ codes "jobs" ++ n ++ codes "\ngo\n") (append-nil (32 ∷ decimal max_jobs))
    ∙ ap (λ (t : List ℕ). t ++ codes "\ngo\n") (append_assoc front (codes "jobs") (32 ∷ decimal max_jobs))
    ∙ append_assoc front words (codes "\ngo\n")
    ∙ ap (λ (t : List ℕ). front ++ t) (sym (append_assoc words (10 ∷ []) (codes "go\n")))

pub header_is : (spec : DeviceSpec) → text_of_header spec ≡ text_of_lines (header_lines spec)
unfolding text_of_header
header_is spec =
    let b = map buffer_words spec.buffers in
    let r = map ring_words spec.rings in
    let e = map entity_words spec.entities in
    opening_is (flat_map (line_of_bytes (codes "buffer ")) spec.buffers ++ flat_map line_of_ring spec.rings ++ flat_map line_of_entity spec.entities) spec.max_jobs
    ∙ ap (λ (t : List ℕ). t ++ flat_map line_of_ring spec.rings ++ flat_map line_of_entity spec.entities ++ text_of_lines (opening spec.max_jobs)) (each_line (line_of_bytes (codes "buffer ")) buffer_words (λ x. refl) spec.buffers)
    ∙ ap (λ (t : List ℕ). text_of_lines b ++ t ++ flat_map line_of_entity spec.entities ++ text_of_lines (opening spec.max_jobs)) (each_line line_of_ring ring_words ring_is spec.rings)
    ∙ ap (λ (t : List ℕ). text_of_lines b ++ text_of_lines r ++ t ++ text_of_lines (opening spec.max_jobs)) (each_line line_of_entity entity_words entity_is spec.entities)
    ∙ ap (λ (t : List ℕ). t ++ text_of_lines e ++ text_of_lines (opening spec.max_jobs)) (sym (lines-append b r))
    ∙ ap (λ (t : List ℕ). t ++ text_of_lines (opening spec.max_jobs)) (sym (lines-append (b ++ r) e))
    ∙ sym (lines-append (b ++ r ++ e) (opening spec.max_jobs))

each_buffer : (buffers : List (List ℕ)) → AllByRecursion AreBytes buffers → Each SpellsBuffer (map buffer_words buffers) buffers
each_buffer [] are = tt
each_buffer (b ∷ buffers) are = (inl (refl, are.0), each_buffer buffers are.1)

-- what is written of a device spells it, where its numbers and bytes are of their types
pub header_spells : (spec : DeviceSpec) → spec_fault spec ≡ None → DeviceFits spec → SpellsHeader (header_lines spec) spec
header_spells spec limits device =
    let sized = buffers_sized spec limits in (
      map buffer_words spec.buffers,
      each_buffer spec.buffers (filled spec.buffers sized device.0),
      refl,
      device.1,
      entities_fit (length spec.rings) spec.entities (rings_listed spec limits) device.2,
      device.3,
      limits,
    )
