-- How a job is written: its words, each after a space.
use Rattle.std.specs.Prelude.{ℕ, List, [], ◌∷◌, ◌++◌, flat_map, codes}
use Rattle.std.specs.Fmt.{decimal}
use Rattle.drm_types.specs.declared.access.Access.{Access}
use Rattle.drm_types.specs.declared.access.Access.TheVariants as access
use Rattle.drm_packet.specs.declared.Packet.{Packet}
use Rattle.drm_packet.specs.declared.Packet.TheVariants.{Fill, Copy, Add, Stall}
use Rattle.drm_job.specs.declared.Draft.{Draft}
use Rattle.drm_text.specs.Hexadecimal.{text_of_byte}
use Rattle.drm_answer.specs.Answers.{numbers, separated}

abbrev pub word_of_declaration : ℕ × Access → List ℕ
word_of_declaration (buffer, access.Read) = codes " r" ++ decimal buffer
word_of_declaration (buffer, access.Write) = codes " w" ++ decimal buffer
word_of_declaration (buffer, access.Hold) = codes " h" ++ decimal buffer
word_of_declaration (buffer, access.Move) = codes " m" ++ decimal buffer

abbrev pub word_of_fence : ℕ → List ℕ
word_of_fence fence = codes " a" ++ decimal fence

-- numbers, each after a colon
abbrev pub pieces : List ℕ → List ℕ
pieces ns = separated 58 ns

abbrev pub word_of_packet : Packet → List ℕ
word_of_packet (Fill buffer offset len byte) = codes " fill" ++ pieces (buffer ∷ offset ∷ len ∷ []) ++ 58 ∷ text_of_byte byte
word_of_packet (Copy source source_offset target target_offset len) =
    codes " copy" ++ pieces (source ∷ source_offset ∷ target ∷ target_offset ∷ len ∷ [])
word_of_packet (Add source source_offset target target_offset len) =
    codes " add" ++ pieces (source ∷ source_offset ∷ target ∷ target_offset ∷ len ∷ [])
word_of_packet (Stall resets) = codes " stall" ++ pieces (resets ∷ [])

unfoldable pub words_of_job : Draft → List ℕ
words_of_job job =
    numbers (job.entity ∷ job.credits ∷ [])
    ++ flat_map word_of_declaration job.declared
    ++ flat_map word_of_fence job.after
    ++ flat_map word_of_packet job.packets
