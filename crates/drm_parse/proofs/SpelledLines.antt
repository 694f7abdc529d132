-- Jobs and headers as lines, and texts of such lines.
use Rattle.std.specs.List.{AllByRecursion, join_with_byte, list_all}
use Rattle.std.specs.Fmt.{decimal}
use Rattle.drm_job.specs.declared.Draft.{Draft}
use Rattle.drm_packet.specs.declared.Packet.{Packet}
use Rattle.drm_packet.specs.declared.Packet.TheVariants.{Add, Copy, Fill, Stall}
use Rattle.drm_types.specs.declared.access.Access.{Access}
use Rattle.drm_types.specs.declared.access.Access.TheVariants as access
use Rattle.drm_types.specs.declared.spec.DeviceSpec.{DeviceSpec}
use Rattle.drm_text.specs.Cut.{Left, parts_of}
use Rattle.drm_text.specs.Grammar.{text_of_lines}
use Rattle.drm_text.specs.Lines.{left_of, lines_of}
use Rattle.drm_text.proofs.LineReaders.{AreLines, AreWords, cut_lines, lines_cut, lines_make_text}
use Rattle.drm_text.proofs.Spelled.{byte_graphic, bytes_graphic, decimal_graphic, is_graphic, passes-joined}
use Rattle.drm_parse.specs.Grammar.{Each, EntityFits, IsNumber, ItemsFit, JobFits, Line, PacketFits, RingFits, SpellsBuffer, SpellsHeader, declaration_word, entity_words, item_words, job_words, opening, packet_pieces, packet_word, ring_words}
use Rattle.std.proofs.lemmas.List.Splits.{length-slice_split}
use Rattle.drm_types.specs.declared.spec.EntitySpec.{EntitySpec}
use Rattle.drm_types.specs.declared.spec.RingSpec.{RingSpec}
use Rattle.drm_parse.proofs.HeaderReaders.{as_bytes, left_in, priority_is_word}
use Rattle.drm_parse.proofs.RingLists.{rings_are_word}
use Rattle.std.proofs.Common.{List, [], ap, arith, inl, inr, length, map, refl, subst, sym, true, ℕ, ◌++◌, ◌<◌, ◌==◌, ◌∙◌, ◌∷◌, ◌≡◌, ◌≤◌}

-- ---- words of jobs are words

pub number_graphic : (n : ℕ) → IsNumber n → list_all is_graphic (decimal n) ≡ true
number_graphic n small = decimal_graphic n (omega arith)

declaration_graphic : (d : ℕ × Access) → IsNumber d.0 → list_all is_graphic (declaration_word d) ≡ true
declaration_graphic (buffer, access.Read) small = number_graphic buffer small
declaration_graphic (buffer, access.Write) small = number_graphic buffer small
declaration_graphic (buffer, access.Hold) small = number_graphic buffer small
declaration_graphic (buffer, access.Move) small = number_graphic buffer small

pieces_graphic : (packet : Packet) → PacketFits packet → AreWords (packet_pieces packet)
pieces_graphic (Fill buffer offset len byte) fits =
    (refl, (number_graphic buffer fits.0, (number_graphic offset fits.1, (number_graphic len fits.2, (byte_graphic byte fits.3, tt)))))
pieces_graphic (Copy a b c d x) fits =
    (refl, (number_graphic a fits.0, (number_graphic b fits.1, (number_graphic c fits.2, (number_graphic d fits.3, (number_graphic x fits.4, tt))))))
pieces_graphic (Add a b c d x) fits =
    (refl, (number_graphic a fits.0, (number_graphic b fits.1, (number_graphic c fits.2, (number_graphic d fits.3, (number_graphic x fits.4, tt))))))
pieces_graphic (Stall resets) fits = (refl, (decimal_graphic resets (omega arith), tt))

packets_graphic : (ps : List Packet) → AllByRecursion PacketFits ps → AreWords (map packet_word ps)
packets_graphic [] fits = tt
packets_graphic (p ∷ ps) fits = (passes-joined is_graphic 58 refl (packet_pieces p) (pieces_graphic p fits.0), packets_graphic ps fits.1)

fences_graphic : (fs : List ℕ) (ps : List Packet) → AllByRecursion IsNumber fs → AllByRecursion PacketFits ps → AreWords (item_words [] fs ps)
fences_graphic [] ps fit fits = packets_graphic ps fits
fences_graphic (f ∷ fs) ps fit fits = (number_graphic f fit.0, fences_graphic fs ps fit.1 fits)

items_graphic : (ds : List (ℕ × Access)) (fs : List ℕ) (ps : List Packet) → ItemsFit ds fs ps → AreWords (item_words ds fs ps)
items_graphic [] fs ps fit = fences_graphic fs ps fit.1 fit.2
items_graphic (d ∷ ds) fs ps fit = (declaration_graphic d fit.0.0, items_graphic ds fs ps (fit.0.1, fit.1, fit.2))

pub job_graphic : (job : Draft) → JobFits job → AreWords (job_words job)
job_graphic job fits =
    (number_graphic job.entity fits.0, (decimal_graphic job.credits (let small : job.credits ≤ 65535 = fits.1 in omega arith), items_graphic job.declared job.after job.packets fits.2))

-- ---- lines and parts

cut_behind : (front back : List Line) → cut_lines (front ++ back) ≡ as_bytes front ++ cut_lines back
cut_behind [] back = refl
cut_behind (words ∷ front) back = ap (λ (r : List (List ℕ)). join_with_byte 32 words ∷ r) (cut_behind front back)

pub lines-append : (front back : List Line) → AreLines front → AreLines back → AreLines (front ++ back)
lines-append [] back are also = also
lines-append (words ∷ front) back are also = (are.0, lines-append front back are.1 also)

left_parts : (parts : List (List ℕ)) → 0 < length parts → ((left_of parts).bytes ∷ (left_of parts).more) ≡ parts
left_parts [] some = absurd (omega arith)
left_parts (bytes ∷ more) some = refl

left_is : (parts : List (List ℕ)) → left_of parts ≡ left_in 1 parts
left_is [] = refl
left_is (bytes ∷ more) = refl

some_parts : (text : List ℕ) → 0 < length (parts_of 10 text)
some_parts text = omega (arith, length-slice_split (λ b. b == 10) text)

-- a text whose lines were read up to the end is these lines
pub text_is : (text : List ℕ) (header rest : List Line) (left : Left) → ((lines_of text).bytes ∷ (lines_of text).more) ≡ as_bytes header ++ left.bytes ∷ left.more
    → (left.bytes ∷ left.more) ≡ cut_lines rest → text ≡ text_of_lines (header ++ rest)
text_is text header rest left first second =
    lines_make_text text (header ++ rest)
    (sym (left_parts (parts_of 10 text) (some_parts text)) ∙ first ∙ ap (λ (r : List (List ℕ)). as_bytes header ++ r) second ∙ sym (cut_behind header rest))

-- what is left of a text of these lines, before the first one
pub lines_are : (text : List ℕ) (header rest : List Line) → AreLines header → AreLines rest → text ≡ text_of_lines (header ++ rest) → lines_of text ≡ left_in 1 (as_bytes header ++ cut_lines rest)
lines_are text header rest are also is =
    ap (λ (t : List ℕ). lines_of t) is ∙ ap left_of (lines_cut (header ++ rest) (lines-append header rest are also) ∙ cut_behind header rest) ∙ left_is (as_bytes header ++ cut_lines rest)

pub some_lines : (lines : List (List (List ℕ))) → 0 < length (cut_lines lines)
some_lines [] = omega arith
some_lines (words ∷ lines) = omega arith

-- ---- words of a header's lines are words

buffer_graphic : (words : Line) (bytes : List ℕ) → SpellsBuffer words bytes → AreWords words
buffer_graphic words bytes (inl spells) = subst AreWords (sym spells.0) (refl, (bytes_graphic bytes spells.1.1, tt))
buffer_graphic words bytes (inr spells) = subst AreWords (sym spells.1) (refl, (decimal_graphic spells.0 (let s : spells.0 ≤ 65535 = spells.2 in omega arith), tt))

buffers_graphic : (lines : List Line) (bs : List (List ℕ)) → Each SpellsBuffer lines bs → AreLines lines
buffers_graphic [] bs each = tt
buffers_graphic (words ∷ lines) [] each = absurd each
buffers_graphic (words ∷ lines) (b ∷ bs) each = (buffer_graphic words b each.0, buffers_graphic lines bs each.1)

rings_graphic : (rs : List RingSpec) → AllByRecursion RingFits rs → AreLines (map ring_words rs)
rings_graphic [] fit = tt
rings_graphic (r ∷ rs) fit =
    ((refl, (decimal_graphic r.credit_limit (let s : r.credit_limit ≤ 65535 = fit.0.0 in omega arith), (number_graphic r.timeout fit.0.1, (number_graphic r.hang_limit fit.0.2, tt)))), rings_graphic rs fit.1)

entities_graphic : (es : List EntitySpec) → AllByRecursion EntityFits es → AreLines (map entity_words es)
entities_graphic [] fit = tt
entities_graphic (e ∷ es) fit = ((refl, ((rings_are_word e.rings fit.0).1, ((priority_is_word e.priority).1, tt))), entities_graphic es fit.1)

pub header_graphic : (lines : List Line) (spec : DeviceSpec) → SpellsHeader lines spec → AreLines lines
header_graphic lines spec spells =
    subst AreLines (sym spells.2)
    (lines-append (spells.0 ++ map ring_words spec.rings ++ map entity_words spec.entities) (opening spec.max_jobs)
    (lines-append (spells.0 ++ map ring_words spec.rings) (map entity_words spec.entities)
    (lines-append spells.0 (map ring_words spec.rings) (buffers_graphic spells.0 spec.buffers spells.1) (rings_graphic spec.rings spells.3))
    (entities_graphic spec.entities spells.4))
    ((refl, (number_graphic spec.max_jobs spells.5, tt)), ((refl, tt), tt)))
