-- Packets are read as they are written, and as nothing else.
use Rattle.std.proofs.Common.{◌≡◌, ℕ, ◌-◌, ◌^◌, ◌≤◌, Bool, true, false, cond, List, [], ◌∷◌, Some, None, Option, Ok, Err, refl, sym, ap, subst, ◌∙◌, arith, inl, inr, ◌⊎◌}
use Rattle.std.specs.Prelude.{codes}
use Rattle.std.specs.Str.{bytes_eq}
use Rattle.std.specs.List.{AllByRecursion, join_with_byte, list_all}
use Rattle.std.specs.Fmt.{decimal}
use Rattle.std.proofs.lemmas.List.Splits.{join_with_byte-slice_split}
use Rattle.std.proofs.lemmas.Slice.Eq.{bytes_eq-Decides}
use Rattle.drm_packet.specs.declared.Packet.{Packet}
use Rattle.drm_packet.specs.declared.Packet.TheVariants.{Fill, Copy, Add, Stall}
use Rattle.drm_text.specs.declared.fault.Position.{Position}
use Rattle.drm_text.specs.declared.fault.TextFault.TheVariants as what
use Rattle.drm_text.specs.Cut.{parts_of}
use Rattle.drm_text.specs.Hexadecimal.{byte_of}
use Rattle.drm_text.specs.Number.{number_up_to}
use Rattle.drm_text.specs.Reading.{◌>>=◌, ◌>>+◌, or_fault, fault_at}
use Rattle.drm_text.proofs.BytesWritten.{byte_takes, byte_written}
use Rattle.drm_text.proofs.Digits.{number_small}
use Rattle.drm_text.proofs.NumberLaws.{number_takes}
use Rattle.drm_text.proofs.NumbersWritten.{number_written}
use Rattle.drm_text.proofs.PartsJoined.{joined_cut}
use Rattle.drm_text.proofs.Spelled.{is_no_colon, decimal_no_colon, byte_no_colon, all_free}
use Rattle.drm_text.proofs.WordReaders.{bind_ok, ok_is, or_fault_ok}
use Rattle.drm_parse.specs.declared.job.Route.{Route}
use Rattle.drm_parse.specs.Grammar.{IsNumber, packet_pieces, packet_word, PacketFits}
use Rattle.drm_parse.specs.Job.{four_of, five_of, one_of, fill_of, route_of, copy_of, add_of, fill_at, route_at, copy_at, add_at, stall_at, packet_named, packet_from, packet_at}

-- the value of a step that was there
pub bind_some : {A B : Type 0} (o : Option A) (f : A → Option B) (y : B) → (o >>+ f) ≡ Some y → (x : A) × (o ≡ Some x) × (f x ≡ Some y)
bind_some (Some x) f y e = (x, refl, e)
bind_some None f y e = absurd (cc)

pub some_is : {A : Type 0} (x y : A) → Some x ≡ Some y → x ≡ y
some_is x y e = cc

-- a word that is read as a number of 32 bits
pub number_word : (n : ℕ) (word : List ℕ) → number_up_to (2 ^ 32 - 1) word ≡ Some n → (word ≡ decimal n) × IsNumber n
number_word n word e =
    let small : n ≤ 2 ^ 32 - 1 = number_small (2 ^ 32 - 1) n word e in
    (sym (number_takes (2 ^ 32 - 1) n word (omega arith) e), small)

pub number_again : (n : ℕ) → IsNumber n → number_up_to (2 ^ 32 - 1) (decimal n) ≡ Some n
number_again n small = number_written (2 ^ 32 - 1) n (omega arith) small

same_four : (a b c d v w x y : List ℕ) → a ≡ v → b ≡ w → c ≡ x → d ≡ y → (a ∷ b ∷ c ∷ d ∷ []) ≡ (v ∷ w ∷ x ∷ y ∷ [])
same_four a b c d v w x y p q r s = cc

same_five : (a b c d e v w x y z : List ℕ) → a ≡ v → b ≡ w → c ≡ x → d ≡ y → e ≡ z → (a ∷ b ∷ c ∷ d ∷ e ∷ []) ≡ (v ∷ w ∷ x ∷ y ∷ z ∷ [])
same_five a b c d e v w x y z p q r s t = cc

abbrev Pieces : List ℕ → List (List ℕ) → Packet → Type 0
Pieces name pieces packet = ((name ∷ pieces) ≡ packet_pieces packet) × PacketFits packet

four_takes : (pieces : List (List ℕ)) (f : List ℕ × List ℕ × List ℕ × List ℕ) → four_of pieces ≡ Some f → pieces ≡ f.0 ∷ f.1 ∷ f.2 ∷ f.3 ∷ []
unfolding four_of
four_takes [] f e = absurd (cc)
four_takes (a ∷ []) f e = absurd (cc)
four_takes (a ∷ b ∷ []) f e = absurd (cc)
four_takes (a ∷ b ∷ c ∷ []) f e = absurd (cc)
four_takes (a ∷ b ∷ c ∷ d ∷ []) f e = ap (λ (g : List ℕ × List ℕ × List ℕ × List ℕ). g.0 ∷ g.1 ∷ g.2 ∷ g.3 ∷ []) (some_is (a, b, c, d) f e)
four_takes (a ∷ b ∷ c ∷ d ∷ more ∷ rest) f e = absurd (cc)

five_takes : (pieces : List (List ℕ)) (f : List ℕ × List ℕ × List ℕ × List ℕ × List ℕ) → five_of pieces ≡ Some f → pieces ≡ f.0 ∷ f.1 ∷ f.2 ∷ f.3 ∷ f.4 ∷ []
unfolding five_of
five_takes [] f e = absurd (cc)
five_takes (a ∷ []) f e = absurd (cc)
five_takes (a ∷ b ∷ []) f e = absurd (cc)
five_takes (a ∷ b ∷ c ∷ []) f e = absurd (cc)
five_takes (a ∷ b ∷ c ∷ d ∷ []) f e = absurd (cc)
five_takes (a ∷ b ∷ c ∷ d ∷ x ∷ []) f e = ap (λ (g : List ℕ × List ℕ × List ℕ × List ℕ × List ℕ). g.0 ∷ g.1 ∷ g.2 ∷ g.3 ∷ g.4 ∷ []) (some_is (a, b, c, d, x) f e)
five_takes (a ∷ b ∷ c ∷ d ∷ x ∷ more ∷ rest) f e = absurd (cc)

one_takes : (pieces : List (List ℕ)) (f : List ℕ) → one_of pieces ≡ Some f → pieces ≡ f ∷ []
one_takes [] f e = absurd (cc)
one_takes (a ∷ []) f e = ap (λ (g : List ℕ). g ∷ []) (some_is a f e)
one_takes (a ∷ b ∷ rest) f e = absurd (cc)

fill_of_takes : (f : List ℕ × List ℕ × List ℕ × List ℕ) (packet : Packet) → fill_of f ≡ Some packet → Pieces (codes "fill") (f.0 ∷ f.1 ∷ f.2 ∷ f.3 ∷ []) packet
unfolding fill_of
fill_of_takes f packet e =
    let a = bind_some (number_up_to (2 ^ 32 - 1) f.0) (λ buffer. number_up_to (2 ^ 32 - 1) f.1 >>+ λ offset. number_up_to (2 ^ 32 - 1) f.2 >>+ λ len. byte_of f.3 >>+ λ byte. Some (Fill buffer offset len byte)) packet e in
    let b = bind_some (number_up_to (2 ^ 32 - 1) f.1) (λ offset. number_up_to (2 ^ 32 - 1) f.2 >>+ λ len. byte_of f.3 >>+ λ byte. Some (Fill a.0 offset len byte)) packet a.2 in
    let c = bind_some (number_up_to (2 ^ 32 - 1) f.2) (λ len. byte_of f.3 >>+ λ byte. Some (Fill a.0 b.0 len byte)) packet b.2 in
    let d = bind_some (byte_of f.3) (λ byte. Some (Fill a.0 b.0 c.0 byte)) packet c.2 in
    let p = number_word a.0 f.0 a.1 in
    let q = number_word b.0 f.1 b.1 in
    let r = number_word c.0 f.2 c.1 in
    let s = byte_takes d.0 f.3 d.1 in
    subst (λ (x : Packet). Pieces (codes "fill") (f.0 ∷ f.1 ∷ f.2 ∷ f.3 ∷ []) x) (some_is (Fill a.0 b.0 c.0 d.0) packet d.2)
    (ap (λ (words : List (List ℕ)). codes "fill" ∷ words) (same_four _ _ _ _ _ _ _ _ p.0 q.0 r.0 s.0), (p.1, q.1, r.1, s.1))

abbrev RouteFits : Route → Type 0
RouteFits route = IsNumber route.source × IsNumber route.source_offset × IsNumber route.target × IsNumber route.target_offset × IsNumber route.len

abbrev route_pieces : Route → List (List ℕ)
route_pieces route = decimal route.source ∷ decimal route.source_offset ∷ decimal route.target ∷ decimal route.target_offset ∷ decimal route.len ∷ []

route_of_takes : (f : List ℕ × List ℕ × List ℕ × List ℕ × List ℕ) (route : Route) → route_of f ≡ Some route → ((f.0 ∷ f.1 ∷ f.2 ∷ f.3 ∷ f.4 ∷ []) ≡ route_pieces route) × RouteFits route
unfolding route_of
route_of_takes f route e =
    let made = λ (a b c d x : ℕ). let r : Route = record { source = a; source_offset = b; target = c; target_offset = d; len = x } in Some r in
    let a = bind_some (number_up_to (2 ^ 32 - 1) f.0) (λ source. number_up_to (2 ^ 32 - 1) f.1 >>+ λ source_offset. number_up_to (2 ^ 32 - 1) f.2 >>+ λ target. number_up_to (2 ^ 32 - 1) f.3 >>+ λ target_offset. number_up_to (2 ^ 32 - 1) f.4 >>+ λ len. made source source_offset target target_offset len) route e in
    let b = bind_some (number_up_to (2 ^ 32 - 1) f.1) (λ source_offset. number_up_to (2 ^ 32 - 1) f.2 >>+ λ target. number_up_to (2 ^ 32 - 1) f.3 >>+ λ target_offset. number_up_to (2 ^ 32 - 1) f.4 >>+ λ len. made a.0 source_offset target target_offset len) route a.2 in
    let c = bind_some (number_up_to (2 ^ 32 - 1) f.2) (λ target. number_up_to (2 ^ 32 - 1) f.3 >>+ λ target_offset. number_up_to (2 ^ 32 - 1) f.4 >>+ λ len. made a.0 b.0 target target_offset len) route b.2 in
    let d = bind_some (number_up_to (2 ^ 32 - 1) f.3) (λ target_offset. number_up_to (2 ^ 32 - 1) f.4 >>+ λ len. made a.0 b.0 c.0 target_offset len) route c.2 in
    let x = bind_some (number_up_to (2 ^ 32 - 1) f.4) (λ len. made a.0 b.0 c.0 d.0 len) route d.2 in
    let p = number_word a.0 f.0 a.1 in
    let q = number_word b.0 f.1 b.1 in
    let r = number_word c.0 f.2 c.1 in
    let s = number_word d.0 f.3 d.1 in
    let t = number_word x.0 f.4 x.1 in
    let whole : Route = record { source = a.0; source_offset = b.0; target = c.0; target_offset = d.0; len = x.0 } in
    subst (λ (y : Route). ((f.0 ∷ f.1 ∷ f.2 ∷ f.3 ∷ f.4 ∷ []) ≡ route_pieces y) × RouteFits y) (some_is whole route x.2)
    (same_five _ _ _ _ _ _ _ _ _ _ p.0 q.0 r.0 s.0 t.0, (p.1, q.1, r.1, s.1, t.1))

fill_takes : (at : Position) (pieces : List (List ℕ)) (packet : Packet) → fill_at at pieces ≡ Ok packet → Pieces (codes "fill") pieces packet
unfolding fill_at
fill_takes at pieces packet e =
    let a = bind_ok (or_fault (four_of pieces) (fault_at at what.Word)) (λ fields. or_fault (fill_of fields) (fault_at at what.Number)) packet e in
    let f = four_takes pieces a.0 (or_fault_ok (four_of pieces) (fault_at at what.Word) a.0 a.1) in
    let g = fill_of_takes a.0 packet (or_fault_ok (fill_of a.0) (fault_at at what.Number) packet a.2) in
    (ap (λ (words : List (List ℕ)). codes "fill" ∷ words) f ∙ g.0, g.1)

route_takes : (at : Position) (pieces : List (List ℕ)) (route : Route) → route_at at pieces ≡ Ok route → (pieces ≡ route_pieces route) × RouteFits route
unfolding route_at
route_takes at pieces route e =
    let a = bind_ok (or_fault (five_of pieces) (fault_at at what.Word)) (λ fields. or_fault (route_of fields) (fault_at at what.Number)) route e in
    let f = five_takes pieces a.0 (or_fault_ok (five_of pieces) (fault_at at what.Word) a.0 a.1) in
    let g = route_of_takes a.0 route (or_fault_ok (route_of a.0) (fault_at at what.Number) route a.2) in
    (f ∙ g.0, g.1)

copy_takes : (at : Position) (pieces : List (List ℕ)) (packet : Packet) → copy_at at pieces ≡ Ok packet → Pieces (codes "copy") pieces packet
copy_takes at pieces packet e =
    let a = bind_ok (route_at at pieces) (λ route. Ok (copy_of route)) packet e in
    let r = route_takes at pieces a.0 a.1 in
    subst (λ (x : Packet). Pieces (codes "copy") pieces x) (ok_is (copy_of a.0) packet a.2) (ap (λ (p : List (List ℕ)). codes "copy" ∷ p) r.0, r.1)

add_takes : (at : Position) (pieces : List (List ℕ)) (packet : Packet) → add_at at pieces ≡ Ok packet → Pieces (codes "add") pieces packet
add_takes at pieces packet e =
    let a = bind_ok (route_at at pieces) (λ route. Ok (add_of route)) packet e in
    let r = route_takes at pieces a.0 a.1 in
    subst (λ (x : Packet). Pieces (codes "add") pieces x) (ok_is (add_of a.0) packet a.2) (ap (λ (p : List (List ℕ)). codes "add" ∷ p) r.0, r.1)

stall_takes : (at : Position) (pieces : List (List ℕ)) (packet : Packet) → stall_at at pieces ≡ Ok packet → Pieces (codes "stall") pieces packet
unfolding stall_at
stall_takes at pieces packet e =
    let a = bind_ok (or_fault (one_of pieces) (fault_at at what.Word)) (λ field. or_fault (number_up_to 65535 field) (fault_at at what.Number) >>= λ resets. Ok (Stall resets)) packet e in
    let b = bind_ok (or_fault (number_up_to 65535 a.0) (fault_at at what.Number)) (λ resets. Ok (Stall resets)) packet a.2 in
    let f = one_takes pieces a.0 (or_fault_ok (one_of pieces) (fault_at at what.Word) a.0 a.1) in
    let some = or_fault_ok (number_up_to 65535 a.0) (fault_at at what.Number) b.0 b.1 in
    let small : b.0 ≤ 65535 = number_small 65535 b.0 a.0 some in
    let word : decimal b.0 ≡ a.0 = number_takes 65535 b.0 a.0 (omega arith) some in
    subst (λ (x : Packet). Pieces (codes "stall") pieces x) (ok_is (Stall b.0) packet b.2) (ap (λ (words : List (List ℕ)). codes "stall" ∷ words) (f ∙ ap (λ (w : List ℕ). w ∷ []) (sym word)), small)

pub same_name : (name text : List ℕ) → bytes_eq name text ≡ true → name ≡ text
same_name name text is = (bytes_eq-Decides name text).0 is

-- a name that is this one, or another
pub choose : {A : Type 0} (b : Bool) (x y z : A) → cond b x y ≡ z → ((b ≡ true) × (x ≡ z)) ⊎ (y ≡ z)
choose true x y z e = inl (refl, e)
choose false x y z e = inr e

named_takes : (at : Position) (name : List ℕ) (pieces : List (List ℕ)) (packet : Packet) → packet_named at name pieces ≡ Ok packet → Pieces name pieces packet
named_takes at name pieces packet e =
    elim (choose (bytes_eq name (codes "fill")) (fill_at at pieces) _ (Ok packet) e) [
      | inl is ↦ rw (same_name name (codes "fill") is.0) (fill_takes at pieces packet is.1)
      | inr e1 ↦ elim (choose (bytes_eq name (codes "copy")) (copy_at at pieces) _ (Ok packet) e1) [
        | inl is ↦ rw (same_name name (codes "copy") is.0) (copy_takes at pieces packet is.1)
        | inr e2 ↦ elim (choose (bytes_eq name (codes "add")) (add_at at pieces) _ (Ok packet) e2) [
          | inl is ↦ rw (same_name name (codes "add") is.0) (add_takes at pieces packet is.1)
          | inr e3 ↦ elim (choose (bytes_eq name (codes "stall")) (stall_at at pieces) (Err (fault_at at what.Word)) (Ok packet) e3) [
            | inl is ↦ rw (same_name name (codes "stall") is.0) (stall_takes at pieces packet is.1)
            | inr e4 ↦ absurd (cc)
          ]
        ]
      ]
    ]

from_takes : (at : Position) (parts : List (List ℕ)) (packet : Packet) → packet_from at parts ≡ Ok packet → (parts ≡ packet_pieces packet) × PacketFits packet
unfolding packet_from
from_takes at [] packet e = absurd (cc)
from_takes at (name ∷ pieces) packet e = named_takes at name pieces packet e

-- a word that is read as a packet is the packet's word
pub packet_takes : (at : Position) (word : List ℕ) (packet : Packet) → packet_at at word ≡ Ok packet → (word ≡ packet_word packet) × PacketFits packet
packet_takes at word packet e =
    let f = from_takes at (parts_of 58 word) packet e in
    (sym (join_with_byte-slice_split 58 word) ∙ ap (join_with_byte 58) f.0, f.1)

decimals_no_colon : (n : ℕ) → IsNumber n → list_all is_no_colon (decimal n) ≡ true
decimals_no_colon n small = decimal_no_colon n (omega arith)

pieces_no_colon : (packet : Packet) → PacketFits packet → AllByRecursion (λ word. list_all is_no_colon word ≡ true) (packet_pieces packet)
pieces_no_colon (Fill buffer offset len byte) fits =
    (refl, (decimals_no_colon buffer fits.0, (decimals_no_colon offset fits.1, (decimals_no_colon len fits.2, (byte_no_colon byte fits.3, tt)))))
pieces_no_colon (Copy a b c d x) fits =
    (refl, (decimals_no_colon a fits.0, (decimals_no_colon b fits.1, (decimals_no_colon c fits.2, (decimals_no_colon d fits.3, (decimals_no_colon x fits.4, tt))))))
pieces_no_colon (Add a b c d x) fits =
    (refl, (decimals_no_colon a fits.0, (decimals_no_colon b fits.1, (decimals_no_colon c fits.2, (decimals_no_colon d fits.3, (decimals_no_colon x fits.4, tt))))))
pieces_no_colon (Stall resets) fits = (refl, (decimal_no_colon resets (omega arith), tt))

from_again : (at : Position) (packet : Packet) → PacketFits packet → packet_from at (packet_pieces packet) ≡ Ok packet
unfolding packet_from fill_at route_at stall_at four_of five_of fill_of route_of
from_again at (Fill buffer offset len byte) fits =
    rw (number_again buffer fits.0, number_again offset fits.1, number_again len fits.2, byte_written byte fits.3) refl
from_again at (Copy a b c d x) fits =
    rw (number_again a fits.0, number_again b fits.1, number_again c fits.2, number_again d fits.3, number_again x fits.4) refl
from_again at (Add a b c d x) fits =
    rw (number_again a fits.0, number_again b fits.1, number_again c fits.2, number_again d fits.3, number_again x fits.4) refl
from_again at (Stall resets) fits = rw (number_written 65535 resets (omega arith) fits) refl

pieces_cut : (name : List ℕ) (pieces : List (List ℕ)) → AllByRecursion (λ word. list_all is_no_colon word ≡ true) (name ∷ pieces)
    → parts_of 58 (join_with_byte 58 (name ∷ pieces)) ≡ name ∷ pieces
pieces_cut name pieces all = joined_cut 58 name pieces (all_free is_no_colon 58 refl (name ∷ pieces) all)

packet_cut : (packet : Packet) → PacketFits packet → parts_of 58 (packet_word packet) ≡ packet_pieces packet
packet_cut (Fill buffer offset len byte) fits = pieces_cut _ _ (pieces_no_colon (Fill buffer offset len byte) fits)
packet_cut (Copy a b c d x) fits = pieces_cut _ _ (pieces_no_colon (Copy a b c d x) fits)
packet_cut (Add a b c d x) fits = pieces_cut _ _ (pieces_no_colon (Add a b c d x) fits)
packet_cut (Stall resets) fits = pieces_cut _ _ (pieces_no_colon (Stall resets) fits)

-- a packet's word is read as the packet
pub packet_again : (at : Position) (packet : Packet) → PacketFits packet → packet_at at (packet_word packet) ≡ Ok packet
packet_again at packet fits = ap (packet_from at) (packet_cut packet fits) ∙ from_again at packet fits
