-- A word that begins as nothing that stands in a job is read as a packet, and is none.
use Rattle.std.proofs.Common.{◌≡◌, ℕ, ◌==◌, Bool, true, false, ◌||◌, cond, List, [], ◌∷◌, ◌++◌, Option, Some, None, Result, Ok, Err, refl, ap, ◌∙◌}
use Rattle.std.specs.List.{list_any, slice_split, onto_first}
use Rattle.std.specs.Str.{bytes_eq}
use Rattle.std.specs.Prelude.{codes, unwrap_or}
use Rattle.std.proofs.lemmas.List.Splits.{slice_split-cons_no}
use Rattle.drm_job.specs.declared.Draft.{Draft}
use Rattle.drm_packet.specs.declared.Packet.{Packet}
use Rattle.drm_text.specs.declared.fault.Fault.{Fault}
use Rattle.drm_text.specs.declared.fault.Position.{Position}
use Rattle.drm_text.specs.declared.fault.TextFault.TheVariants as what
use Rattle.drm_text.specs.Reading.{◌>>=◌, or_fault, fault_at}
use Rattle.drm_parse.specs.declared.job.Kind.{Kind}
use Rattle.drm_parse.specs.declared.job.Kind.TheVariants as kind
use Rattle.drm_parse.specs.Job.{kind_by_first, kind_read, packet_named, packet_from, packet_at, fill_at, route_at, stall_at, four_of, five_of, is_late, with_item, with_word}

-- a name without pieces is no packet
abbrev bad : Fault → Result Packet Fault
bad fault = Err fault

four_ways : (fault : Fault) (a b c d : Bool) → cond a (bad fault) (cond b (bad fault) (cond c (bad fault) (cond d (bad fault) (bad fault)))) ≡ bad fault
four_ways fault true b c d = refl
four_ways fault false true c d = refl
four_ways fault false false true d = refl
four_ways fault false false false true = refl
four_ways fault false false false false = refl

name_alone : (position : Position) (name : List ℕ) → packet_named position name [] ≡ Err (fault_at position what.Word)
unfolding fill_at route_at stall_at four_of five_of
name_alone position name =
    four_ways (fault_at position what.Word) (bytes_eq name (codes "fill")) (bytes_eq name (codes "copy")) (bytes_eq name (codes "add")) (bytes_eq name (codes "stall"))

-- a word without a colon is one piece
or_false : (a b : Bool) → (a || b) ≡ false → (a ≡ false) × (b ≡ false)
or_false true true e = absurd (cc)
or_false true false e = absurd (cc)
or_false false true e = absurd (cc)
or_false false false e = (refl, refl)

one_piece : (word : List ℕ) → list_any (λ b. b == 58) word ≡ false → slice_split (λ b. b == 58) word ≡ word ∷ []
one_piece [] none = refl
one_piece (byte ∷ word) none =
    let parts = or_false (byte == 58) (list_any (λ b. b == 58) word) none in
    slice_split-cons_no (λ b. b == 58) byte word parts.0 ∙ ap (λ (ps : List (List ℕ)). onto_first byte ps) (one_piece word parts.1)

no_packet : (position : Position) (word : List ℕ) → list_any (λ b. b == 58) word ≡ false → packet_at position word ≡ Err (fault_at position what.Word)
unfolding packet_from
no_packet position word none = ap (packet_from position) (one_piece word none) ∙ name_alone position word

none_read : (draft : Draft) (position : Position) (r : Result Packet Fault) → r ≡ Err (fault_at position what.Word)
    → Err (fault_at position what.Word) ≡ (r >>= λ packet. Ok (record draft { packets = draft.packets ++ packet ∷ [] }))
none_read draft position (Ok x) is = absurd (cc)
none_read draft position (Err e) is = cc

read_of : (draft : Draft) (position : Position) (word : List ℕ) (colon : Bool) (first : Option Kind) → (colon ≡ false → packet_at position word ≡ Err (fault_at position what.Word))
    → (or_fault (cond colon (Some kind.Packet) first) (fault_at position what.Word) >>= λ kind. cond (is_late draft kind) (Err (fault_at position what.Word)) (with_item draft position word kind))
    ≡ cond (is_late draft (unwrap_or (cond colon None first) kind.Packet)) (Err (fault_at position what.Word)) (with_item draft position word (unwrap_or (cond colon None first) kind.Packet))
read_of draft position word true first none = refl
read_of draft position word false (Some kind) none = refl
read_of draft position word false None none = none_read draft position (packet_at position word) (none refl)

pub word_is_read : (draft : Draft) (position : Position) (word : List ℕ)
    → with_word draft position word ≡ cond (is_late draft (kind_read word)) (Err (fault_at position what.Word)) (with_item draft position word (kind_read word))
word_is_read draft position word = read_of draft position word (list_any (λ b. b == 58) word) (kind_by_first word) (no_packet position word)
