-- Jobs are read as they are written, and as nothing else.
use Rattle.std.proofs.Common.{◌≡◌, ℕ, ◌+◌, ◌-◌, ◌^◌, ◌==◌, Bool, true, false, not, ◌||◌, cond, List, [], ◌∷◌, ◌++◌, append_assoc, length, map, Some, None, Option, Result, Ok, Err, refl, sym, ap, subst, ◌∙◌, arith, inl, inr}
use Rattle.std.specs.List.{AllByRecursion, list_any, list_all}
use Rattle.std.specs.Fmt.{decimal}
use Rattle.std.proofs.lemmas.Bool.{and_parts, eqb-true}
use Rattle.std.proofs.lemmas.List.{append-nil}
use Rattle.drm_job.specs.declared.Draft.{Draft}
use Rattle.drm_packet.specs.declared.Packet.{Packet}
use Rattle.drm_packet.specs.declared.Packet.TheVariants.{Fill, Copy, Add, Stall}
use Rattle.drm_types.specs.Firsts.{is_nil}
use Rattle.drm_types.specs.declared.access.Access.{Access}
use Rattle.drm_types.specs.declared.access.Access.TheVariants as access
use Rattle.drm_text.specs.declared.fault.Fault.{Fault}
use Rattle.drm_text.specs.declared.fault.Position.{Position}
use Rattle.drm_text.specs.declared.fault.TextFault.TheVariants as what
use Rattle.drm_text.specs.Number.{number_up_to}
use Rattle.drm_text.specs.Reading.{◌>>=◌, or_fault, fault_at}
use Rattle.drm_text.specs.Words.{number_at}
use Rattle.drm_text.proofs.Spelled.{is_no_colon, decimal_no_colon}
use Rattle.drm_text.proofs.WordReaders.{bind_ok, ok_is, or_fault_ok, ReadsLine, numbers_read}
use Rattle.drm_parse.specs.declared.job.Kind.{Kind}
use Rattle.drm_parse.specs.declared.job.Kind.TheVariants as kind
use Rattle.drm_parse.specs.Grammar.{IsNumber, declaration_word, fence_word, packet_word, PacketFits, item_words, job_words, ItemsFit, JobFits}
use Rattle.drm_parse.specs.Job.{kind_by_first, kind_of, packet_at, is_late, tail_at, with_item, with_word, with_words, job_at}
use Rattle.drm_parse.proofs.PacketReaders.{some_is, number_word, number_again, choose, packet_takes, packet_again}

-- ---- one word

pub not_true : (b : Bool) → not b ≡ true → b ≡ false
not_true true e = absurd (cc)
not_true false e = refl

has_no_colon : (word : List ℕ) → list_all is_no_colon word ≡ true → list_any (λ b. b == 58) word ≡ false
has_no_colon [] is = refl
has_no_colon (byte ∷ word) is =
    let parts = and_parts _ _ is in
    let first : (byte == 58) ≡ false = not_true (byte == 58) parts.0 in
    rw (first, has_no_colon word parts.1) refl

number_no_colon : (n : ℕ) → IsNumber n → list_any (λ b. b == 58) (decimal n) ≡ false
number_no_colon n small = has_no_colon (decimal n) (decimal_no_colon n (omega arith))

abbrev Begins : ℕ → List ℕ → Type 0
Begins first word = (tail : List ℕ) × (word ≡ first ∷ tail)

abbrev IsOfKind : Kind → List ℕ → Type 0
IsOfKind (kind.Declared access.Read) word = Begins 114 word
IsOfKind (kind.Declared access.Write) word = Begins 119 word
IsOfKind (kind.Declared access.Hold) word = Begins 104 word
IsOfKind (kind.Declared access.Move) word = Begins 109 word
IsOfKind kind.After word = Begins 97 word
IsOfKind kind.Packet word = Unit {0}

first_byte : (byte first : ℕ) (rest : List ℕ) → (byte == first) ≡ true → Begins first (byte ∷ rest)
first_byte byte first rest is = (rest, ap (λ (b : ℕ). b ∷ rest) (eqb-true byte first is))

kind_by_takes : (word : List ℕ) (k : Kind) → kind_by_first word ≡ Some k → IsOfKind k word
kind_by_takes [] k e = absurd (cc)
kind_by_takes (byte ∷ rest) k e =
    elim (choose (byte == 114) (Some (kind.Declared access.Read)) _ (Some k) e) [
      | inl is ↦ subst (λ (x : Kind). IsOfKind x (byte ∷ rest)) (some_is (kind.Declared access.Read) k is.1) (first_byte byte 114 rest is.0)
      | inr e1 ↦ elim (choose (byte == 119) (Some (kind.Declared access.Write)) _ (Some k) e1) [
        | inl is ↦ subst (λ (x : Kind). IsOfKind x (byte ∷ rest)) (some_is (kind.Declared access.Write) k is.1) (first_byte byte 119 rest is.0)
        | inr e2 ↦ elim (choose (byte == 104) (Some (kind.Declared access.Hold)) _ (Some k) e2) [
          | inl is ↦ subst (λ (x : Kind). IsOfKind x (byte ∷ rest)) (some_is (kind.Declared access.Hold) k is.1) (first_byte byte 104 rest is.0)
          | inr e3 ↦ elim (choose (byte == 109) (Some (kind.Declared access.Move)) _ (Some k) e3) [
            | inl is ↦ subst (λ (x : Kind). IsOfKind x (byte ∷ rest)) (some_is (kind.Declared access.Move) k is.1) (first_byte byte 109 rest is.0)
            | inr e4 ↦ elim (choose (byte == 97) (Some kind.After) None (Some k) e4) [
              | inl is ↦ subst (λ (x : Kind). IsOfKind x (byte ∷ rest)) (some_is kind.After k is.1) (first_byte byte 97 rest is.0)
              | inr e5 ↦ absurd (cc)
            ]
          ]
        ]
      ]
    ]

kind_takes : (word : List ℕ) (k : Kind) → kind_of word ≡ Some k → IsOfKind k word
kind_takes word k e =
    elim (choose (list_any (λ b. b == 58) word) (Some kind.Packet) (kind_by_first word) (Some k) e) [
      | inl is ↦ subst (λ (x : Kind). IsOfKind x word) (some_is kind.Packet k is.1) tt
      | inr e1 ↦ kind_by_takes word k e1
    ]

-- what a word adds to a job
data Adds (draft : Draft) (word : List ℕ) (next : Draft) : Type 0 where
  declares : (d : ℕ × Access) → word ≡ declaration_word d → IsNumber d.0 → next ≡ record draft { declared = draft.declared ++ d ∷ [] }
      → is_nil draft.after ≡ true → is_nil draft.packets ≡ true → Adds draft word next
  waits : (fence : ℕ) → word ≡ fence_word fence → IsNumber fence → next ≡ record draft { after = draft.after ++ fence ∷ [] }
      → is_nil draft.packets ≡ true → Adds draft word next
  works : (packet : Packet) → word ≡ packet_word packet → PacketFits packet → next ≡ record draft { packets = draft.packets ++ packet ∷ [] }
      → Adds draft word next

tail_takes : (at : Position) (first : ℕ) (tail : List ℕ) (n : ℕ) → tail_at at (first ∷ tail) ≡ Ok n → (tail ≡ decimal n) × IsNumber n
tail_takes at first tail n e = number_word n tail (or_fault_ok (number_up_to (2 ^ 32 - 1) tail) (fault_at at what.Number) n e)

none_begun : (a b : Bool) → (not a || not b) ≡ false → (a ≡ true) × (b ≡ true)
none_begun true true e = (refl, refl)
none_begun true false e = absurd (cc)
none_begun false b e = absurd (cc)

not_false : (b : Bool) → not b ≡ false → b ≡ true
not_false true e = refl
not_false false e = absurd (cc)

declares_takes : (draft : Draft) (at : Position) (word : List ℕ) (next : Draft) (first : ℕ) (a : Access) → Begins first word
    → ((n : ℕ) → declaration_word (n, a) ≡ first ∷ decimal n) → is_late draft (kind.Declared a) ≡ false → with_item draft at word (kind.Declared a) ≡ Ok next → Adds draft word next
declares_takes draft at word next first a begins spelled late e =
    let add = λ (n : ℕ). let d : Draft = record draft { declared = draft.declared ++ (n, a) ∷ [] } in d in
    let read = sym (ap (λ (w : List ℕ). tail_at at w >>= λ n. Ok (add n)) begins.1) ∙ e in
    let b = bind_ok (tail_at at (first ∷ begins.0)) (λ n. Ok (add n)) next read in
    let t = tail_takes at first begins.0 b.0 b.1 in
    let begun = none_begun (is_nil draft.after) (is_nil draft.packets) late in
    declares (b.0, a) (begins.1 ∙ ap (λ (w : List ℕ). first ∷ w) t.0 ∙ sym (spelled b.0)) t.1 (sym (ok_is (add b.0) next b.2)) begun.0 begun.1

waits_takes : (draft : Draft) (at : Position) (word : List ℕ) (next : Draft) → Begins 97 word → is_late draft kind.After ≡ false → with_item draft at word kind.After ≡ Ok next → Adds draft word next
waits_takes draft at word next begins late e =
    let add = λ (n : ℕ). let d : Draft = record draft { after = draft.after ++ n ∷ [] } in d in
    let read = sym (ap (λ (w : List ℕ). tail_at at w >>= λ n. Ok (add n)) begins.1) ∙ e in
    let b = bind_ok (tail_at at (97 ∷ begins.0)) (λ n. Ok (add n)) next read in
    let t = tail_takes at 97 begins.0 b.0 b.1 in
    waits b.0 (begins.1 ∙ ap (λ (w : List ℕ). 97 ∷ w) t.0) t.1 (sym (ok_is (add b.0) next b.2)) (not_false (is_nil draft.packets) late)

works_takes : (draft : Draft) (at : Position) (word : List ℕ) (next : Draft) → with_item draft at word kind.Packet ≡ Ok next → Adds draft word next
works_takes draft at word next e =
    let add = λ (p : Packet). let d : Draft = record draft { packets = draft.packets ++ p ∷ [] } in d in
    let b = bind_ok (packet_at at word) (λ p. Ok (add p)) next e in
    let t = packet_takes at word b.0 b.1 in
    works b.0 t.0 t.1 (sym (ok_is (add b.0) next b.2))

item_takes : (draft : Draft) (at : Position) (word : List ℕ) (next : Draft) (k : Kind) → IsOfKind k word → is_late draft k ≡ false → with_item draft at word k ≡ Ok next → Adds draft word next
item_takes draft at word next (kind.Declared access.Read) is late e = declares_takes draft at word next 114 access.Read is (λ n. refl) late e
item_takes draft at word next (kind.Declared access.Write) is late e = declares_takes draft at word next 119 access.Write is (λ n. refl) late e
item_takes draft at word next (kind.Declared access.Hold) is late e = declares_takes draft at word next 104 access.Hold is (λ n. refl) late e
item_takes draft at word next (kind.Declared access.Move) is late e = declares_takes draft at word next 109 access.Move is (λ n. refl) late e
item_takes draft at word next kind.After is late e = waits_takes draft at word next is late e
item_takes draft at word next kind.Packet is late e = works_takes draft at word next e

pub in_time : {A : Type 0} (late : Bool) (fault : Fault) (r : Result A Fault) (y : A) → cond late (Err fault) r ≡ Ok y → (late ≡ false) × (r ≡ Ok y)
in_time true fault r y e = absurd (cc)
in_time false fault r y e = (refl, e)

word_takes : (draft : Draft) (at : Position) (word : List ℕ) (next : Draft) → with_word draft at word ≡ Ok next → Adds draft word next
word_takes draft at word next e =
    let a = bind_ok (or_fault (kind_of word) (fault_at at what.Word)) (λ k. cond (is_late draft k) (Err (fault_at at what.Word)) (with_item draft at word k)) next e in
    let is = kind_takes word a.0 (or_fault_ok (kind_of word) (fault_at at what.Word) a.0 a.1) in
    let item = in_time (is_late draft a.0) (fault_at at what.Word) (with_item draft at word a.0) next a.2 in
    item_takes draft at word next a.0 is item.0 item.1

declares_again : (draft : Draft) (at : Position) (d : ℕ × Access) → IsNumber d.0 → is_nil draft.after ≡ true → is_nil draft.packets ≡ true
    → with_word draft at (declaration_word d) ≡ Ok (record draft { declared = draft.declared ++ d ∷ [] })
declares_again draft at (buffer, access.Read) small no_after no_packets =
    rw (number_no_colon buffer small, no_after, no_packets, number_again buffer small) refl
declares_again draft at (buffer, access.Write) small no_after no_packets =
    rw (number_no_colon buffer small, no_after, no_packets, number_again buffer small) refl
declares_again draft at (buffer, access.Hold) small no_after no_packets =
    rw (number_no_colon buffer small, no_after, no_packets, number_again buffer small) refl
declares_again draft at (buffer, access.Move) small no_after no_packets =
    rw (number_no_colon buffer small, no_after, no_packets, number_again buffer small) refl

waits_again : (draft : Draft) (at : Position) (fence : ℕ) → IsNumber fence → is_nil draft.packets ≡ true
    → with_word draft at (fence_word fence) ≡ Ok (record draft { after = draft.after ++ fence ∷ [] })
waits_again draft at fence small no_packets = rw (number_no_colon fence small, no_packets, number_again fence small) refl

packet_kind : (packet : Packet) → kind_of (packet_word packet) ≡ Some kind.Packet
packet_kind (Fill buffer offset len byte) = refl
packet_kind (Copy a b c d e) = refl
packet_kind (Add a b c d e) = refl
packet_kind (Stall resets) = refl

works_again : (draft : Draft) (at : Position) (packet : Packet) → PacketFits packet
    → with_word draft at (packet_word packet) ≡ Ok (record draft { packets = draft.packets ++ packet ∷ [] })
works_again draft at packet fits =
    ap (λ (o : Option Kind). or_fault o (fault_at at what.Word) >>= λ k. cond (is_late draft k) (Err (fault_at at what.Word)) (with_item draft at (packet_word packet) k)) (packet_kind packet)
    ∙ ap (λ (r : Result Packet Fault). r >>= λ p. Ok (record draft { packets = draft.packets ++ p ∷ [] })) (packet_again at packet fits)

-- ---- all words

abbrev with_items : Draft → List (ℕ × Access) → List ℕ → List Packet → Draft
with_items draft declared after packets =
    record draft { declared = draft.declared ++ declared; after = draft.after ++ after; packets = draft.packets ++ packets }

with_items-none : (draft : Draft) → with_items draft [] [] [] ≡ draft
with_items-none draft = rw (append-nil draft.declared, append-nil draft.after, append-nil draft.packets) refl

record Items (draft : Draft) (parts : List (List ℕ)) (d : Draft) : Type 0 where
  declared : List (ℕ × Access)
  after : List ℕ
  packets : List Packet
  words : parts ≡ item_words declared after packets
  fit : ItemsFit declared after packets
  adds : d ≡ with_items draft declared after packets
  before_after : is_nil draft.after ≡ false → declared ≡ []
  before_packets : is_nil draft.packets ≡ false → (declared ≡ []) × (after ≡ [])

more_is_some : {A : Type 0} (xs : List A) (x : A) → is_nil (xs ++ x ∷ []) ≡ false
more_is_some [] x = refl
more_is_some (y ∷ xs) x = refl

is_some : (b : Bool) {A : Type 0} → b ≡ true → b ≡ false → A
is_some b is other = absurd (let never : true ≡ false = sym is ∙ other in cc)

one_more : (draft next : Draft) (word : List ℕ) (rest : List (List ℕ)) (d : Draft) → Adds draft word next → Items next rest d → Items draft (word ∷ rest) d
one_more draft next word rest d (declares x is small makes no_after no_packets) items = record {
  declared = x ∷ items.declared;
  after = items.after;
  packets = items.packets;
  words = rw (is, items.words) refl;
  fit = ((small, items.fit.0), items.fit.1, items.fit.2);
  adds = items.adds ∙ ap (λ (y : Draft). with_items y items.declared items.after items.packets) makes ∙ rw (append_assoc draft.declared (x ∷ []) items.declared) refl;
  before_after = λ some. is_some (is_nil draft.after) no_after some;
  before_packets = λ some. is_some (is_nil draft.packets) no_packets some;
}
one_more draft next word rest d (waits fence is small makes no_packets) items =
    let begun : is_nil next.after ≡ false = ap (λ (y : Draft). is_nil y.after) makes ∙ more_is_some draft.after fence in
    let none = items.before_after begun in record {
      declared = [];
      after = fence ∷ items.after;
      packets = items.packets;
      words = rw is (ap (λ (r : List (List ℕ)). fence_word fence ∷ r) (items.words ∙ ap (λ (ds : List (ℕ × Access)). item_words ds items.after items.packets) none));
      fit = (tt, (small, items.fit.1), items.fit.2);
      adds = items.adds ∙ ap (λ (ds : List (ℕ × Access)). with_items next ds items.after items.packets) none
          ∙ ap (λ (y : Draft). with_items y [] items.after items.packets) makes ∙ rw (append_assoc draft.after (fence ∷ []) items.after) refl;
      before_after = λ some. refl;
      before_packets = λ some. is_some (is_nil draft.packets) no_packets some;
    }
one_more draft next word rest d (works packet is fits makes) items =
    let begun : is_nil next.packets ≡ false = ap (λ (y : Draft). is_nil y.packets) makes ∙ more_is_some draft.packets packet in
    let none = items.before_packets begun in record {
      declared = [];
      after = [];
      packets = packet ∷ items.packets;
      words = rw is (ap (λ (r : List (List ℕ)). packet_word packet ∷ r) (items.words ∙ ap (λ (ds : List (ℕ × Access)). item_words ds items.after items.packets) none.0
          ∙ ap (λ (fs : List ℕ). item_words [] fs items.packets) none.1));
      fit = (tt, tt, (fits, items.fit.2));
      adds = items.adds ∙ ap (λ (ds : List (ℕ × Access)). with_items next ds items.after items.packets) none.0 ∙ ap (λ (fs : List ℕ). with_items next [] fs items.packets) none.1
          ∙ ap (λ (y : Draft). with_items y [] [] items.packets) makes ∙ rw (append_assoc draft.packets (packet ∷ []) items.packets) refl;
      before_after = λ some. refl;
      before_packets = λ some. (refl, refl);
    }

words_take : (draft : Draft) (line at : ℕ) (parts : List (List ℕ)) (d : Draft) → with_words draft line at parts ≡ Ok d → Items draft parts d
words_take draft line at [] d e = record {
  declared = [];
  after = [];
  packets = [];
  words = refl;
  fit = (tt, tt, tt);
  adds = sym (with_items-none draft ∙ ok_is draft d e);
  before_after = λ some. refl;
  before_packets = λ some. (refl, refl);
}
words_take draft line at (word ∷ rest) d e =
    let spot : Position = record { line = line; column = at + 1 } in
    let a = bind_ok (with_word draft spot word) (λ next. with_words next line (at + length word + 1) rest) d e in
    one_more draft a.0 word rest d (word_takes draft spot word a.0 a.1) (words_take a.0 line (at + length word + 1) rest d a.2)

packets_again : (ps : List Packet) (draft : Draft) (line at : ℕ) → AllByRecursion PacketFits ps → with_words draft line at (map packet_word ps) ≡ Ok (with_items draft [] [] ps)
packets_again [] draft line at fit = ap (λ (d : Draft). Ok d) (sym (with_items-none draft))
packets_again (p ∷ ps) draft line at fit =
    let next : Draft = record draft { packets = draft.packets ++ p ∷ [] } in
    rw (works_again draft (record { line = line; column = at + 1 }) p fit.0)
    (packets_again ps next line (at + length (packet_word p) + 1) fit.1 ∙ rw (append_assoc draft.packets (p ∷ []) ps) refl)

fences_again : (fs : List ℕ) (ps : List Packet) (draft : Draft) (line at : ℕ) → is_nil draft.packets ≡ true → AllByRecursion IsNumber fs → AllByRecursion PacketFits ps
    → with_words draft line at (item_words [] fs ps) ≡ Ok (with_items draft [] fs ps)
fences_again [] ps draft line at no_packets fit fits = packets_again ps draft line at fits
fences_again (f ∷ fs) ps draft line at no_packets fit fits =
    let next : Draft = record draft { after = draft.after ++ f ∷ [] } in
    rw (waits_again draft (record { line = line; column = at + 1 }) f fit.0 no_packets)
    (fences_again fs ps next line (at + length (fence_word f) + 1) no_packets fit.1 fits ∙ rw (append_assoc draft.after (f ∷ []) fs) refl)

items_again : (ds : List (ℕ × Access)) (fs : List ℕ) (ps : List Packet) (draft : Draft) (line at : ℕ) → is_nil draft.after ≡ true → is_nil draft.packets ≡ true → ItemsFit ds fs ps
    → with_words draft line at (item_words ds fs ps) ≡ Ok (with_items draft ds fs ps)
items_again [] fs ps draft line at no_after no_packets fit = fences_again fs ps draft line at no_packets fit.1 fit.2
items_again (d ∷ ds) fs ps draft line at no_after no_packets fit =
    let next : Draft = record draft { declared = draft.declared ++ d ∷ [] } in
    rw (declares_again draft (record { line = line; column = at + 1 }) d fit.0.0 no_after no_packets)
    (items_again ds fs ps next line (at + length (declaration_word d) + 1) no_after no_packets (fit.0.1, fit.1, fit.2) ∙ rw (append_assoc draft.declared (d ∷ []) ds) refl)

abbrev no_items : ℕ → ℕ → Draft
no_items entity credits = record { entity = entity; credits = credits; declared = []; after = []; packets = [] }

-- jobs are read as they are written, and as nothing else
pub jobs_read : ReadsLine job_at job_words JobFits
unfolding job_at
jobs_read = record {
  takes = λ words x e.
      let a = bind_ok (number_at (2 ^ 32 - 1) words) (λ entity. number_at 65535 entity.1 >>= λ credits. with_words (no_items entity.0 credits.0) credits.1.line credits.1.rest.at credits.1.rest.parts) x e in
      let b = bind_ok (number_at 65535 a.0.1) (λ credits. with_words (no_items a.0.0 credits.0) credits.1.line credits.1.rest.at credits.1.rest.parts) x a.2 in
      let p = (numbers_read (2 ^ 32 - 1) (omega arith)).takes words a.0 a.1 in
      let q = (numbers_read 65535 (omega arith)).takes a.0.1 b.0 b.1 in
      let items = words_take (no_items a.0.0 b.0.0) b.0.1.line b.0.1.rest.at b.0.1.rest.parts x b.2 in
      subst (λ (y : Draft). (words.rest.parts ≡ job_words y) × JobFits y) (sym items.adds)
      (p.0 ∙ ap (λ (r : List (List ℕ)). decimal a.0.0 ∷ r) (q.0 ∙ ap (λ (r : List (List ℕ)). decimal b.0.0 ∷ r) items.words), (p.1, q.1, items.fit));
  again = λ words x is fits.
      let a = (numbers_read (2 ^ 32 - 1) (omega arith)).again words x.entity (decimal x.credits ∷ item_words x.declared x.after x.packets) is fits.0 in
      let b = (numbers_read 65535 (omega arith)).again a.0 x.credits (item_words x.declared x.after x.packets) a.2 fits.1 in
      rw (a.1, b.1, b.2) (items_again x.declared x.after x.packets (no_items x.entity x.credits) b.0.line b.0.rest.at refl refl fits.2);
}
