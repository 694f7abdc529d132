-- Headers are read as they are written, and as nothing else.
use Rattle.std.proofs.Common.{◌≡◌, ℕ, ◌+◌, ◌-◌, ◌^◌, ◌<◌, ◌≤◌, Bool, true, false, cond, List, [], ◌∷◌, ◌++◌, append_assoc, length, map, Some, None, Option, Result, Ok, Err, refl, sym, ap, subst, ◌∙◌, arith, inl, inr}
use Rattle.std.specs.Prelude.{codes, replicate}
use Rattle.std.specs.Str.{bytes_eq}
use Rattle.std.specs.List.{AllByRecursion, join_with_byte, list_all}
use Rattle.std.specs.Fmt.{decimal}
use Rattle.std.proofs.lemmas.List.{append-nil}
use Rattle.drm_types.specs.Limits.{spec_fault}
use Rattle.drm_types.specs.declared.spec.BadSpec.{BadSpec}
use Rattle.drm_types.specs.declared.spec.DeviceSpec.{DeviceSpec}
use Rattle.drm_types.specs.declared.spec.EntitySpec.{EntitySpec}
use Rattle.drm_types.specs.declared.spec.Priority.{Priority}
use Rattle.drm_types.specs.declared.spec.Priority.TheVariants as priority
use Rattle.drm_types.specs.declared.spec.RingSpec.{RingSpec}
use Rattle.drm_text.specs.Cut.{Words, Left}
use Rattle.drm_text.specs.Hexadecimal.{last_bytes_at, text_of_bytes}
use Rattle.drm_text.specs.declared.fault.Fault.{Fault}
use Rattle.drm_text.specs.declared.fault.TextFault.TheVariants as what
use Rattle.drm_text.specs.declared.keywords.Keyword.{Keyword}
use Rattle.drm_text.specs.declared.keywords.Keyword.TheVariants as line
use Rattle.drm_text.specs.Keywords.{keyword_text}
use Rattle.drm_text.specs.Lines.{start_at, last_line, out_of_order}
use Rattle.drm_text.specs.Reading.{◌>>=◌, or_fault, or_bad_device}
use Rattle.drm_text.specs.Words.{word_at, number_at, last_number_at, end_at, fault_here}
use Rattle.drm_text.proofs.LineReaders.{AreWords, start_takes, start_again}
use Rattle.drm_text.proofs.Spelled.{is_graphic, decimal_graphic, bytes_graphic}
use Rattle.drm_text.proofs.WordReaders.{bind_ok, ok_is, or_fault_ok, ReadsLine, any_word, no_word, numbers_read, last_numbers_read, last_bytes_read}
use Rattle.drm_parse.specs.declared.header.Section.{Section}
use Rattle.drm_parse.specs.declared.header.Section.TheVariants as section
use Rattle.drm_parse.specs.Grammar.{IsNumber, Line, Each, SpellsBuffer, ring_words, RingFits, EntityFits, priority_word, rings_word, entity_words, opening, SpellsHeader}
use Rattle.drm_parse.specs.Header.{priority_of, section_of, follows, section_after, is_open, ring_at, rings_at, entity_at, checked_device, with_header_words, header_line, header_of, no_device, header_at}
use Rattle.drm_parse.proofs.RingLists.{ring_lists_read, rings_are_word}
use Rattle.drm_parse.proofs.PacketReaders.{some_is, bind_some, choose, same_name}

pub same_cons : {A : Type 0} (x y : A) (xs ys : List A) → x ≡ y → xs ≡ ys → (x ∷ xs) ≡ (y ∷ ys)
same_cons x y xs ys same rest = cc

-- ---- rings and entities

abbrev ring_fields : RingSpec → Line
ring_fields ring = decimal ring.credit_limit ∷ decimal ring.timeout ∷ decimal ring.hang_limit ∷ []

same_three : (a b c x y z : List ℕ) (p q r : List (List ℕ)) → p ≡ a ∷ q → q ≡ b ∷ r → r ≡ c ∷ [] → p ≡ a ∷ b ∷ c ∷ []
same_three a b c x y z p q r e f g = cc

abbrev the_ring : ℕ → ℕ → ℕ → RingSpec
the_ring credit_limit timeout hang_limit = record { credit_limit = credit_limit; timeout = timeout; hang_limit = hang_limit }

rings_read : ReadsLine ring_at ring_fields RingFits
unfolding ring_at
rings_read = record {
  takes = λ words x e.
      let a = bind_ok (number_at 65535 words) (λ a. number_at (2 ^ 32 - 1) a.1 >>= λ b. last_number_at (2 ^ 32 - 1) b.1 >>= λ c. Ok (the_ring a.0 b.0 c)) x e in
      let b = bind_ok (number_at (2 ^ 32 - 1) a.0.1) (λ b. last_number_at (2 ^ 32 - 1) b.1 >>= λ c. Ok (the_ring a.0.0 b.0 c)) x a.2 in
      let c = bind_ok (last_number_at (2 ^ 32 - 1) b.0.1) (λ c. Ok (the_ring a.0.0 b.0.0 c)) x b.2 in
      let p = (numbers_read 65535 (omega arith)).takes words a.0 a.1 in
      let q = (numbers_read (2 ^ 32 - 1) (omega arith)).takes a.0.1 b.0 b.1 in
      let r = (last_numbers_read (2 ^ 32 - 1) (omega arith)).takes b.0.1 c.0 c.1 in
      subst (λ (y : RingSpec). (words.rest.parts ≡ ring_fields y) × RingFits y) (ok_is (the_ring a.0.0 b.0.0 c.0) x c.2)
      (same_three _ _ _ [] [] [] _ _ _ p.0 q.0 r.0, (p.1, q.1, r.1));
  again = λ words x is fits.
      let a = (numbers_read 65535 (omega arith)).again words x.credit_limit (decimal x.timeout ∷ decimal x.hang_limit ∷ []) is fits.0 in
      let b = (numbers_read (2 ^ 32 - 1) (omega arith)).again a.0 x.timeout (decimal x.hang_limit ∷ []) a.2 fits.1 in
      rw (a.1, b.1, (last_numbers_read (2 ^ 32 - 1) (omega arith)).again b.0 x.hang_limit b.2 fits.2) refl;
}

priority_takes : (word : List ℕ) (p : Priority) → priority_of word ≡ Some p → word ≡ priority_word p
priority_takes word p e =
    elim (choose (bytes_eq word (codes "kernel")) (Some priority.Kernel) _ (Some p) e) [
      | inl is ↦ same_name word (codes "kernel") is.0 ∙ ap priority_word (some_is priority.Kernel p is.1)
      | inr e1 ↦ elim (choose (bytes_eq word (codes "high")) (Some priority.High) _ (Some p) e1) [
        | inl is ↦ same_name word (codes "high") is.0 ∙ ap priority_word (some_is priority.High p is.1)
        | inr e2 ↦ elim (choose (bytes_eq word (codes "normal")) (Some priority.Normal) _ (Some p) e2) [
          | inl is ↦ same_name word (codes "normal") is.0 ∙ ap priority_word (some_is priority.Normal p is.1)
          | inr e3 ↦ elim (choose (bytes_eq word (codes "low")) (Some priority.Low) None (Some p) e3) [
            | inl is ↦ same_name word (codes "low") is.0 ∙ ap priority_word (some_is priority.Low p is.1)
            | inr e4 ↦ absurd (cc)
          ]
        ]
      ]
    ]

priority_again : (p : Priority) → priority_of (priority_word p) ≡ Some p
priority_again priority.Kernel = refl
priority_again priority.High = refl
priority_again priority.Normal = refl
priority_again priority.Low = refl

pub priority_is_word : (p : Priority) → (0 < length (priority_word p)) × (list_all is_graphic (priority_word p) ≡ true)
priority_is_word priority.Kernel = (omega arith, refl)
priority_is_word priority.High = (omega arith, refl)
priority_is_word priority.Normal = (omega arith, refl)
priority_is_word priority.Low = (omega arith, refl)

abbrev entity_fields : EntitySpec → Line
entity_fields entity = rings_word entity.rings ∷ priority_word entity.priority ∷ []

same_two : (a b w : List ℕ) (p q r : List (List ℕ)) → p ≡ a ∷ q → q ≡ w ∷ r → w ≡ b → r ≡ [] → p ≡ a ∷ b ∷ []
same_two a b w p q r e f g h = cc

abbrev the_entity : List ℕ → Priority → EntitySpec
the_entity rings p = record { rings = rings; priority = p }

entities_read : ReadsLine entity_at entity_fields EntityFits
unfolding entity_at
entities_read = record {
  takes = λ words x e.
      let a = bind_ok (rings_at words) (λ rings. word_at rings.1 >>= λ word. or_fault (priority_of word.0) (fault_here rings.1 what.Word) >>= λ p. end_at word.1 >>= λ _. Ok (the_entity rings.0 p)) x e in
      let b = bind_ok (word_at a.0.1) (λ word. or_fault (priority_of word.0) (fault_here a.0.1 what.Word) >>= λ p. end_at word.1 >>= λ _. Ok (the_entity a.0.0 p)) x a.2 in
      let c = bind_ok (or_fault (priority_of b.0.0) (fault_here a.0.1 what.Word)) (λ p. end_at b.0.1 >>= λ _. Ok (the_entity a.0.0 p)) x b.2 in
      let d = bind_ok (end_at b.0.1) (λ _. Ok (the_entity a.0.0 c.0)) x c.2 in
      let p = ring_lists_read.takes words a.0 a.1 in
      let q = any_word.takes a.0.1 b.0 b.1 in
      let r = priority_takes b.0.0 c.0 (or_fault_ok (priority_of b.0.0) (fault_here a.0.1 what.Word) c.0 c.1) in
      let s = no_word.takes b.0.1 d.0 d.1 in
      subst (λ (y : EntitySpec). (words.rest.parts ≡ entity_fields y) × EntityFits y) (ok_is (the_entity a.0.0 c.0) x d.2)
      (same_two _ _ _ _ _ _ p.0 q.0 r s.0, p.1);
  again = λ words x is fits.
      let a = ring_lists_read.again words x.rings (priority_word x.priority ∷ []) is fits in
      let b = any_word.again a.0 (priority_word x.priority) [] a.2 (priority_is_word x.priority).0 in
      rw (a.1, b.1, priority_again x.priority, no_word.again b.0 tt b.2 tt) refl;
}

-- ---- one line

-- what a line adds to the description of a device
data Describes (spec : DeviceSpec) (last : Section) (words : Line) (next : DeviceSpec) (now : Section) : Type 0 where
  a_buffer : (bytes : List ℕ) → SpellsBuffer words bytes → next ≡ record spec { buffers = spec.buffers ++ bytes ∷ [] } → now ≡ section.Buffers
      → follows last section.Buffers ≡ true → Describes spec last words next now
  a_ring : (ring : RingSpec) → words ≡ ring_words ring → RingFits ring → next ≡ record spec { rings = spec.rings ++ ring ∷ [] } → now ≡ section.Rings
      → follows last section.Rings ≡ true → Describes spec last words next now
  an_entity : (entity : EntitySpec) → words ≡ entity_words entity → EntityFits entity → next ≡ record spec { entities = spec.entities ++ entity ∷ [] } → now ≡ section.Entities
      → follows last section.Entities ≡ true → Describes spec last words next now
  the_limit : (max_jobs : ℕ) → words ≡ codes "jobs" ∷ decimal max_jobs ∷ [] → IsNumber max_jobs → next ≡ record spec { max_jobs = max_jobs } → now ≡ section.Limit
      → follows last section.Limit ≡ true → Describes spec last words next now
  the_end : words ≡ codes "go" ∷ [] → next ≡ spec → now ≡ section.Open → follows last section.Open ≡ true → Describes spec last words next now

test_some : {A : Type 0} (b : Bool) (x y : A) → cond b (Some x) None ≡ Some y → (b ≡ true) × (x ≡ y)
test_some true x y e = (refl, some_is x y e)
test_some false x y e = absurd (cc)

section_takes : (last : Section) (keyword : Keyword) (now : Section) → section_after last keyword ≡ Some now → (section_of keyword ≡ Some now) × (follows last now ≡ true)
section_takes last keyword now e =
    let a = bind_some (section_of keyword) (λ next. cond (follows last next) (Some next) None) now e in
    let t = test_some (follows last a.0) a.0 now a.2 in
    (a.1 ∙ ap (λ (s : Section). Some s) t.1, subst (λ (s : Section). follows last s ≡ true) t.1 t.0)

-- the section of the line, and that it may stand here
section_is : (last now expected : Section) → Some expected ≡ Some now → follows last now ≡ true → (now ≡ expected) × (follows last expected ≡ true)
section_is last now expected e allowed =
    let same : expected ≡ now = some_is expected now e in
    (sym same, subst (λ (s : Section). follows last s ≡ true) (sym same) allowed)

words_take : (spec : DeviceSpec) (last : Section) (keyword : Keyword) (words : Words) (next : DeviceSpec) (now : Section) → section_of keyword ≡ Some now → follows last now ≡ true
    → with_header_words spec keyword words ≡ Ok next → Describes spec last (keyword_text keyword ∷ words.rest.parts) next now
words_take spec last line.Buffer words next now is allowed e =
    let add = λ (bytes : List ℕ). let d : DeviceSpec = record spec { buffers = spec.buffers ++ bytes ∷ [] } in d in
    let a = bind_ok (last_bytes_at words) (λ bytes. Ok (add bytes)) next e in
    let t = last_bytes_read.takes words a.0 a.1 in
    let s = section_is last now section.Buffers is allowed in
    a_buffer a.0 (inl (ap (λ (r : Line). codes "buffer" ∷ r) t.0, t.1)) (sym (ok_is (add a.0) next a.2)) s.0 s.1
words_take spec last line.Zero words next now is allowed e =
    let add = λ (size : ℕ). let d : DeviceSpec = record spec { buffers = spec.buffers ++ replicate size 0 ∷ [] } in d in
    let a = bind_ok (last_number_at 65535 words) (λ size. Ok (add size)) next e in
    let t = (last_numbers_read 65535 (omega arith)).takes words a.0 a.1 in
    let s = section_is last now section.Buffers is allowed in
    a_buffer (replicate a.0 0) (inr (a.0, ap (λ (r : Line). codes "zero" ∷ r) t.0, t.1, refl)) (sym (ok_is (add a.0) next a.2)) s.0 s.1
words_take spec last line.Ring words next now is allowed e =
    let add = λ (ring : RingSpec). let d : DeviceSpec = record spec { rings = spec.rings ++ ring ∷ [] } in d in
    let a = bind_ok (ring_at words) (λ ring. Ok (add ring)) next e in
    let t = rings_read.takes words a.0 a.1 in
    let s = section_is last now section.Rings is allowed in
    a_ring a.0 (ap (λ (r : Line). codes "ring" ∷ r) t.0) t.1 (sym (ok_is (add a.0) next a.2)) s.0 s.1
words_take spec last line.Entity words next now is allowed e =
    let add = λ (entity : EntitySpec). let d : DeviceSpec = record spec { entities = spec.entities ++ entity ∷ [] } in d in
    let a = bind_ok (entity_at words) (λ entity. Ok (add entity)) next e in
    let t = entities_read.takes words a.0 a.1 in
    let s = section_is last now section.Entities is allowed in
    an_entity a.0 (ap (λ (r : Line). codes "entity" ∷ r) t.0) t.1 (sym (ok_is (add a.0) next a.2)) s.0 s.1
words_take spec last line.Jobs words next now is allowed e =
    let add = λ (n : ℕ). let d : DeviceSpec = record spec { max_jobs = n } in d in
    let a = bind_ok (last_number_at (2 ^ 32 - 1) words) (λ n. Ok (add n)) next e in
    let t = (last_numbers_read (2 ^ 32 - 1) (omega arith)).takes words a.0 a.1 in
    let s = section_is last now section.Limit is allowed in
    the_limit a.0 (ap (λ (r : Line). codes "jobs" ∷ r) t.0) t.1 (sym (ok_is (add a.0) next a.2)) s.0 s.1
words_take spec last line.Go words next now is allowed e =
    let a = bind_ok (end_at words) (λ _. Ok spec) next e in
    let t = no_word.takes words a.0 a.1 in
    let s = section_is last now section.Open is allowed in
    the_end (ap (λ (r : Line). codes "go" ∷ r) t.0) (sym (ok_is spec next a.2)) s.0 s.1
words_take spec last line.Job words next now is allowed e = absurd (cc)
words_take spec last line.Final words next now is allowed e = absurd (cc)
words_take spec last (line.Command c) words next now is allowed e = absurd (cc)

line_takes : (spec : DeviceSpec) (last : Section) (n : ℕ) (bytes : List ℕ) (x : DeviceSpec × Section) → header_line spec last n bytes ≡ Ok x
    → (words : Line) × (bytes ≡ join_with_byte 32 words) × Describes spec last words x.0 x.1
unfolding header_line
line_takes spec last n bytes x e =
    let a = bind_ok (start_at n bytes) (λ start. or_fault (section_after last start.0) (out_of_order n) >>= λ s. with_header_words spec start.0 start.1 >>= λ more. Ok (more, s)) x e in
    let b = bind_ok (or_fault (section_after last a.0.0) (out_of_order n)) (λ s. with_header_words spec a.0.0 a.0.1 >>= λ more. Ok (more, s)) x a.2 in
    let c = bind_ok (with_header_words spec a.0.0 a.0.1) (λ more. Ok (more, b.0)) x b.2 in
    let s = section_takes last a.0.0 b.0 (or_fault_ok (section_after last a.0.0) (out_of_order n) b.0 b.1) in
    let words = keyword_text a.0.0 ∷ a.0.1.rest.parts in (
      words,
      start_takes n bytes a.0 a.1,
      subst (λ (y : DeviceSpec × Section). Describes spec last words y.0 y.1) (ok_is (c.0, b.0) x c.2) (words_take spec last a.0.0 a.0.1 c.0 b.0 s.0 s.1 c.1),
    )

-- ---- all lines up to `go`

abbrev with_parts : DeviceSpec → List (List ℕ) → List RingSpec → List EntitySpec → ℕ → DeviceSpec
with_parts spec buffers rings entities max_jobs =
    record { buffers = spec.buffers ++ buffers; rings = spec.rings ++ rings; entities = spec.entities ++ entities; max_jobs = max_jobs }

-- the lines that end a header behind this section
abbrev ending : Section → ℕ → List Line
ending section.Limit max_jobs = (codes "go" ∷ []) ∷ []
ending section.Buffers max_jobs = opening max_jobs
ending section.Rings max_jobs = opening max_jobs
ending section.Entities max_jobs = opening max_jobs
ending section.Open max_jobs = opening max_jobs

abbrev header_lines : Section → List Line → List RingSpec → List EntitySpec → ℕ → List Line
header_lines last buffers rings entities max_jobs = buffers ++ map ring_words rings ++ map entity_words entities ++ ending last max_jobs

abbrev pub as_bytes : List Line → List (List ℕ)
as_bytes lines = map (join_with_byte 32) lines

record Header (spec : DeviceSpec) (last : Section) (parts : List (List ℕ)) (x : DeviceSpec × Left) : Type 0 where
  lines : List Line
  buffers : List (List ℕ)
  rings : List RingSpec
  entities : List EntitySpec
  max_jobs : ℕ
  words : parts ≡ as_bytes (header_lines last lines rings entities max_jobs) ++ x.1.bytes ∷ x.1.more
  each : Each SpellsBuffer lines buffers
  rings_fit : AllByRecursion RingFits rings
  entities_fit : AllByRecursion EntityFits entities
  adds : x.0 ≡ with_parts spec buffers rings entities max_jobs
  whole : spec_fault x.0 ≡ None
  no_buffers : follows last section.Buffers ≡ false → (lines ≡ []) × (buffers ≡ [])
  no_rings : follows last section.Rings ≡ false → rings ≡ []
  no_entities : follows last section.Entities ≡ false → entities ≡ []
  limit : follows last section.Limit ≡ true → IsNumber max_jobs
  kept : follows last section.Limit ≡ false → max_jobs ≡ spec.max_jobs

abbrev Allowed : Section → Section → Type 0
Allowed last now = follows last now ≡ true

never : {A : Type 0} (b : Bool) → b ≡ true → b ≡ false → A
never b is other = absurd (let e : true ≡ false = sym is ∙ other in cc)

-- what may follow where buffers, rings or entities may
behind_buffers : (last : Section) → Allowed last section.Buffers → (follows last section.Rings ≡ true) × (follows last section.Entities ≡ true) × (follows last section.Limit ≡ true)
    × ((n : ℕ) → ending section.Buffers n ≡ ending last n)
behind_buffers section.Buffers is = (refl, refl, refl, λ n. refl)
behind_buffers section.Rings is = absurd (cc)
behind_buffers section.Entities is = absurd (cc)
behind_buffers section.Limit is = absurd (cc)
behind_buffers section.Open is = absurd (cc)

behind_rings : (last : Section) → Allowed last section.Rings → (follows last section.Entities ≡ true) × (follows last section.Limit ≡ true) × ((n : ℕ) → ending section.Rings n ≡ ending last n)
behind_rings section.Buffers is = (refl, refl, λ n. refl)
behind_rings section.Rings is = (refl, refl, λ n. refl)
behind_rings section.Entities is = absurd (cc)
behind_rings section.Limit is = absurd (cc)
behind_rings section.Open is = absurd (cc)

behind_entities : (last : Section) → Allowed last section.Entities → (follows last section.Limit ≡ true) × ((n : ℕ) → ending section.Entities n ≡ ending last n)
behind_entities section.Buffers is = (refl, λ n. refl)
behind_entities section.Rings is = (refl, λ n. refl)
behind_entities section.Entities is = (refl, λ n. refl)
behind_entities section.Limit is = absurd (cc)
behind_entities section.Open is = absurd (cc)

behind_limit : (last : Section) → Allowed last section.Limit → (n : ℕ) → opening n ≡ ending last n
behind_limit section.Buffers is n = refl
behind_limit section.Rings is n = refl
behind_limit section.Entities is n = refl
behind_limit section.Limit is n = absurd (cc)
behind_limit section.Open is n = absurd (cc)

behind_end : (last : Section) → Allowed last section.Open → ((n : ℕ) → ((codes "go" ∷ []) ∷ []) ≡ ending last n) × (follows last section.Limit ≡ false)
behind_end section.Buffers is = absurd (cc)
behind_end section.Rings is = absurd (cc)
behind_end section.Entities is = absurd (cc)
behind_end section.Limit is = (λ n. refl, refl)
behind_end section.Open is = absurd (cc)

more_words : (bytes : List ℕ) (words : Line) (rest : List (List ℕ)) (lines : List Line) (left : List (List ℕ)) → bytes ≡ join_with_byte 32 words → rest ≡ as_bytes lines ++ left
    → (bytes ∷ rest) ≡ as_bytes (words ∷ lines) ++ left
more_words bytes words rest lines left is more = same_cons _ _ _ _ is more

buffer_more : (spec : DeviceSpec) (last : Section) (bytes : List ℕ) (line : Line) (rest : List (List ℕ)) (x : DeviceSpec × Left) (buffer : List ℕ) → bytes ≡ join_with_byte 32 line
    → SpellsBuffer line buffer → Allowed last section.Buffers → Header (record spec { buffers = spec.buffers ++ buffer ∷ [] }) section.Buffers rest x → Header spec last (bytes ∷ rest) x
buffer_more spec last bytes line rest x buffer is spells allowed h =
    let b = behind_buffers last allowed in record {
      lines = line ∷ h.lines;
      buffers = buffer ∷ h.buffers;
      rings = h.rings;
      entities = h.entities;
      max_jobs = h.max_jobs;
      words = more_words bytes line rest (header_lines last h.lines h.rings h.entities h.max_jobs) (x.1.bytes ∷ x.1.more) is
          (h.words ∙ ap (λ (e : List Line). as_bytes (h.lines ++ map ring_words h.rings ++ map entity_words h.entities ++ e) ++ x.1.bytes ∷ x.1.more) (b.3 h.max_jobs));
      each = (spells, h.each);
      rings_fit = h.rings_fit;
      entities_fit = h.entities_fit;
      adds = h.adds ∙ ap (λ (bs : List (List ℕ)). let d : DeviceSpec = record { buffers = bs; rings = spec.rings ++ h.rings; entities = spec.entities ++ h.entities; max_jobs = h.max_jobs } in d) (append_assoc spec.buffers (buffer ∷ []) h.buffers);
      whole = h.whole;
      no_buffers = λ none. never _ allowed none;
      no_rings = λ none. never _ b.0 none;
      no_entities = λ none. never _ b.1 none;
      limit = λ some. h.limit refl;
      kept = λ none. never _ b.2 none;
    }

ring_more : (spec : DeviceSpec) (last : Section) (bytes : List ℕ) (rest : List (List ℕ)) (x : DeviceSpec × Left) (ring : RingSpec) → bytes ≡ join_with_byte 32 (ring_words ring)
    → RingFits ring → Allowed last section.Rings → Header (record spec { rings = spec.rings ++ ring ∷ [] }) section.Rings rest x → Header spec last (bytes ∷ rest) x
ring_more spec last bytes rest x ring is fits allowed h =
    let b = behind_rings last allowed in
    let none = h.no_buffers refl in record {
      lines = [];
      buffers = [];
      rings = ring ∷ h.rings;
      entities = h.entities;
      max_jobs = h.max_jobs;
      words = more_words bytes (ring_words ring) rest (header_lines last [] h.rings h.entities h.max_jobs) (x.1.bytes ∷ x.1.more) is
          (h.words ∙ ap (λ (ls : List Line). as_bytes (header_lines section.Rings ls h.rings h.entities h.max_jobs) ++ x.1.bytes ∷ x.1.more) none.0
          ∙ ap (λ (e : List Line). as_bytes (map ring_words h.rings ++ map entity_words h.entities ++ e) ++ x.1.bytes ∷ x.1.more) (b.2 h.max_jobs));
      each = tt;
      rings_fit = (fits, h.rings_fit);
      entities_fit = h.entities_fit;
      adds = h.adds ∙ ap (λ (bs : List (List ℕ)). with_parts (record spec { rings = spec.rings ++ ring ∷ [] }) bs h.rings h.entities h.max_jobs) none.1
          ∙ ap (λ (rs : List RingSpec). let d : DeviceSpec = record { buffers = spec.buffers ++ []; rings = rs; entities = spec.entities ++ h.entities; max_jobs = h.max_jobs } in d) (append_assoc spec.rings (ring ∷ []) h.rings);
      whole = h.whole;
      no_buffers = λ _. (refl, refl);
      no_rings = λ none. never _ allowed none;
      no_entities = λ none. never _ b.0 none;
      limit = λ some. h.limit refl;
      kept = λ none. never _ b.1 none;
    }

entity_more : (spec : DeviceSpec) (last : Section) (bytes : List ℕ) (rest : List (List ℕ)) (x : DeviceSpec × Left) (entity : EntitySpec) → bytes ≡ join_with_byte 32 (entity_words entity)
    → EntityFits entity → Allowed last section.Entities → Header (record spec { entities = spec.entities ++ entity ∷ [] }) section.Entities rest x → Header spec last (bytes ∷ rest) x
entity_more spec last bytes rest x entity is fits allowed h =
    let b = behind_entities last allowed in
    let none = h.no_buffers refl in
    let no_ring = h.no_rings refl in record {
      lines = [];
      buffers = [];
      rings = [];
      entities = entity ∷ h.entities;
      max_jobs = h.max_jobs;
      words = more_words bytes (entity_words entity) rest (header_lines last [] [] h.entities h.max_jobs) (x.1.bytes ∷ x.1.more) is
          (h.words ∙ ap (λ (ls : List Line). as_bytes (header_lines section.Entities ls h.rings h.entities h.max_jobs) ++ x.1.bytes ∷ x.1.more) none.0
          ∙ ap (λ (rs : List RingSpec). as_bytes (header_lines section.Entities [] rs h.entities h.max_jobs) ++ x.1.bytes ∷ x.1.more) no_ring
          ∙ ap (λ (e : List Line). as_bytes (map entity_words h.entities ++ e) ++ x.1.bytes ∷ x.1.more) (b.1 h.max_jobs));
      each = tt;
      rings_fit = tt;
      entities_fit = (fits, h.entities_fit);
      adds = h.adds ∙ ap (λ (bs : List (List ℕ)). with_parts (record spec { entities = spec.entities ++ entity ∷ [] }) bs h.rings h.entities h.max_jobs) none.1
          ∙ ap (λ (rs : List RingSpec). with_parts (record spec { entities = spec.entities ++ entity ∷ [] }) [] rs h.entities h.max_jobs) no_ring
          ∙ ap (λ (es : List EntitySpec). let d : DeviceSpec = record { buffers = spec.buffers ++ []; rings = spec.rings ++ []; entities = es; max_jobs = h.max_jobs } in d) (append_assoc spec.entities (entity ∷ []) h.entities);
      whole = h.whole;
      no_buffers = λ _. (refl, refl);
      no_rings = λ _. refl;
      no_entities = λ none. never _ allowed none;
      limit = λ some. h.limit refl;
      kept = λ none. never _ b.0 none;
    }

limit_more : (spec : DeviceSpec) (last : Section) (bytes : List ℕ) (rest : List (List ℕ)) (x : DeviceSpec × Left) (max_jobs : ℕ) → bytes ≡ join_with_byte 32 (codes "jobs" ∷ decimal max_jobs ∷ [])
    → IsNumber max_jobs → Allowed last section.Limit → Header (record spec { max_jobs = max_jobs }) section.Limit rest x → Header spec last (bytes ∷ rest) x
limit_more spec last bytes rest x max_jobs is fits allowed h =
    let none = h.no_buffers refl in
    let no_ring = h.no_rings refl in
    let no_entity = h.no_entities refl in
    let same : h.max_jobs ≡ max_jobs = h.kept refl in record {
      lines = [];
      buffers = [];
      rings = [];
      entities = [];
      max_jobs = max_jobs;
      words = more_words bytes (codes "jobs" ∷ decimal max_jobs ∷ []) rest ((codes "go" ∷ []) ∷ []) (x.1.bytes ∷ x.1.more) is
          (h.words ∙ ap (λ (ls : List Line). as_bytes (header_lines section.Limit ls h.rings h.entities h.max_jobs) ++ x.1.bytes ∷ x.1.more) none.0
          ∙ ap (λ (rs : List RingSpec). as_bytes (header_lines section.Limit [] rs h.entities h.max_jobs) ++ x.1.bytes ∷ x.1.more) no_ring
          ∙ ap (λ (es : List EntitySpec). as_bytes (header_lines section.Limit [] [] es h.max_jobs) ++ x.1.bytes ∷ x.1.more) no_entity)
          ∙ ap (λ (e : List Line). as_bytes e ++ x.1.bytes ∷ x.1.more) (behind_limit last allowed max_jobs);
      each = tt;
      rings_fit = tt;
      entities_fit = tt;
      adds = h.adds ∙ ap (λ (bs : List (List ℕ)). with_parts spec bs h.rings h.entities h.max_jobs) none.1
          ∙ ap (λ (rs : List RingSpec). with_parts spec [] rs h.entities h.max_jobs) no_ring
          ∙ ap (λ (es : List EntitySpec). with_parts spec [] [] es h.max_jobs) no_entity
          ∙ ap (λ (n : ℕ). with_parts spec [] [] [] n) same;
      whole = h.whole;
      no_buffers = λ _. (refl, refl);
      no_rings = λ _. refl;
      no_entities = λ _. refl;
      limit = λ _. fits;
      kept = λ none. never _ allowed none;
    }

nothing_more : (spec : DeviceSpec) → with_parts spec [] [] [] spec.max_jobs ≡ spec
nothing_more spec = rw (append-nil spec.buffers, append-nil spec.rings, append-nil spec.entities) refl

bad_ok : (o : Option BadSpec) (x : Unit {0}) → or_bad_device o ≡ Ok x → o ≡ None
bad_ok None x e = refl
bad_ok (Some bad) x e = absurd (cc)

device_ok : (spec : DeviceSpec) (x : Unit {0}) → checked_device spec ≡ Ok x → spec_fault spec ≡ None
unfolding checked_device
device_ok spec x e = bad_ok (spec_fault spec) x e

device_fits : (spec : DeviceSpec) → spec_fault spec ≡ None → checked_device spec ≡ Ok tt
unfolding checked_device
device_fits spec fits = rw fits refl

end_here : (spec : DeviceSpec) (last : Section) (bytes : List ℕ) (rest : List (List ℕ)) (n : ℕ) (next : List ℕ) (x : DeviceSpec × Left) → bytes ≡ join_with_byte 32 (codes "go" ∷ [])
    → Allowed last section.Open → (checked_device spec >>= λ _. Ok (spec, record { line = n; bytes = next; more = rest })) ≡ Ok x → Header spec last (bytes ∷ next ∷ rest) x
end_here spec last bytes rest n next x is allowed e =
    let left : Left = record { line = n; bytes = next; more = rest } in
    let a = bind_ok (checked_device spec) (λ _. Ok (spec, left)) x e in
    let b = behind_end last allowed in
    subst (λ (y : DeviceSpec × Left). Header spec last (bytes ∷ next ∷ rest) y) (ok_is (spec, left) x a.2) (record {
      lines = [];
      buffers = [];
      rings = [];
      entities = [];
      max_jobs = spec.max_jobs;
      words = more_words bytes (codes "go" ∷ []) (next ∷ rest) [] (next ∷ rest) is refl ∙ ap (λ (e : List Line). as_bytes e ++ next ∷ rest) (b.0 spec.max_jobs);
      each = tt;
      rings_fit = tt;
      entities_fit = tt;
      adds = sym (nothing_more spec);
      whole = device_ok spec a.0 a.1;
      no_buffers = λ _. (refl, refl);
      no_rings = λ _. refl;
      no_entities = λ _. refl;
      limit = λ some. never _ some b.1;
      kept = λ _. refl;
    })

one_line : (spec : DeviceSpec) (last : Section) (bytes : List ℕ) (words : Line) (n : ℕ) (next : List ℕ) (rest : List (List ℕ)) (read : DeviceSpec × Section) (x : DeviceSpec × Left)
    → bytes ≡ join_with_byte 32 words → Describes spec last words read.0 read.1
    → (header_of read.0 read.1 n next rest ≡ Ok x → Header read.0 read.1 (next ∷ rest) x)
    → cond (is_open read.1) (checked_device read.0 >>= λ _. Ok (read.0, record { line = n; bytes = next; more = rest })) (header_of read.0 read.1 n next rest) ≡ Ok x
    → Header spec last (bytes ∷ next ∷ rest) x
one_line spec last bytes words n next rest (device, now) x is (a_buffer buffer spells makes at allowed) again e =
    let more = again (subst (λ (s : Section). cond (is_open s) (checked_device device >>= λ _. Ok (device, record { line = n; bytes = next; more = rest })) (header_of device now n next rest) ≡ Ok x) at e) in
    buffer_more spec last bytes words (next ∷ rest) x buffer is spells allowed (subst (λ (d : DeviceSpec). Header d section.Buffers (next ∷ rest) x) makes (subst (λ (s : Section). Header device s (next ∷ rest) x) at more))
one_line spec last bytes words n next rest (device, now) x is (a_ring ring spelled fits makes at allowed) again e =
    let more = again (subst (λ (s : Section). cond (is_open s) (checked_device device >>= λ _. Ok (device, record { line = n; bytes = next; more = rest })) (header_of device now n next rest) ≡ Ok x) at e) in
    ring_more spec last bytes (next ∷ rest) x ring (is ∙ ap (join_with_byte 32) spelled) fits allowed (subst (λ (d : DeviceSpec). Header d section.Rings (next ∷ rest) x) makes (subst (λ (s : Section). Header device s (next ∷ rest) x) at more))
one_line spec last bytes words n next rest (device, now) x is (an_entity entity spelled fits makes at allowed) again e =
    let more = again (subst (λ (s : Section). cond (is_open s) (checked_device device >>= λ _. Ok (device, record { line = n; bytes = next; more = rest })) (header_of device now n next rest) ≡ Ok x) at e) in
    entity_more spec last bytes (next ∷ rest) x entity (is ∙ ap (join_with_byte 32) spelled) fits allowed (subst (λ (d : DeviceSpec). Header d section.Entities (next ∷ rest) x) makes (subst (λ (s : Section). Header device s (next ∷ rest) x) at more))
one_line spec last bytes words n next rest (device, now) x is (the_limit max_jobs spelled fits makes at allowed) again e =
    let more = again (subst (λ (s : Section). cond (is_open s) (checked_device device >>= λ _. Ok (device, record { line = n; bytes = next; more = rest })) (header_of device now n next rest) ≡ Ok x) at e) in
    limit_more spec last bytes (next ∷ rest) x max_jobs (is ∙ ap (join_with_byte 32) spelled) fits allowed (subst (λ (d : DeviceSpec). Header d section.Limit (next ∷ rest) x) makes (subst (λ (s : Section). Header device s (next ∷ rest) x) at more))
one_line spec last bytes words n next rest (device, now) x is (the_end spelled makes at allowed) again e =
    let opened = subst (λ (s : Section). cond (is_open s) (checked_device device >>= λ _. Ok (device, record { line = n; bytes = next; more = rest })) (header_of device now n next rest) ≡ Ok x) at e in
    let here = subst (λ (d : DeviceSpec). (checked_device d >>= λ _. Ok (d, record { line = n; bytes = next; more = rest })) ≡ Ok x) makes opened in
    end_here spec last bytes rest n next x (is ∙ ap (join_with_byte 32) spelled) allowed here

lines_take : (spec : DeviceSpec) (last : Section) (n : ℕ) (bytes : List ℕ) (more : List (List ℕ)) (x : DeviceSpec × Left) → header_of spec last n bytes more ≡ Ok x → Header spec last (bytes ∷ more) x
unfolding header_of
lines_take spec last n bytes [] x e =
    let a = bind_ok (last_line n bytes) (λ _. Err (out_of_order n)) x e in absurd (let no_more = a.2 in cc)
lines_take spec last n bytes (next ∷ rest) x e =
    let a = bind_ok (header_line spec last n bytes) (λ read. cond (is_open read.1) (checked_device read.0 >>= λ _. Ok (read.0, record { line = n + 1; bytes = next; more = rest })) (header_of read.0 read.1 (n + 1) next rest)) x e in
    let l = line_takes spec last n bytes a.0 a.1 in
    one_line spec last bytes l.0 (n + 1) next rest a.0 x l.1 l.2 (lines_take a.0.0 a.0.1 (n + 1) next rest x) a.2

-- the lines that are read as a header are a header, and lines behind it
pub header_takes : (left : Left) (x : DeviceSpec × Left) → header_at left ≡ Ok x
    → (lines : List Line) × SpellsHeader lines x.0 × ((left.bytes ∷ left.more) ≡ as_bytes lines ++ x.1.bytes ∷ x.1.more)
header_takes left x e =
    let h = lines_take no_device section.Buffers left.line left.bytes left.more x e in
    let lines = header_lines section.Buffers h.lines h.rings h.entities h.max_jobs in (
      lines,
      subst (λ (d : DeviceSpec). SpellsHeader lines d) (sym h.adds)
          (h.lines, h.each, refl, h.rings_fit, h.entities_fit, h.limit refl, subst (λ (d : DeviceSpec). spec_fault d ≡ None) h.adds h.whole),
      h.words,
    )

-- ---- what is written

-- what is left of a text behind a line
abbrev pub left_in : ℕ → List (List ℕ) → Left
left_in n [] = record { line = n; bytes = []; more = [] }
left_in n (bytes ∷ more) = record { line = n; bytes = bytes; more = more }

abbrev header_in : DeviceSpec → Section → Left → Result (DeviceSpec × Left) Fault
header_in spec last left = header_of spec last left.line left.bytes left.more

one_read : (spec : DeviceSpec) (last : Section) (n : ℕ) (bytes : List ℕ) (more : List (List ℕ)) → 0 < length more
    → header_in spec last (left_in n (bytes ∷ more))
    ≡ (header_line spec last n bytes >>= λ read. cond (is_open read.1) (checked_device read.0 >>= λ _. Ok (read.0, left_in (n + 1) more)) (header_in read.0 read.1 (left_in (n + 1) more)))
unfolding header_of
one_read spec last n bytes [] some = absurd (omega arith)
one_read spec last n bytes (next ∷ rest) some = refl

line_again : (spec : DeviceSpec) (last : Section) (n : ℕ) (keyword : Keyword) (fields : Line) (now : Section) (next : DeviceSpec) → AreWords fields → section_after last keyword ≡ Some now
    → ((words : Words) → words.rest.parts ≡ fields → with_header_words spec keyword words ≡ Ok next)
    → header_line spec last n (join_with_byte 32 (keyword_text keyword ∷ fields)) ≡ Ok (next, now)
unfolding header_line
line_again spec last n keyword fields now next are allowed read =
    let s = start_again n keyword fields are in rw (s.1, allowed, read s.0 s.2) refl

-- a line that does not open the device, and the lines behind it
next_line : (spec : DeviceSpec) (last : Section) (n : ℕ) (bytes : List ℕ) (more : List (List ℕ)) (next : DeviceSpec) (now : Section) → 0 < length more
    → header_line spec last n bytes ≡ Ok (next, now) → is_open now ≡ false → header_in spec last (left_in n (bytes ∷ more)) ≡ header_in next now (left_in (n + 1) more)
next_line spec last n bytes more next now some read shut =
    one_read spec last n bytes more some
    ∙ ap (λ (r : Result (DeviceSpec × Section) Fault). r >>= λ read. cond (is_open read.1) (checked_device read.0 >>= λ _. Ok (read.0, left_in (n + 1) more)) (header_in read.0 read.1 (left_in (n + 1) more))) read
    ∙ rw shut refl

-- what is read from here is this device, and what is left is this
abbrev Gives : DeviceSpec → Section → ℕ → List (List ℕ) → DeviceSpec → List (List ℕ) → Type 0
Gives spec last n parts device more = (m : ℕ) × (header_in spec last (left_in n parts) ≡ Ok (device, left_in m more))

some_more : (lines : List Line) (more : List (List ℕ)) → 0 < length more → 0 < length (as_bytes lines ++ more)
some_more [] more some = some
some_more (words ∷ lines) more some = omega arith

end_again : (spec : DeviceSpec) (n : ℕ) (more : List (List ℕ)) → 0 < length more → spec_fault spec ≡ None → Gives spec section.Limit n (as_bytes ((codes "go" ∷ []) ∷ []) ++ more) spec more
end_again spec n more some fits =
    let bytes = join_with_byte 32 (codes "go" ∷ []) in
    let read : header_line spec section.Limit n bytes ≡ Ok (spec, section.Open) = line_again spec section.Limit n line.Go [] section.Open spec tt refl (λ words is. rw (no_word.again words tt is tt) refl) in (
      n + 1,
      one_read spec section.Limit n bytes more some
          ∙ ap (λ (r : Result (DeviceSpec × Section) Fault). r >>= λ read. cond (is_open read.1) (checked_device read.0 >>= λ _. Ok (read.0, left_in (n + 1) more)) (header_in read.0 read.1 (left_in (n + 1) more))) read
          ∙ ap (λ (r : Result (Unit {0}) Fault). r >>= λ _. Ok (spec, left_in (n + 1) more)) (device_fits spec fits),
    )

after : (last : Section) (keyword : Keyword) (now : Section) → section_of keyword ≡ Some now → follows last now ≡ true → section_after last keyword ≡ Some now
after last keyword now is allowed = rw (is, allowed) refl

opening_again : (spec : DeviceSpec) (last : Section) (n max_jobs : ℕ) (more : List (List ℕ)) → follows last section.Limit ≡ true → 0 < length more → IsNumber max_jobs
    → spec_fault (with_parts spec [] [] [] max_jobs) ≡ None → Gives spec last n (as_bytes (opening max_jobs) ++ more) (with_parts spec [] [] [] max_jobs) more
opening_again spec last n max_jobs more allowed some small fits =
    let next : DeviceSpec = record spec { max_jobs = max_jobs } in
    let same : with_parts spec [] [] [] max_jobs ≡ next = nothing_more next in
    let read : header_line spec last n (join_with_byte 32 (codes "jobs" ∷ decimal max_jobs ∷ [])) ≡ Ok (next, section.Limit) =
    line_again spec last n line.Jobs (decimal max_jobs ∷ []) section.Limit next (decimal_graphic max_jobs (omega arith), tt) (after last line.Jobs section.Limit refl allowed)
    (λ words is. rw ((last_numbers_read (2 ^ 32 - 1) (omega arith)).again words max_jobs is small) refl) in
    let rest = end_again next (n + 1) more some (subst (λ (d : DeviceSpec). spec_fault d ≡ None) same fits) in (
      rest.0,
      next_line spec last n (join_with_byte 32 (codes "jobs" ∷ decimal max_jobs ∷ [])) (as_bytes ((codes "go" ∷ []) ∷ []) ++ more) next section.Limit (omega arith) read refl
          ∙ rest.1 ∙ ap (λ (d : DeviceSpec). Ok (d, left_in rest.0 more)) (sym same),
    )

entities_again : (es : List EntitySpec) (spec : DeviceSpec) (last : Section) (n max_jobs : ℕ) (more : List (List ℕ)) → follows last section.Entities ≡ true → follows last section.Limit ≡ true → 0 < length more
    → AllByRecursion EntityFits es → IsNumber max_jobs → spec_fault (with_parts spec [] [] es max_jobs) ≡ None
    → Gives spec last n (as_bytes (map entity_words es ++ opening max_jobs) ++ more) (with_parts spec [] [] es max_jobs) more
entities_again [] spec last n max_jobs more allowed then some fit small fits = opening_again spec last n max_jobs more then some small fits
entities_again (e ∷ es) spec last n max_jobs more allowed then some fit small fits =
    let next : DeviceSpec = record spec { entities = spec.entities ++ e ∷ [] } in
    let lines = map entity_words es ++ opening max_jobs in
    let same : with_parts next [] [] es max_jobs ≡ with_parts spec [] [] (e ∷ es) max_jobs = rw (append_assoc spec.entities (e ∷ []) es) refl in
    let read : header_line spec last n (join_with_byte 32 (entity_words e)) ≡ Ok (next, section.Entities) =
    line_again spec last n line.Entity (entity_fields e) section.Entities next ((rings_are_word e.rings fit.0).1, ((priority_is_word e.priority).1, tt)) (after last line.Entity section.Entities refl allowed)
    (λ words is. rw (entities_read.again words e is fit.0) refl) in
    let rest = entities_again es next section.Entities (n + 1) max_jobs more refl refl some fit.1 small (subst (λ (d : DeviceSpec). spec_fault d ≡ None) (sym same) fits) in (
      rest.0,
      next_line spec last n (join_with_byte 32 (entity_words e)) (as_bytes lines ++ more) next section.Entities (some_more lines more some) read refl
          ∙ rest.1 ∙ ap (λ (d : DeviceSpec). Ok (d, left_in rest.0 more)) same,
    )

rings_again : (rs : List RingSpec) (es : List EntitySpec) (spec : DeviceSpec) (last : Section) (n max_jobs : ℕ) (more : List (List ℕ)) → follows last section.Rings ≡ true → follows last section.Entities ≡ true
    → follows last section.Limit ≡ true → 0 < length more → AllByRecursion RingFits rs → AllByRecursion EntityFits es → IsNumber max_jobs → spec_fault (with_parts spec [] rs es max_jobs) ≡ None
    → Gives spec last n (as_bytes (map ring_words rs ++ map entity_words es ++ opening max_jobs) ++ more) (with_parts spec [] rs es max_jobs) more
rings_again [] es spec last n max_jobs more allowed then too some rfit fit small fits = entities_again es spec last n max_jobs more then too some fit small fits
rings_again (r ∷ rs) es spec last n max_jobs more allowed then too some rfit fit small fits =
    let next : DeviceSpec = record spec { rings = spec.rings ++ r ∷ [] } in
    let lines = map ring_words rs ++ map entity_words es ++ opening max_jobs in
    let same : with_parts next [] rs es max_jobs ≡ with_parts spec [] (r ∷ rs) es max_jobs = rw (append_assoc spec.rings (r ∷ []) rs) refl in
    let graphic : AreWords (ring_fields r) = (
      decimal_graphic r.credit_limit (let s : r.credit_limit ≤ 65535 = rfit.0.0 in omega arith),
      (decimal_graphic r.timeout (let s : r.timeout ≤ 2 ^ 32 - 1 = rfit.0.1 in omega arith), (decimal_graphic r.hang_limit (let s : r.hang_limit ≤ 2 ^ 32 - 1 = rfit.0.2 in omega arith), tt)),
    ) in
    let read : header_line spec last n (join_with_byte 32 (ring_words r)) ≡ Ok (next, section.Rings) =
    line_again spec last n line.Ring (ring_fields r) section.Rings next graphic (after last line.Ring section.Rings refl allowed) (λ words is. rw (rings_read.again words r is rfit.0) refl) in
    let rest = rings_again rs es next section.Rings (n + 1) max_jobs more refl refl refl some rfit.1 fit small (subst (λ (d : DeviceSpec). spec_fault d ≡ None) (sym same) fits) in (
      rest.0,
      next_line spec last n (join_with_byte 32 (ring_words r)) (as_bytes lines ++ more) next section.Rings (some_more lines more some) read refl
          ∙ rest.1 ∙ ap (λ (d : DeviceSpec). Ok (d, left_in rest.0 more)) same,
    )

buffer_again : (spec : DeviceSpec) (n : ℕ) (words : Line) (buffer : List ℕ) → SpellsBuffer words buffer
    → header_line spec section.Buffers n (join_with_byte 32 words) ≡ Ok (record spec { buffers = spec.buffers ++ buffer ∷ [] }, section.Buffers)
buffer_again spec n words buffer (inl spells) =
    ap (λ (w : Line). header_line spec section.Buffers n (join_with_byte 32 w)) spells.0
    ∙ line_again spec section.Buffers n line.Buffer (text_of_bytes buffer ∷ []) section.Buffers (record spec { buffers = spec.buffers ++ buffer ∷ [] }) (bytes_graphic buffer spells.1.1, tt) refl
    (λ w is. rw (last_bytes_read.again w buffer is spells.1) refl)
buffer_again spec n words buffer (inr spells) =
    ap (λ (w : Line). header_line spec section.Buffers n (join_with_byte 32 w)) spells.1
    ∙ line_again spec section.Buffers n line.Zero (decimal spells.0 ∷ []) section.Buffers (record spec { buffers = spec.buffers ++ buffer ∷ [] }) (decimal_graphic spells.0 (let s : spells.0 ≤ 65535 = spells.2 in omega arith), tt) refl
    (λ w is. rw ((last_numbers_read 65535 (omega arith)).again w spells.0 is spells.2) (ap (λ (b : List ℕ). Ok (record spec { buffers = spec.buffers ++ b ∷ [] })) (sym spells.3)))

buffers_again : (lines : List Line) (bs : List (List ℕ)) (rs : List RingSpec) (es : List EntitySpec) (spec : DeviceSpec) (n max_jobs : ℕ) (more : List (List ℕ)) → Each SpellsBuffer lines bs → 0 < length more
    → AllByRecursion RingFits rs → AllByRecursion EntityFits es → IsNumber max_jobs → spec_fault (with_parts spec bs rs es max_jobs) ≡ None
    → Gives spec section.Buffers n (as_bytes (lines ++ map ring_words rs ++ map entity_words es ++ opening max_jobs) ++ more) (with_parts spec bs rs es max_jobs) more
buffers_again [] [] rs es spec n max_jobs more each some rfit fit small fits = rings_again rs es spec section.Buffers n max_jobs more refl refl refl some rfit fit small fits
buffers_again [] (b ∷ bs) rs es spec n max_jobs more each some rfit fit small fits = absurd each
buffers_again (words ∷ lines) [] rs es spec n max_jobs more each some rfit fit small fits = absurd each
buffers_again (words ∷ lines) (b ∷ bs) rs es spec n max_jobs more each some rfit fit small fits =
    let next : DeviceSpec = record spec { buffers = spec.buffers ++ b ∷ [] } in
    let others = lines ++ map ring_words rs ++ map entity_words es ++ opening max_jobs in
    let same : with_parts next bs rs es max_jobs ≡ with_parts spec (b ∷ bs) rs es max_jobs = rw (append_assoc spec.buffers (b ∷ []) bs) refl in
    let rest = buffers_again lines bs rs es next (n + 1) max_jobs more each.1 some rfit fit small (subst (λ (d : DeviceSpec). spec_fault d ≡ None) (sym same) fits) in (
      rest.0,
      next_line spec section.Buffers n (join_with_byte 32 words) (as_bytes others ++ more) next section.Buffers (some_more others more some) (buffer_again spec n words b each.0) refl
          ∙ rest.1 ∙ ap (λ (d : DeviceSpec). Ok (d, left_in rest.0 more)) same,
    )

-- a header is read as its device, and the lines behind it are left
pub header_again : (n : ℕ) (lines : List Line) (spec : DeviceSpec) (more : List (List ℕ)) → SpellsHeader lines spec → 0 < length more
    → (m : ℕ) × (header_at (left_in n (as_bytes lines ++ more)) ≡ Ok (spec, left_in m more))
header_again n lines spec more spells some =
    let all = buffers_again spells.0 spec.buffers spec.rings spec.entities no_device n spec.max_jobs more spells.1 some spells.3 spells.4 spells.5 spells.6 in
    (all.0, ap (λ (ls : List Line). header_at (left_in n (as_bytes ls ++ more))) spells.2 ∙ all.1)
