-- Texts of markup in which nothing has to be escaped: all that a bar tells but for an arrow.
use Rattle.std.proofs.Common.{◌≡◌, ◌∙◌, ℕ, zero, suc, Bool, true, false, cond, ◌==◌, List, [], ◌∷◌, ◌++◌, ◌+◌, ◌/◌, ◌%◌, ◌<◌, Option, Some, None, ap, arith, flat_map, refl}
use Rattle.std.specs.Prelude.{codes}
use Rattle.std.specs.Fmt.{decimal, digit_glyph, digits, digits_onto}
use Rattle.std.proofs.lemmas.Bool.{eqb-true, lt-ltb}
use Rattle.std.proofs.lemmas.Grind.{flat_map-append}
use Rattle.std.proofs.lemmas.Nat.{mod_below}
use Rattle.drm_types.specs.declared.access.Access.{Access}
use Rattle.drm_types.specs.declared.access.Access.TheVariants as access
use Rattle.drm_picture.specs.declared.bars.Bar.{Bar}
use Rattle.drm_picture.specs.declared.bars.Kind.{Kind}
use Rattle.drm_picture.specs.declared.bars.Kind.TheVariants as kind
use Rattle.drm_picture.specs.declared.bars.Lane.{Lane}
use Rattle.drm_picture.specs.declared.bars.Lane.TheVariants as lane
use Rattle.drm_picture.specs.declared.bars.Look.{Look}
use Rattle.drm_picture.specs.declared.bars.Look.TheVariants as look
use Rattle.drm_picture.specs.declared.command.Request.{Request}
use Rattle.drm_svg.specs.Escape.{escape_of, escaped}
use Rattle.drm_svg.specs.Owners.{uses_text, verb_of}
use Rattle.drm_svg.specs.Signs.{name_of, word_of_look}
use Rattle.drm_svg.specs.Titles.{arrow_text, begins_of, end_text, ends_of, front_of, last_text, moment_text, owner_text, packets_text, subject_text, title_of, when_of, whose_of}

-- nothing of the text has to be escaped
abbrev pub IsPlain : List ℕ → Type 0
IsPlain text = escaped text ≡ text

joined : (a b : List ℕ) → IsPlain a → IsPlain b → IsPlain (a ++ b)
joined a b p q = flat_map-append escape_of a b ∙ ap (λ (t : List ℕ). t ++ escaped b) p ∙ ap (λ (t : List ℕ). a ++ t) q

-- ---- numbers

differs : (b : Bool) → (b ≡ true → ⊥) → b ≡ false
differs true never = absurd (never refl)
differs false never = refl

other_byte : (byte mark : ℕ) → (byte ≡ mark → ⊥) → (byte == mark) ≡ false
other_byte byte mark never = differs (byte == mark) (λ same. never (eqb-true byte mark same))

digit_plain : (d : ℕ) → d < 10 → escape_of (48 + d) ≡ (48 + d) ∷ []
digit_plain d within =
    rw (
      other_byte (48 + d) 38 (λ same. omega (arith, same)),
      other_byte (48 + d) 60 (λ same. omega (arith, same, within)),
      other_byte (48 + d) 62 (λ same. omega (arith, same, within)),
      other_byte (48 + d) 34 (λ same. omega (arith, same)),
    ) refl

glyph_plain : (d : ℕ) → d < 10 → escape_of (digit_glyph false d) ≡ digit_glyph false d ∷ []
glyph_plain d within = rw (lt-ltb d 10 within) (digit_plain d within)

glyph_before : (n : ℕ) (text : List ℕ) → IsPlain text → IsPlain (digit_glyph false (n % 10) ∷ text)
glyph_before n text plain =
    let glyph = digit_glyph false (n % 10) in
    ap (λ (t : List ℕ). t ++ escaped text) (glyph_plain (n % 10) (mod_below n 10 (omega arith))) ∙ ap (λ (t : List ℕ). glyph ∷ t) plain

either_plain : (b : Bool) (one other : List ℕ) → IsPlain one → IsPlain other → IsPlain (cond b one other)
either_plain true one other p q = p
either_plain false one other p q = q

digits_plain : (k n : ℕ) (text : List ℕ) → IsPlain text → IsPlain (digits_onto k 10 false n text)
digits_plain zero n text plain = plain
digits_plain (suc k) n text plain =
    let longer = digit_glyph false (n % 10) ∷ text in
    let more : IsPlain longer = glyph_before n text plain in
    either_plain (n / 10 == 0) longer (digits_onto k 10 false (n / 10) longer) more (digits_plain k (n / 10) longer more)

number_plain : (n : ℕ) → IsPlain (decimal n)
unfolding digits
number_plain n = digits_plain 64 n [] refl

-- a word and a number behind it
numbered : (word : List ℕ) (n : ℕ) → IsPlain word → IsPlain (word ++ decimal n)
numbered word n plain = joined word (decimal n) plain (number_plain n)

-- ---- the parts of what a bar tells

name_plain : (l : Lane) → IsPlain (name_of l)
name_plain (lane.Ring ring) = numbered (codes "ring ") ring refl
name_plain (lane.Entity entity) = numbered (codes "entity ") entity refl
name_plain (lane.Buffer buffer) = numbered (codes "buffer ") buffer refl
name_plain (lane.Fence fence) = numbered (codes "fence ") fence refl

of_lane : (l : Lane) (what : List ℕ) (n : ℕ) → IsPlain what → IsPlain (name_of l ++ what ++ decimal n)
of_lane l what n plain = joined (name_of l ++ what) (decimal n) (joined (name_of l) what (name_plain l) plain) (number_plain n)

subject_plain : (k : Kind) (l : Lane) (n : ℕ) → IsPlain (subject_text k l n)
subject_plain kind.Job l n = of_lane l (codes ": fence ") n refl
subject_plain kind.Queued l n = of_lane l (codes ": fence ") n refl
subject_plain kind.Stopped l n = name_plain l
subject_plain kind.Lock l n = of_lane l (codes ": context ") n refl
subject_plain kind.Fence l n = name_plain l
subject_plain kind.Waiting l n = of_lane l (codes ": fence ") n refl

owner_plain : (k : Kind) (job : Option Request) → IsPlain (owner_text k job)
owner_plain kind.Queued job = refl
owner_plain kind.Job None = refl
owner_plain kind.Stopped None = refl
owner_plain kind.Lock None = refl
owner_plain kind.Fence None = refl
owner_plain kind.Waiting None = refl
owner_plain kind.Job (Some job) = numbered (codes " of entity ") job.entity refl
owner_plain kind.Stopped (Some job) = numbered (codes " of entity ") job.entity refl
owner_plain kind.Lock (Some job) = numbered (codes " of entity ") job.entity refl
owner_plain kind.Fence (Some job) = numbered (codes " of entity ") job.entity refl
owner_plain kind.Waiting (Some job) = numbered (codes " of entity ") job.entity refl

verb_plain : (a : Access) → IsPlain (verb_of a)
verb_plain access.Read = refl
verb_plain access.Write = refl
verb_plain access.Hold = refl
verb_plain access.Move = refl

each_plain : (declared : List (ℕ × Access)) → IsPlain (flat_map (λ d. verb_of d.1 ++ decimal d.0) declared)
each_plain [] = refl
each_plain (d ∷ declared) =
    joined (verb_of d.1 ++ decimal d.0) (flat_map (λ d. verb_of d.1 ++ decimal d.0) declared) (numbered (verb_of d.1) d.0 (verb_plain d.1)) (each_plain declared)

uses_plain : (job : Option Request) → IsPlain (uses_text job)
uses_plain None = refl
uses_plain (Some job) = each_plain job.declared

begins_plain : (k : Kind) → IsPlain (begins_of k)
begins_plain kind.Job = refl
begins_plain kind.Queued = refl
begins_plain kind.Stopped = refl
begins_plain kind.Lock = refl
begins_plain kind.Fence = refl
begins_plain kind.Waiting = refl

ends_plain : (k : Kind) → IsPlain (ends_of k)
ends_plain kind.Job = refl
ends_plain kind.Queued = refl
ends_plain kind.Stopped = refl
ends_plain kind.Lock = refl
ends_plain kind.Fence = refl
ends_plain kind.Waiting = refl

moment_plain : (moment : Option ℕ) → IsPlain (moment_text moment)
moment_plain None = refl
moment_plain (Some now) = numbered (codes " at moment ") now refl

ended_plain : (bar : Bar) → IsPlain (ends_of bar.kind ++ decimal (bar.from + bar.span) ++ moment_text bar.ended)
ended_plain bar =
    let end = decimal (bar.from + bar.span) in
    joined (ends_of bar.kind ++ end) (moment_text bar.ended) (joined (ends_of bar.kind) end (ends_plain bar.kind) (number_plain (bar.from + bar.span))) (moment_plain bar.ended)

end_plain : (l : Look) (bar : Bar) → IsPlain (end_text l bar)
end_plain look.Open bar = refl
end_plain look.Ended bar = ended_plain bar
end_plain look.Good bar = ended_plain bar
end_plain look.Cancelled bar = ended_plain bar
end_plain look.Stopped bar = ended_plain bar
end_plain look.Guilty bar = ended_plain bar

last_plain : (k : Kind) (bar : Bar) → IsPlain (last_text k bar)
last_plain kind.Stopped bar = refl
last_plain kind.Job bar = end_plain bar.look bar
last_plain kind.Queued bar = end_plain bar.look bar
last_plain kind.Lock bar = end_plain bar.look bar
last_plain kind.Fence bar = end_plain bar.look bar
last_plain kind.Waiting bar = end_plain bar.look bar

packets_plain : (k : Kind) (packets : ℕ) → IsPlain (packets_text k packets)
packets_plain kind.Job packets = numbered (codes ", packets run: ") packets refl
packets_plain kind.Queued packets = refl
packets_plain kind.Stopped packets = refl
packets_plain kind.Lock packets = refl
packets_plain kind.Fence packets = refl
packets_plain kind.Waiting packets = refl

whose_plain : (job : Option Request) (bar : Bar) → IsPlain (whose_of job bar)
unfolding whose_of
whose_plain job bar =
    let subject = subject_text bar.kind bar.opening.lane bar.opening.number in
    joined subject (owner_text bar.kind job) (subject_plain bar.kind bar.opening.lane bar.opening.number) (owner_plain bar.kind job)

when_plain : (bar : Bar) → IsPlain (when_of bar)
unfolding when_of
when_plain bar =
    let begins = begins_of bar.kind in
    let from = begins ++ decimal bar.from in
    let began = from ++ moment_text bar.began in
    let last = began ++ last_text bar.kind bar in
    joined last (packets_text bar.kind bar.packets)
    (joined began (last_text bar.kind bar)
    (joined from (moment_text bar.began)
    (joined begins (decimal bar.from) (begins_plain bar.kind) (number_plain bar.from)) (moment_plain bar.began)) (last_plain bar.kind bar)) (packets_plain bar.kind bar.packets)

front_plain : (job : Option Request) (bar : Bar) → IsPlain (front_of job bar)
unfolding front_of
front_plain job bar =
    joined (whose_of job bar ++ uses_text job) (when_of bar) (joined (whose_of job bar) (uses_text job) (whose_plain job bar) (uses_plain job)) (when_plain bar)

arrow_escaped : (l : Look) → escaped (codes " -> " ++ word_of_look l) ≡ arrow_text l
unfolding arrow_text
arrow_escaped look.Open = refl
arrow_escaped look.Ended = refl
arrow_escaped look.Good = refl
arrow_escaped look.Cancelled = refl
arrow_escaped look.Stopped = refl
arrow_escaped look.Guilty = refl

-- what a bar tells, escaped: the arrow alone has a byte that something else stands for
pub title_escaped : (job : Option Request) (bar : Bar) → escaped (title_of job bar) ≡ front_of job bar ++ arrow_text bar.look
unfolding title_of
title_escaped job bar =
    flat_map-append escape_of (front_of job bar) (codes " -> " ++ word_of_look bar.look)
    ∙ ap (λ (t : List ℕ). t ++ escaped (codes " -> " ++ word_of_look bar.look)) (front_plain job bar)
    ∙ ap (λ (t : List ℕ). front_of job bar ++ t) (arrow_escaped bar.look)
