-- Columns: the moments of one command more, and that there are at most twice as many columns as commands.
use Rattle.std.proofs.Common.{◌≡◌, ◌∙◌, ℕ, zero, suc, Bool, true, false, List, [], ◌∷◌, ◌++◌, ◌+◌, ◌-◌, ◌*◌, ◌/◌, ◌<◌, ◌≤◌, Option, Some, None, ap, arith, drop, find, get_or, inl, inr, length, option_map, refl, subst, sym, take, unwrap_or}
use Rattle.std.specs.Prelude.{if◌then◌else◌, max}
use Rattle.std.specs.List.{enumerate_from}
use Rattle.std.specs.Option.{option_or}
use Rattle.std.proofs.lemmas.Bool.{cases_lt, ltb-false}
use Rattle.std.proofs.lemmas.List.{get_or_default, take-append-drop}
use Rattle.std.proofs.lemmas.List.Folds.{find-append}
use Rattle.std.proofs.Math.Nat.{div-le_of_le-mul, div-lt_iff_lt-mul, lt-mul-div-succ, mul-le-mul_right}
use Rattle.drm_core.specs.declared.event.Event.{Event}
use Rattle.drm_picture.specs.Columns.{IsPeriod, duration, falls, first_fall, first_moment, is_before, last_moment, unit_of}
use Rattle.drm_picture.specs.Commands.{moment_of}
use Rattle.drm_picture.specs.declared.columns.Period.{Period}
use Rattle.drm_picture.proofs.Places.{placed_more, take-more}

-- ---- one command more

or_none : (o : Option ℕ) → o ≡ option_or o None
or_none (Some x) = refl
or_none None = refl

or_joined : (a b c : Option ℕ) → option_or (option_or a b) c ≡ option_or a (option_or b c)
or_joined (Some x) b c = refl
or_joined None b c = refl

last-snoc : (commands : List (Event ℕ)) (c : Event ℕ) → last_moment (commands ++ c ∷ []) ≡ option_or (moment_of c) (last_moment commands)
last-snoc [] c = or_none (moment_of c)
last-snoc (x ∷ xs) c = ap (λ (o : Option ℕ). option_or o (moment_of x)) (last-snoc xs c) ∙ or_joined (moment_of c) (last_moment xs) (moment_of x)

first-snoc : (commands : List (Event ℕ)) (c : Event ℕ) → first_moment (commands ++ c ∷ []) ≡ option_or (first_moment commands) (moment_of c)
first-snoc [] c = sym (or_none (moment_of c))
first-snoc (x ∷ xs) c = ap (λ (o : Option ℕ). option_or (moment_of x) o) (first-snoc xs c) ∙ sym (or_joined (moment_of x) (first_moment xs) (moment_of c))

take_one : (commands : List (Event ℕ)) (place : ℕ) (d : Event ℕ) → place < length commands → take (place + 1) commands ≡ take place commands ++ get_or commands place d ∷ []
take_one commands place d within = take-more commands place (get_or commands place d) within (get_or_default commands place d (get_or commands place d) within)

-- the last moment that one command more tells
pub last_more : (commands : List (Event ℕ)) (place : ℕ) (d : Event ℕ) (now told : Option ℕ) → place < length commands → now ≡ moment_of (get_or commands place d)
    → told ≡ last_moment (take place commands) → option_or now told ≡ last_moment (take (place + 1) commands)
last_more commands place d now told within is so =
    ap (λ (o : Option ℕ). option_or o told) is
    ∙ ap (λ (o : Option ℕ). option_or (moment_of (get_or commands place d)) o) so
    ∙ sym (last-snoc (take place commands) (get_or commands place d))
    ∙ ap last_moment (sym (take_one commands place d within))

-- the first
pub first_more : (commands : List (Event ℕ)) (place : ℕ) (d : Event ℕ) (now first : Option ℕ) → place < length commands → now ≡ moment_of (get_or commands place d)
    → first ≡ first_moment (take place commands) → option_or first now ≡ first_moment (take (place + 1) commands)
first_more commands place d now first within is so =
    ap (λ (o : Option ℕ). option_or o now) so
    ∙ ap (λ (o : Option ℕ). option_or (first_moment (take place commands)) o) is
    ∙ sym (first-snoc (take place commands) (get_or commands place d))
    ∙ ap first_moment (sym (take_one commands place d within))

-- their period
pub period_more : (commands : List (Event ℕ)) (place : ℕ) (d : Event ℕ) (now : Option ℕ) (before period : Period) → place < length commands
    → now ≡ moment_of (get_or commands place d) → IsPeriod (take place commands) before
    → period ≡ record { first = option_or before.first now; last = option_or now before.last } → IsPeriod (take (place + 1) commands) period
period_more commands place d now before period within is so with = record {
  first = ap (λ (p : Period). p.first) with ∙ first_more commands place d now before.first within is so.first;
  last = ap (λ (p : Period). p.last) with ∙ last_more commands place d now before.last within is so.last;
}

-- ---- where moments fall

-- none of the commands before this place does
abbrev pub NoneFalls : List (Event ℕ) → ℕ → Type 0
NoneFalls commands place = find (falls commands) (enumerate_from 0 (take place commands)) ≡ None

placed_one : (commands : List (Event ℕ)) (place : ℕ) (d : Event ℕ) → place < length commands
    → enumerate_from 0 (take (place + 1) commands) ≡ enumerate_from 0 (take place commands) ++ (place, get_or commands place d) ∷ []
placed_one commands place d within = placed_more commands place (get_or commands place d) within (get_or_default commands place d (get_or commands place d) within)

-- what is found before a place and at it
found_until : (commands : List (Event ℕ)) (place : ℕ) (d : Event ℕ) → place < length commands → NoneFalls commands place
    → find (falls commands) (enumerate_from 0 (take (place + 1) commands)) ≡ find (falls commands) ((place, get_or commands place d) ∷ [])
found_until commands place d within none =
    ap (find (falls commands)) (placed_one commands place d within)
    ∙ find-append (falls commands) (enumerate_from 0 (take place commands)) ((place, get_or commands place d) ∷ [])
    ∙ ap (λ (o : Option (ℕ × Event ℕ)). option_or o (find (falls commands) ((place, get_or commands place d) ∷ []))) none

-- what a command is asked for whose moment and the one told before are known
fell_here : (commands : List (Event ℕ)) (place : ℕ) (d : Event ℕ) (now told : Option ℕ) (falls_here : Bool) → now ≡ moment_of (get_or commands place d)
    → told ≡ last_moment (take place commands) → is_before now told ≡ falls_here → is_before (moment_of (get_or commands place d)) (last_moment (take place commands)) ≡ falls_here
fell_here commands place d now told falls_here is so asked =
    ap (λ (o : Option ℕ). is_before o (last_moment (take place commands))) (sym is) ∙ ap (is_before now) (sym so) ∙ asked

pub none_more : (commands : List (Event ℕ)) (place : ℕ) (d : Event ℕ) (now told : Option ℕ) → place < length commands → now ≡ moment_of (get_or commands place d)
    → told ≡ last_moment (take place commands) → NoneFalls commands place → is_before now told ≡ false → NoneFalls commands (place + 1)
none_more commands place d now told within is so none asked =
    let stays = fell_here commands place d now told false is so asked in
    found_until commands place d within none ∙ rw stays refl

enumerate_from-append : {X : Type 0} (n : ℕ) (xs ys : List X) → enumerate_from n (xs ++ ys) ≡ enumerate_from n xs ++ enumerate_from (n + length xs) ys
enumerate_from-append n [] ys = let e : n + 0 ≡ n = omega arith in rw e refl
enumerate_from-append n (x ∷ xs) ys =
    let e : n + 1 + length xs ≡ n + length (x ∷ xs) = omega arith in
    ap (λ l. (n, x) ∷ l) (enumerate_from-append (n + 1) xs ys ∙ ap (λ (m : ℕ). enumerate_from (n + 1) xs ++ enumerate_from m ys) e)

-- the first that falls
pub found_first : (commands : List (Event ℕ)) (place : ℕ) (d : Event ℕ) (now told : Option ℕ) → place < length commands → now ≡ moment_of (get_or commands place d)
    → told ≡ last_moment (take place commands) → NoneFalls commands place → is_before now told ≡ true → first_fall commands ≡ Some place
found_first commands place d now told within is so none asked =
    let fell = fell_here commands place d now told true is so asked in
    let c = get_or commands place d in
    let before = enumerate_from 0 (take (place + 1) commands) in
    let rest = enumerate_from (0 + length (take (place + 1) commands)) (drop (place + 1) commands) in
    let found : find (falls commands) ((place, c) ∷ []) ≡ Some (place, c) = rw fell refl in
    ap (λ (o : Option (ℕ × Event ℕ)). option_map (λ (p : ℕ × Event ℕ). p.0) o)
    (ap (λ (l : List (Event ℕ)). find (falls commands) (enumerate_from 0 l)) (sym (take-append-drop (place + 1) commands))
    ∙ ap (find (falls commands)) (enumerate_from-append 0 (take (place + 1) commands) (drop (place + 1) commands))
    ∙ find-append (falls commands) before rest
    ∙ ap (λ (o : Option (ℕ × Event ℕ)). option_or o (find (falls commands) rest)) (found_until commands place d within none ∙ found))

take_all : {X : Type 0} (xs : List X) (n : ℕ) → length xs ≤ n → take n xs ≡ xs
take_all [] zero most = refl
take_all [] (suc n) most = refl
take_all (x ∷ xs) zero most = absurd (omega arith)
take_all (x ∷ xs) (suc n) most = ap (λ l. x ∷ l) (take_all xs n (omega arith))

pub none_first : (commands : List (Event ℕ)) (place : ℕ) → length commands ≤ place → NoneFalls commands place → first_fall commands ≡ None
none_first commands place end none =
    ap (λ (o : Option (ℕ × Event ℕ)). option_map (λ (p : ℕ × Event ℕ). p.0) o)
    (ap (λ (l : List (Event ℕ)). find (falls commands) (enumerate_from 0 l)) (sym (take_all commands place end)) ∙ none)

-- ---- how long moments go on that never fall

none_or : (now first last : Option ℕ) → option_or now first ≡ None → (first ≡ None → last ≡ None) → option_or last now ≡ None
none_or None first last none law = ap (λ (o : Option ℕ). option_or o None) (law none)
none_or (Some now) first last none law = absurd (cc)

none_told : (commands : List (Event ℕ)) → first_moment commands ≡ None → last_moment commands ≡ None
none_told [] none = refl
none_told (x ∷ xs) none = none_or (moment_of x) (first_moment xs) (last_moment xs) none (none_told xs)

longer_by : (first last now : Option ℕ) → (first ≡ None → last ≡ None) → is_before now last ≡ false
    → unwrap_or last 0 - unwrap_or first 0 ≤ unwrap_or (option_or now last) 0 - unwrap_or (option_or first now) 0
longer_by None last None law stays = omega arith
longer_by (Some first) last None law stays = omega arith
longer_by (Some first) None (Some now) law stays = omega arith
longer_by (Some first) (Some told) (Some now) law stays = let le : told ≤ now = ltb-false now told stays in omega arith
longer_by None last (Some now) law stays = let none : unwrap_or last 0 ≡ 0 = ap (λ (o : Option ℕ). unwrap_or o 0) (law refl) in omega (arith, none)

split_none : {X : Type 0} (before : Option X) (falls_here : Bool) (x : X) → option_or before (if falls_here then Some x else None) ≡ None → (before ≡ None) × (falls_here ≡ false)
split_none None false x none = (refl, refl)
split_none None true x none = absurd (cc)
split_none (Some y) falls_here x none = absurd (cc)

none_here : (commands : List (Event ℕ)) (place : ℕ) (d : Event ℕ) → place < length commands → NoneFalls commands (place + 1)
    → NoneFalls commands place × (is_before (moment_of (get_or commands place d)) (last_moment (take place commands)) ≡ false)
none_here commands place d within none =
    let c = get_or commands place d in
    split_none (find (falls commands) (enumerate_from 0 (take place commands))) (is_before (moment_of c) (last_moment (take place commands))) (place, c)
    (sym (find-append (falls commands) (enumerate_from 0 (take place commands)) ((place, c) ∷ [])) ∙ ap (find (falls commands)) (sym (placed_one commands place d within)) ∙ none)

longer_one : (commands : List (Event ℕ)) (place : ℕ) (d : Event ℕ) → place < length commands → NoneFalls commands (place + 1)
    → duration (take place commands) ≤ duration (take (place + 1) commands)
longer_one commands place d within none =
    let before = take place commands in
    let now = moment_of (get_or commands place d) in
    let last : option_or now (last_moment before) ≡ last_moment (take (place + 1) commands) = last_more commands place d now (last_moment before) within refl refl in
    let first : option_or (first_moment before) now ≡ first_moment (take (place + 1) commands) = first_more commands place d now (first_moment before) within refl refl in
    subst (λ (l : Option ℕ). duration before ≤ unwrap_or l 0 - unwrap_or (first_moment (take (place + 1) commands)) 0) last
    (subst (λ (f : Option ℕ). duration before ≤ unwrap_or (option_or now (last_moment before)) 0 - unwrap_or f 0) first
    (longer_by (first_moment before) (last_moment before) now (none_told before) (none_here commands place d within none).1))

-- of fewer commands it is no longer
longer : (commands : List (Event ℕ)) (d : Event ℕ) (place more : ℕ) → place + more ≤ length commands → NoneFalls commands (place + more)
    → duration (take place commands) ≤ duration (take (place + more) commands)
longer commands d place zero within none = let e : place + 0 ≡ place = omega arith in rw e (omega arith)
longer commands d place (suc more) within none =
    let e : place + suc more ≡ place + more + 1 = omega arith in
    let until : NoneFalls commands (place + more + 1) = subst (NoneFalls commands) e none in
    let here : place + more < length commands = omega arith in
    let one : duration (take (place + more) commands) ≤ duration (take (place + more + 1) commands) = longer_one commands (place + more) d here until in
    let rest : duration (take place commands) ≤ duration (take (place + more) commands) = longer commands d place more (omega arith) (none_here commands (place + more) d here until).0 in
    rw e (omega arith)

unmapped : (o : Option (ℕ × Event ℕ)) → option_map (λ (p : ℕ × Event ℕ). p.0) o ≡ None → o ≡ None
unmapped None none = refl
unmapped (Some p) none = absurd (cc)

nothing_falls : (commands : List (Event ℕ)) → first_fall commands ≡ None → NoneFalls commands (length commands)
nothing_falls commands none =
    let all : length commands ≤ length commands = omega arith in
    ap (λ (l : List (Event ℕ)). find (falls commands) (enumerate_from 0 l)) (take_all commands (length commands) all)
    ∙ unmapped (find (falls commands) (enumerate_from 0 commands)) none

pub within_all : (commands : List (Event ℕ)) (d : Event ℕ) (place : ℕ) → place ≤ length commands → first_fall commands ≡ None → duration (take place commands) ≤ duration commands
within_all commands d place within none =
    let more = length commands - place in
    let e : place + more ≡ length commands = omega arith in
    let all : length commands ≤ place + more = omega arith in
    subst (λ (l : List (Event ℕ)). duration (take place commands) ≤ duration l) (take_all commands (place + more) all)
    (longer commands d place more (omega arith) (subst (NoneFalls commands) (sym e) (nothing_falls commands none)))

-- ---- how many columns there are

one_told : (now : Option ℕ) → unwrap_or (option_or None now) 0 - unwrap_or (option_or now None) 0 ≡ 0
one_told None = refl
one_told (Some now) = omega arith

-- between the moments of one command none pass
pub none_pass : (commands : List (Event ℕ)) → length commands ≤ 1 → duration commands ≡ 0
none_pass [] few = refl
none_pass (x ∷ []) few = one_told (moment_of x)
none_pass (x ∷ y ∷ rest) few = absurd (omega arith)

-- for how many moments a column stands is small
pub unit_small : (commands : List (Event ℕ)) (most : ℕ) → duration commands ≤ 2 * most → duration commands / max 1 (length commands) ≤ most
unit_small commands most within =
    let wide = max 1 (length commands) in
    div-le_of_le-mul wide
    (elim (cases_lt (length commands) 2) [
      | inl few ↦ let none : duration commands ≡ 0 = none_pass commands (omega (arith, few)) in rw none (omega arith)
      | inr many ↦
          let two : 2 ≤ wide = omega (arith, many) in
          let more : 2 * most ≤ wide * most = mul-le-mul_right most two in
          omega (arith, within, more)
    ])

-- there are fewer columns between commands than commands
pub few_between : (commands : List (Event ℕ)) (passed : ℕ) → passed ≤ duration commands → passed / unit_of commands < max 1 (length commands)
few_between commands passed within =
    let wide = max 1 (length commands) in
    let one : 0 < wide = omega arith in
    let less : duration commands < wide * (duration commands / wide + 1) = lt-mul-div-succ (duration commands) one in
    let below : passed < wide * unit_of commands = omega (arith, within, less) in
    let unit : 0 < unit_of commands = omega arith in
    (div-lt_iff_lt-mul unit).1 below

-- ---- what the code counts

-- how many moments pass in a period
pub passed_in : (commands : List (Event ℕ)) (period : Period) (passed : ℕ) → IsPeriod commands period → passed ≡ unwrap_or period.last 0 - unwrap_or period.first 0
    → passed ≡ duration commands
passed_in commands period passed is so =
    so
    ∙ ap (λ (o : Option ℕ). unwrap_or o 0 - unwrap_or period.first 0) is.last
    ∙ ap (λ (o : Option ℕ). unwrap_or (last_moment commands) 0 - unwrap_or o 0) is.first

-- up to a command fewer columns are between commands than there are commands
pub few_before : (commands : List (Event ℕ)) (d : Event ℕ) (place passed unit : ℕ) → place < length commands → unit ≡ unit_of commands → first_fall commands ≡ None
    → passed ≡ duration (take (place + 1) commands) → passed / unit < length commands
few_before commands d place passed unit within is rise so =
    let le : passed ≤ duration commands = rw so (within_all commands d (place + 1) (omega arith) rise) in
    let few : passed / unit_of commands < max 1 (length commands) = few_between commands passed le in
    rw is (omega (arith, few))
