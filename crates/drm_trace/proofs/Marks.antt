-- Where marks and names of events stand.
use Rattle.std.proofs.Common.{◌≡◌, ℕ, ◌+◌, ◌<◌, ◌≤◌, ◌==◌, Bool, true, false, List, [], ◌∷◌, length, drop, slice_index, Option, Some, None, refl, sym, ap, ◌∙◌, arith}
use Rattle.std.specs.Prelude.{find, nat_le, slice_index_or}
use Rattle.std.proofs.lemmas.Bool.{and_right, ne_eqb}
use Rattle.std.proofs.lemmas.List.{at_drop_all, at_drop_more, drop_all}
use Rattle.drm_trace.specs.declared.kinds.Kind.{Kind}
use Rattle.drm_trace.specs.declared.kinds.Kind.TheVariants as kind
use Rattle.drm_trace.specs.Bytes.{begins_with, place_from}
use Rattle.drm_trace.specs.Kinds.{event_from, here_or, kind_at, kinds, mark_of}

-- a mark that begins with another byte does not stand first
begins_otherwise : (first byte : ℕ) (mark bytes : List ℕ) → (byte == first) ≡ false → begins_with (first ∷ mark) (byte ∷ bytes) ≡ false
begins_otherwise first byte mark bytes other = rw other (and_right (nat_le (length (first ∷ mark)) (length (byte ∷ bytes))) false refl)

-- every event's name begins with a colon
no_mark : (k : Kind) (byte : ℕ) (bytes : List ℕ) → (byte ≡ 58 → ⊥) → begins_with (mark_of k) (byte ∷ bytes) ≡ false
no_mark kind.JobQueue byte bytes other = begins_otherwise 58 byte (drop 1 (mark_of kind.JobQueue)) bytes (ne_eqb byte 58 other)
no_mark kind.JobRun byte bytes other = begins_otherwise 58 byte (drop 1 (mark_of kind.JobRun)) bytes (ne_eqb byte 58 other)
no_mark kind.JobDone byte bytes other = begins_otherwise 58 byte (drop 1 (mark_of kind.JobDone)) bytes (ne_eqb byte 58 other)
no_mark kind.JobAddDep byte bytes other = begins_otherwise 58 byte (drop 1 (mark_of kind.JobAddDep)) bytes (ne_eqb byte 58 other)
no_mark kind.JobUnschedulable byte bytes other = begins_otherwise 58 byte (drop 1 (mark_of kind.JobUnschedulable)) bytes (ne_eqb byte 58 other)
no_mark kind.SchedJob byte bytes other = begins_otherwise 58 byte (drop 1 (mark_of kind.SchedJob)) bytes (ne_eqb byte 58 other)
no_mark kind.RunJob byte bytes other = begins_otherwise 58 byte (drop 1 (mark_of kind.RunJob)) bytes (ne_eqb byte 58 other)
no_mark kind.ProcessJob byte bytes other = begins_otherwise 58 byte (drop 1 (mark_of kind.ProcessJob)) bytes (ne_eqb byte 58 other)
no_mark kind.JobWaitDep byte bytes other = begins_otherwise 58 byte (drop 1 (mark_of kind.JobWaitDep)) bytes (ne_eqb byte 58 other)

find_nowhere : (p : Kind → Bool) (xs : List Kind) → ((k : Kind) → p k ≡ false) → find p xs ≡ None
find_nowhere p [] none = refl
find_nowhere p (x ∷ xs) none = rw (none x) (find_nowhere p xs none)

-- no event's name stands where no colon does
no_kind : (byte : ℕ) (bytes : List ℕ) → (byte ≡ 58 → ⊥) → kind_at (byte ∷ bytes) ≡ None
unfolding kind_at
no_kind byte bytes other = find_nowhere (λ k. begins_with (mark_of k) (byte ∷ bytes)) kinds (λ k. no_mark k byte bytes other)

-- ---- names that are tried one after another

-- whether the name of an event stands first in some bytes
abbrev pub is_first : List ℕ → Kind → Bool
is_first bytes k = begins_with (mark_of k) bytes

-- a name that does not stand first
pub kind_later : (bytes mark : List ℕ) (i : ℕ) (d : Kind) → i < 9 → mark ≡ mark_of (slice_index_or kinds i d) → begins_with mark bytes ≡ false
    → find (is_first bytes) (drop i kinds) ≡ find (is_first bytes) (drop (i + 1) kinds)
kind_later bytes mark i d lt is other =
    let other_here : is_first bytes (slice_index_or kinds i d) ≡ false = ap (λ (m : List ℕ). begins_with m bytes) (sym is) ∙ other in
    at_drop_more (find (is_first bytes)) kinds i d lt ∙ rw other_here refl

pub kind_here : (bytes mark : List ℕ) (i : ℕ) (d : Kind) → i < 9 → mark ≡ mark_of (slice_index_or kinds i d) → begins_with mark bytes ≡ true
    → find (is_first bytes) (drop i kinds) ≡ find (is_first bytes) kinds → Some (slice_index_or kinds i d) ≡ kind_at bytes
unfolding kind_at
kind_here bytes mark i d lt is first so =
    let here : is_first bytes (slice_index_or kinds i d) ≡ true = ap (λ (m : List ℕ). begins_with m bytes) (sym is) ∙ first in
    let found : find (is_first bytes) (drop i kinds) ≡ Some (slice_index_or kinds i d) = at_drop_more (find (is_first bytes)) kinds i d lt ∙ rw here refl in
    sym found ∙ so

pub kind_nowhere : (bytes : List ℕ) (i : ℕ) → 9 ≤ i → find (is_first bytes) (drop i kinds) ≡ find (is_first bytes) kinds → None ≡ kind_at bytes
unfolding kind_at
kind_nowhere bytes i le so = sym (at_drop_all (find (is_first bytes)) kinds i le) ∙ so

-- ---- events

pub no_kind_here : (bytes : List ℕ) (at : ℕ) → at < length bytes → (slice_index bytes at ≡ 58 → ⊥) → kind_at (drop at bytes) ≡ None
no_kind_here bytes at lt other = at_drop_more kind_at bytes at 0 lt ∙ no_kind (slice_index bytes at) (drop (at + 1) bytes) other

-- no event at this place: then where it is further on
pub event_next : (bytes : List ℕ) (at : ℕ) → at < length bytes → kind_at (drop at bytes) ≡ None
    → event_from at (drop at bytes) ≡ event_from (at + 1) (drop (at + 1) bytes)
event_next bytes at lt none =
    at_drop_more (event_from at) bytes at 0 lt
    ∙ ap (λ (k : Option Kind). here_or at k (event_from (at + 1) (drop (at + 1) bytes))) (sym (at_drop_more kind_at bytes at 0 lt) ∙ none)

pub event_here : (bytes : List ℕ) (at : ℕ) (kind : Kind) → at < length bytes → kind_at (drop at bytes) ≡ Some kind → event_from at (drop at bytes) ≡ Some (at, kind)
event_here bytes at kind lt some =
    at_drop_more (event_from at) bytes at 0 lt
    ∙ ap (λ (k : Option Kind). here_or at k (event_from (at + 1) (drop (at + 1) bytes))) (sym (at_drop_more kind_at bytes at 0 lt) ∙ some)

pub event_nowhere : (bytes : List ℕ) (at : ℕ) → length bytes ≤ at → event_from at (drop at bytes) ≡ None
event_nowhere bytes at le = at_drop_all (event_from at) bytes at le

-- ---- marks

pub place_next : (mark bytes : List ℕ) (at : ℕ) → at < length bytes → begins_with mark (drop at bytes) ≡ false
    → place_from mark at (drop at bytes) ≡ place_from mark (at + 1) (drop (at + 1) bytes)
place_next mark bytes at lt other =
    let other_here : begins_with mark (slice_index bytes at ∷ drop (at + 1) bytes) ≡ false = sym (at_drop_more (begins_with mark) bytes at 0 lt) ∙ other in
    at_drop_more (place_from mark at) bytes at 0 lt ∙ rw other_here refl

pub place_here : (mark bytes : List ℕ) (at : ℕ) → at < length bytes → begins_with mark (drop at bytes) ≡ true → place_from mark at (drop at bytes) ≡ Some at
place_here mark bytes at lt is =
    let is_here : begins_with mark (slice_index bytes at ∷ drop (at + 1) bytes) ≡ true = sym (at_drop_more (begins_with mark) bytes at 0 lt) ∙ is in
    at_drop_more (place_from mark at) bytes at 0 lt ∙ rw is_here refl

pub place_nowhere : (mark bytes : List ℕ) (at : ℕ) → length bytes ≤ at → place_from mark at (drop at bytes) ≡ None
place_nowhere mark bytes at le = at_drop_all (place_from mark at) bytes at le
