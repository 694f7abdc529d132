-- The totals of fences, and one command more.
use Rattle.std.proofs.Common.{◌≡◌, ◌≢◌, ℕ, ◌+◌, ◌<◌, ◌≤◌, Bool, true, false, List, drop, length, set, Option, None, Some, refl, sym, ap, subst, ◌∙◌, inl, inr, arith, slice_get}
use Rattle.std.specs.Prelude.{◌==◌, option_and_then, replicate}
use Rattle.std.specs.Option.{option_map_or}
use Rattle.std.proofs.lemmas.Bool.{eqb-true}
use Rattle.std.proofs.lemmas.List.{get_or-replicate, length-replicate}
use Rattle.std.proofs.lemmas.Option.{slice_get-get_or, slice_get_within}
use Rattle.drm_lists.proofs.Changed.{get_set_cases}
use Rattle.drm_why.specs.Totals.{AreCounted, AreTotals, counted_in, counts, does_so, fence_of, held_in, total_from, total_of}
use Rattle.drm_why.specs.declared.rings.Doing.{Doing}
use Rattle.drm_why.specs.declared.rings.Doing.TheVariants as doing
use Rattle.drm_why.specs.declared.rings.Row.{Row}
use Rattle.drm_why.specs.declared.totals.Kind.TheVariants as kind
use Rattle.drm_why.specs.declared.totals.Total.{Total}
use Rattle.drm_why.proofs.Most.{total_ends, total_more}

is_not : (b : Bool) → (b ≡ true → ⊥) → b ≡ false
is_not true other = absurd (other refl)
is_not false other = refl

-- a ring is held up by no fence but the one that holds it up
none_held : (o : Option Doing) (fence : ℕ) → option_and_then fence_of o ≡ None → option_map_or (counts (kind.HeldBy fence)) o false ≡ false
none_held None fence none = refl
none_held (Some (doing.Held other)) fence none = absurd (cc (none))
none_held (Some doing.Busy) fence none = refl
none_held (Some doing.Unused) fence none = refl
none_held (Some doing.Ready) fence none = refl
none_held (Some doing.Stopped) fence none = refl

other_held : (o : Option Doing) (fence holder : ℕ) → option_and_then fence_of o ≡ Some holder → fence ≢ holder → option_map_or (counts (kind.HeldBy fence)) o false ≡ false
other_held None fence holder held apart = refl
other_held (Some (doing.Held other)) fence holder held apart =
    let same : other ≡ holder = cc (held) in
    is_not (fence == other) (λ is. apart (eqb-true fence other is ∙ same))
other_held (Some doing.Busy) fence holder held apart = refl
other_held (Some doing.Unused) fence holder held apart = refl
other_held (Some doing.Ready) fence holder held apart = refl
other_held (Some doing.Stopped) fence holder held apart = refl

held_there : (ring : ℕ) (rows : List Row) (n : ℕ) (row : Row) → slice_get rows n ≡ Some row → held_in ring rows n ≡ option_and_then fence_of (slice_get row.doings ring)
held_there ring rows n row at = ap (λ (o : Option Row). option_and_then (λ r. option_and_then fence_of (slice_get r.doings ring)) o) at

-- a total stays where the ring is not held up by its fence
stays : (ring fence : ℕ) (total : Total) (row : Row) (rest : List Row) → does_so ring (kind.HeldBy fence) row ≡ false → total ≡ counted_in ring (kind.HeldBy fence) total row rest
stays ring fence total row rest not = rw not refl

pub none_counted : (ring : ℕ) (rows : List Row) (n : ℕ) (row : Row) (totals : List Total) → slice_get rows n ≡ Some row → held_in ring rows n ≡ None → AreCounted ring rows n totals
    → AreCounted ring rows (n + 1) totals
none_counted ring rows n row totals at none are fence total there =
    total_more ring (kind.HeldBy fence) rows n row total total (total_of ring (kind.HeldBy fence) rows) at
    (stays ring fence total row (drop (n + 1) rows) (none_held (slice_get row.doings ring) fence (sym (held_there ring rows n row at) ∙ none))) (are fence total there)

apart_counted : (ring : ℕ) (rows : List Row) (n fence holder : ℕ) (row : Row) (totals : List Total) (total : Total) → slice_get rows n ≡ Some row → held_in ring rows n ≡ Some holder
    → fence ≢ holder → AreCounted ring rows n totals → slice_get totals fence ≡ Some total
    → total_from ring (kind.HeldBy fence) total (drop (n + 1) rows) ≡ total_of ring (kind.HeldBy fence) rows
apart_counted ring rows n fence holder row totals total at held apart are there =
    total_more ring (kind.HeldBy fence) rows n row total total (total_of ring (kind.HeldBy fence) rows) at
    (stays ring fence total row (drop (n + 1) rows) (other_held (slice_get row.doings ring) fence holder (sym (held_there ring rows n row at) ∙ held) apart)) (are fence total there)

pub past_counted : (ring : ℕ) (rows : List Row) (n holder : ℕ) (row : Row) (totals : List Total) → slice_get rows n ≡ Some row → held_in ring rows n ≡ Some holder
    → length totals ≤ holder → AreCounted ring rows n totals → AreCounted ring rows (n + 1) totals
past_counted ring rows n holder row totals at held past are fence total there =
    let within = slice_get_within totals fence total there in
    apart_counted ring rows n fence holder row totals total at held (λ same. absurd (omega (arith, same, within, past))) are there

pub one_counted : (ring : ℕ) (rows : List Row) (n holder : ℕ) (row : Row) (totals : List Total) (old new : Total) → slice_get rows n ≡ Some row → held_in ring rows n ≡ Some holder
    → slice_get totals holder ≡ Some old → new ≡ counted_in ring (kind.HeldBy holder) old row (drop (n + 1) rows) → AreCounted ring rows n totals
    → AreCounted ring rows (n + 1) (set totals holder new)
one_counted ring rows n holder row totals old new at held there is are fence total now =
    elim (get_set_cases totals holder fence old new total there now) [
      | inl same ↦
          subst (λ (f : ℕ). total_from ring (kind.HeldBy f) total (drop (n + 1) rows) ≡ total_of ring (kind.HeldBy f) rows) (sym same.0)
          (total_more ring (kind.HeldBy holder) rows n row old total (total_of ring (kind.HeldBy holder) rows) at (same.1 ∙ is) (are holder old there))
      | inr other ↦ apart_counted ring rows n fence holder row totals total at held other.0 are other.1
    ]

-- none is counted yet
pub none_yet : (ring : ℕ) (rows : List Row) (count : ℕ) → AreCounted ring rows 0 (replicate count (record { commands = 0; moments = 0 }))
none_yet ring rows count fence total there =
    let zero_total : Total = record { commands = 0; moments = 0 } in
    let within = slice_get_within (replicate count zero_total) fence total there in
    let few : fence < count = subst (λ (n : ℕ). fence < n) (length-replicate count zero_total) within in
    let read = slice_get-get_or (replicate count zero_total) fence zero_total within ∙ ap Some (get_or-replicate count fence zero_total zero_total few) in
    let same : total ≡ zero_total = cc (there, read) in
    ap (λ (t : Total). total_from ring (kind.HeldBy fence) t (drop 0 rows)) same

-- all are
pub all_counted : (ring : ℕ) (rows : List Row) (n : ℕ) (totals : List Total) → length rows ≤ n → AreCounted ring rows n totals → AreTotals ring rows totals
all_counted ring rows n totals all are fence total there = total_ends ring (kind.HeldBy fence) rows n total (total_of ring (kind.HeldBy fence) rows) all (are fence total there)
