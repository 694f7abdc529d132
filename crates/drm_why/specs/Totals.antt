-- For how long each ring did what.
use Rattle.std.specs.Prelude.{◌≡◌, ℕ, zero, suc, ◌+◌, ◌-◌, ◌^◌, ◌<◌, ◌≤◌, ◌==◌, Bool, true, false, min, if◌then◌else◌, List, [], ◌∷◌, ◌++◌, Option, Some, None, codes, drop, length, option_and_then, slice_get}
use Rattle.std.specs.Fmt.{decimal}
use Rattle.std.specs.Option.{option_map_or}
use Rattle.drm_types.specs.Firsts.{first}
use Rattle.drm_why.specs.declared.rings.Doing.{Doing}
use Rattle.drm_why.specs.declared.rings.Doing.TheVariants as doing
use Rattle.drm_why.specs.declared.rings.Row.{Row}
use Rattle.drm_why.specs.declared.totals.Kind.{Kind}
use Rattle.drm_why.specs.declared.totals.Kind.TheVariants as kind
use Rattle.drm_why.specs.declared.totals.Total.{Total}
use Rattle.drm_why.specs.Sentences.{one_in, two_in}

-- whether what a ring does is of a kind
abbrev pub counts : Kind → Doing → Bool
counts kind.Busy doing.Busy = true
counts kind.Unused doing.Unused = true
counts kind.Ready doing.Ready = true
counts kind.Stopped doing.Stopped = true
counts kind.Held (doing.Held fence) = true
counts (kind.HeldBy fence) (doing.Held other) = fence == other
counts other does = false

abbrev pub does_so : ℕ → Kind → Row → Bool
does_so ring kind row = option_map_or (counts kind) (slice_get row.doings ring) false

-- the moments that passed up to the next command
abbrev pub moments_till : Row → List Row → ℕ
moments_till row rest = option_map_or (λ next. next.clock - row.clock) (first rest) 0

-- as far as 64 bits count
abbrev pub plus : ℕ → ℕ → ℕ
plus a b = min (a + b) (2 ^ 64 - 1)

-- a command more, and the moments that passed behind it
abbrev pub with_command : Total → ℕ → Total
with_command total moments = record { commands = plus total.commands 1; moments = plus total.moments moments }

abbrev pub counted_in : ℕ → Kind → Total → Row → List Row → Total
counted_in ring kind total row rest = if does_so ring kind row then with_command total (moments_till row rest) else total

abbrev pub total_from : ℕ → Kind → Total → List Row → Total
total_from ring kind total [] = total
total_from ring kind total (row ∷ rest) = total_from ring kind (counted_in ring kind total row rest) rest

-- for how many commands and moments the ring did what is of this kind
abbrev pub total_of : ℕ → Kind → List Row → Total
total_of ring kind rows = total_from ring kind (record { commands = 0; moments = 0 }) rows

-- these are the totals of the first fences, where the commands from this place on are still to be counted
abbrev pub AreCounted : ℕ → List Row → ℕ → List Total → Type 0
AreCounted ring rows place totals =
    (fence : ℕ) (total : Total) → slice_get totals fence ≡ Some total
    → total_from ring (kind.HeldBy fence) total (drop place rows) ≡ total_of ring (kind.HeldBy fence) rows

-- for how long each of the first fences held the ring up
abbrev pub AreTotals : ℕ → List Row → List Total → Type 0
AreTotals ring rows totals = (fence : ℕ) (total : Total) → slice_get totals fence ≡ Some total → total ≡ total_of ring (kind.HeldBy fence) rows

-- ---- the fence that held the ring up longest

abbrev pub fence_of : Doing → Option ℕ
fence_of (doing.Held fence) = Some fence
fence_of other = None

-- the fence that holds the ring up behind the command of this number
abbrev pub held_in : ℕ → List Row → ℕ → Option ℕ
held_in ring rows number = option_and_then (λ row. option_and_then fence_of (slice_get row.doings ring)) (slice_get rows number)

-- for how many commands this fence held the ring up
abbrev pub commands_for : ℕ → List Row → ℕ → ℕ
commands_for ring rows fence = (total_of ring (kind.HeldBy fence) rows).commands

-- this fence holds it up behind the command before
pub record WasHeld (ring : ℕ) (rows : List Row) (number fence : ℕ) : Type 0 where
  pub place : ℕ
  pub before : place < number
  pub held : held_in ring rows place ≡ Some fence

-- of the fences that held the ring up behind the first commands this one did for the most commands of all, and it is
-- the first of those: no fence that did before this place held the ring up for as many
pub record IsMost (ring : ℕ) (rows : List Row) (before place fence : ℕ) : Type 0 where
  pub within : place < before
  pub held : held_in ring rows place ≡ Some fence
  pub most : (i other : ℕ) → i < before → held_in ring rows i ≡ Some other → commands_for ring rows other ≤ commands_for ring rows fence
  pub first : (i other : ℕ) → i < place → held_in ring rows i ≡ Some other → commands_for ring rows other < commands_for ring rows fence

-- so it is with this fence, or none held the ring up
abbrev pub MostIs : ℕ → List Row → ℕ → Option ℕ → Type 0
MostIs ring rows before (Some fence) = (place : ℕ) × IsMost ring rows before place fence
MostIs ring rows before None = (i fence : ℕ) → i < before → held_in ring rows i ≡ Some fence → ⊥

-- ---- the text

abbrev pub said_of_total : List ℕ → Total → List ℕ
said_of_total text total = two_in text total.commands (codes " and ") total.moments

abbrev pub said_of_busy : Total → List ℕ
said_of_busy total = two_in (codes ": busy for ") total.commands (codes " commands and ") total.moments

unfoldable pub said_of_totals : ℕ → List Row → List ℕ
said_of_totals ring rows =
    said_of_busy (total_of ring kind.Busy rows)
    ++ said_of_total (codes " moments, idle with nothing queued for ") (total_of ring kind.Unused rows)
    ++ said_of_total (codes ", with a job to take for ") (total_of ring kind.Ready rows)
    ++ said_of_total (codes ", with a stopped job for ") (total_of ring kind.Stopped rows)
    ++ said_of_total (codes ", held up by fences for ") (total_of ring kind.Held rows)

unfoldable pub said_of_longest : ℕ → List Row → ℕ → List ℕ
said_of_longest ring rows fence =
    one_in (codes ", longest by fence ") fence (codes ",") ++ said_of_total (codes " for ") (total_of ring (kind.HeldBy fence) rows) ++ codes "\n"

abbrev pub said_of_most : ℕ → List Row → Option ℕ → List ℕ
said_of_most ring rows None = codes "\n"
said_of_most ring rows (Some fence) = said_of_longest ring rows fence

-- for how many commands and moments the ring was busy and idle, and which fence held it up longest
unfoldable pub line_of_ring : ℕ → List Row → Option ℕ → List ℕ
line_of_ring ring rows most = codes "ring " ++ decimal ring ++ said_of_totals ring rows ++ said_of_most ring rows most

-- a line for each of the first rings
abbrev pub TellsRings : List Row → ℕ → List ℕ → Type 0
TellsRings rows zero text = text ≡ []
TellsRings rows (suc ring) text =
    (before : List ℕ) × (most : Option ℕ) × TellsRings rows ring before × MostIs ring rows (length rows) most × (text ≡ before ++ line_of_ring ring rows most)
