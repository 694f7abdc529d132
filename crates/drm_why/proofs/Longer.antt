-- The longest so far, and one change more.
use Rattle.std.proofs.Common.{◌≡◌, ℕ, ◌+◌, ◌<◌, ◌≤◌, ◌⊎◌, true, List, length, Some, None, Option, subst, sym, inl, inr, arith, slice_get}
use Rattle.std.proofs.lemmas.Bool.{both_ways, cases_eq}
use Rattle.std.proofs.lemmas.Option.{slice_get_within}
use Rattle.drm_types.specs.Firsts.{is_nil}
use Rattle.drm_why.specs.Longest.{IsHeld, LongestIs, commands_of}
use Rattle.drm_why.specs.declared.seeing.Change.{Change}

-- the longest so far is there
pub longest_within : (changes : List Change) (place n i : ℕ) → LongestIs changes place n (Some i) → i < length changes
longest_within changes place n i is = slice_get_within changes i is.0 is.1.held.at

-- what stands before a place and at it
pub before_or_at : (n i : ℕ) → i < n + 1 → (i < n) ⊎ (i ≡ n)
before_or_at n i less =
    elim (cases_eq i n) [
      | inl same ↦ inr same
      | inr apart ↦ inl (omega (arith, less, apart))
    ]

-- a change with which no job held this one up
nothing_more : (changes : List Change) (n i : ℕ) (change other : Change) → slice_get changes n ≡ Some change → is_nil change.links ≡ true → i < n + 1
    → IsHeld changes i other → i < n
nothing_more changes n i change other at none less held =
    elim (before_or_at n i less) [
      | inl before ↦ before
      | inr same ↦
          let there : slice_get changes n ≡ Some other = subst (λ (k : ℕ). slice_get changes k ≡ Some other) same held.at in
          let one : change ≡ other = cc (at, there) in
          absurd (both_ways (is_nil other.links) held.held (subst (λ (c : Change). is_nil c.links ≡ true) one none))
    ]

pub not_held : (changes : List Change) (place n : ℕ) (longest : Option ℕ) (change : Change) → slice_get changes n ≡ Some change → is_nil change.links ≡ true
    → LongestIs changes place n longest → LongestIs changes place (n + 1) longest
not_held changes place n None change at none is = λ i other less held. is i other (nothing_more changes n i change other at none less held) held
not_held changes place n (Some o) change at none (best, is) = (
  best,
  record {
    within = omega (arith, is.within);
    held = is.held;
    most = λ i other less held. is.most i other (nothing_more changes n i change other at none less held) held;
    first = is.first;
  },
)

-- the first with which a job did
pub held_first : (changes : List Change) (place n : ℕ) (change : Change) → IsHeld changes n change → LongestIs changes place n None → LongestIs changes place (n + 1) (Some n)
held_first changes place n change held none = (
  change,
  record {
    within = omega arith;
    held = held;
    most = λ i other less is. elim (before_or_at n i less) [
      | inl before ↦ absurd (none i other before is)
      | inr same ↦ subst (λ (k : ℕ). commands_of changes place k ≤ commands_of changes place n) (sym same) (omega arith)
    ];
    first = λ i other less is. absurd (none i other less is);
  },
)

-- one that held for more commands
pub held_longer : (changes : List Change) (place n o : ℕ) (change : Change) → IsHeld changes n change → commands_of changes place o < commands_of changes place n
    → LongestIs changes place n (Some o) → LongestIs changes place (n + 1) (Some n)
held_longer changes place n o change held more (best, is) = (
  change,
  record {
    within = omega arith;
    held = held;
    most = λ i other less here. elim (before_or_at n i less) [
      | inl before ↦ let most = is.most i other before here in omega (arith, most, more)
      | inr same ↦ subst (λ (k : ℕ). commands_of changes place k ≤ commands_of changes place n) (sym same) (omega arith)
    ];
    first = λ i other less here. let most = is.most i other less here in omega (arith, most, more);
  },
)

-- one that held for no more
pub held_shorter : (changes : List Change) (place n o : ℕ) → commands_of changes place n ≤ commands_of changes place o → LongestIs changes place n (Some o)
    → LongestIs changes place (n + 1) (Some o)
held_shorter changes place n o less (best, is) = (
  best,
  record {
    within = omega (arith, is.within);
    held = is.held;
    most = λ i other before here. elim (before_or_at n i before) [
      | inl earlier ↦ is.most i other earlier here
      | inr same ↦ subst (λ (k : ℕ). commands_of changes place k ≤ commands_of changes place o) (sym same) less
    ];
    first = is.first;
  },
)
