-- The changes so far, and one thing more that is seen.
use Rattle.std.proofs.Common.{◌≡◌, ℕ, ◌+◌, ◌≤◌, List, [], ◌∷◌, ◌++◌, Some, append_assoc, append-nil, drop, length, refl, sym, subst, inl, inr, slice_get}
use Rattle.std.proofs.Math.ListN.{drop_of_length-le}
use Rattle.drm_reason.specs.declared.reason.Reason.{Reason}
use Rattle.drm_reason.specs.declared.reason.Reason.TheVariants.{NotArmed}
use Rattle.drm_why.specs.Seeing.{AreChanges, IsChanged, change_at, clock_behind}
use Rattle.drm_why.specs.declared.seeing.Change.{Change}
use Rattle.drm_why.specs.declared.seeing.Seen.{Seen}
use Rattle.drm_why.proofs.Spans.{left_begins}

-- whatever the changes of the rest are, with those so far they are the changes of the whole
abbrev pub ChangesOn : List Seen → Reason → ℕ → ℕ → List Change → Type 0
ChangesOn seens before place clock so_far =
    (more : List Change) → AreChanges before place clock (drop place seens) more → AreChanges NotArmed 0 0 seens (so_far ++ more)

-- the rest from a place on begins with what is seen there
from_here : (seens : List Seen) (before : Reason) (place clock : ℕ) (seen : Seen) (more : List Change) → slice_get seens place ≡ Some seen
    → AreChanges before place clock (seen ∷ drop (place + 1) seens) more → AreChanges before place clock (drop place seens) more
from_here seens before place clock seen more at are =
    subst (λ (ss : List Seen). AreChanges before place clock ss more) (sym (left_begins seens place seen at)) are

pub changed_on : (seens : List Seen) (before : Reason) (place clock : ℕ) (seen : Seen) (so_far now : List Change) → slice_get seens place ≡ Some seen
    → IsChanged before place clock seen so_far now → ChangesOn seens before place clock so_far
    → ChangesOn seens seen.reason (place + 1) (clock_behind clock seen.command) now
changed_on seens before place clock seen so_far now at (inl (same, kept)) on more are =
    subst (λ (cs : List Change). AreChanges NotArmed 0 0 seens (cs ++ more)) (sym kept)
    (on more (from_here seens before place clock seen more at
    (inl (same, subst (λ (r : Reason). AreChanges r (place + 1) (clock_behind clock seen.command) (drop (place + 1) seens) more) same are))))
changed_on seens before place clock seen so_far now at (inr (apart, new)) on more are =
    subst (λ (cs : List Change). AreChanges NotArmed 0 0 seens (cs ++ more)) (sym new)
    (subst (λ (cs : List Change). AreChanges NotArmed 0 0 seens cs) (sym (append_assoc so_far (change_at place clock seen ∷ []) more))
    (on (change_at place clock seen ∷ more) (from_here seens before place clock seen (change_at place clock seen ∷ more) at (inr (apart, (more, refl, are))))))

pub changes_end : (seens : List Seen) (before : Reason) (place clock : ℕ) (so_far : List Change) → length seens ≤ place
    → ChangesOn seens before place clock so_far → AreChanges NotArmed 0 0 seens so_far
changes_end seens before place clock so_far all on =
    subst (λ (cs : List Change). AreChanges NotArmed 0 0 seens cs) (append-nil so_far)
    (on [] (subst (λ (ss : List Seen). AreChanges before place clock ss []) (sym (drop_of_length-le seens all)) refl))
