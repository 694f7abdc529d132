-- How jobs are dealt to submitters.
use Rattle.std.specs.Prelude.{◌≡◌, ◌==◌, ◌%◌, ◌+◌, ℕ, List, [], ◌∷◌, if◌then◌else◌, length, Some, slice_get}

-- of a list that begins at this place, what stands at the places that leave s when they are divided by n, in order
abbrev pub share_from : {J : Type 0} → ℕ → ℕ → ℕ → List J → List J
share_from n s place [] = []
share_from n s place (job ∷ jobs) = if place % n == s then job ∷ share_from n s (place + 1) jobs else share_from n s (place + 1) jobs

-- the jobs of submitter s of n: those at the places k with k % n = s, in order
abbrev pub share_of : {J : Type 0} → ℕ → ℕ → List J → List J
share_of n s jobs = share_from n s 0 jobs

-- there are n lists, and each has the jobs of its submitter
abbrev pub AreShares : {J V : Type 0} → (V → List J) → ℕ → List J → List V → Type 0
AreShares items n jobs shares = (length shares ≡ n) × ((s : ℕ) (v : _) → slice_get shares s ≡ Some v → items v ≡ share_of n s jobs)
