-- Bounds of a list of numbers.
use Rattle.std.proofs.Common.{ℕ, List, ◌<◌, ◌≤◌, All, arith}

pub wider : (n m : ℕ) (xs : List ℕ) → n ≤ m → All (λ b. b < n) xs → All (λ b. b < m) xs
wider n m xs h a k d l = let p = a k d l in omega arith
