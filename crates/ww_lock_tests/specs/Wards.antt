-- Pivots of the tests: a fence word, and the number of a task.
use Rattle.std.specs.Prelude.{ℕ, zero, suc, ◌<◌, ◌≡◌}
use Rattle.std.proofs.Common.{refl, inl}
use Rattle.ww_lock.specs.Fences.{NotBack}

-- the pivot is the word of fence 0
abbrev pub word_of : ℕ → ℕ → ℕ
word_of p zero = p
word_of p (suc f) = 0

-- no pivot waits for a task
abbrev pub awaits : ℕ → ℕ → Type 0
awaits p t = ⊥

pub words_onward : (p q : ℕ) → NotBack p q → (f : ℕ) → NotBack (word_of p f) (word_of q f)
words_onward p q h zero = h
words_onward p q h (suc f) = inl refl

-- the pivot is the number of the task, which is not 0
abbrev pub is_task : ℕ → ℕ → Type 0
is_task p t = (p ≡ t) × (0 < t)
