-- What a look at a fence answers.
use Rattle.std.specs.Prelude.{◌≡◌, ◌<◌, ◌≤◌, ℕ, ℤ, [], ◌∷◌, ◌++◌, Result, Err}
use Rattle.ww_lock.specs.Fences.{NotBack}
use Rattle.ww_lock.specs.Rule.{In}
use Rattle.drm_sched.specs.Calls.{StatusIs}
use Rattle.drm_sched.specs.Marks.{MarkedDevice}
use Rattle.drm_fence.specs.declared.phase.Phase.TheVariants as phase
use Rattle.drm_state.specs.Keeps.{word_of}
use Rattle.drm_gpu.specs.declared.fence_word.FenceWord.{FenceWord}
use Rattle.drm_gpu.specs.declared.fence_word.FenceWord.TheVariants.{Unarmed, Active, Ended}
use Rattle.drm_fence.specs.declared.timeline.NoFence.{NoFence}
use Rattle.drm_gpu.specs.Passes.{PassState, IsGood, GrowsTo, word_shown}

-- the number that stands for a fence word in the table of the lock
abbrev pub number_of : FenceWord → ℕ
number_of Unarmed = 0
number_of Active = 1
number_of (Ended outcome) = word_of (phase.Ended outcome)

-- a pass looked at a fence word: that of a lawful device which came of the one that it saw last, and which shows no
-- fence earlier than the pass saw it
pub record LooksAt (fence : ℕ) (d : MarkedDevice) (old new : PassState) : Type 0 where
  pub lawful : IsGood d
  pub later : GrowsTo old.last d
  pub shows : (f word : ℕ) → In (f, word) old.looked → NotBack word (word_shown d f)
  pub looks : new ≡ record old { looked = old.looked ++ (fence, word_shown d fence) ∷ [] }

-- what is answered of a fence. Where the device has no fence of this number, the look is one at the first
pub record AnswersStatus (count fence : ℕ) (answer : Result ℤ NoFence) (old new : PassState) : Type 0 where
  pub device : MarkedDevice
  pub there : fence < count → LooksAt fence device old new × StatusIs fence answer device
  pub none : count ≤ fence → LooksAt 0 device old new × (answer ≡ Err (record { fence = fence }))
