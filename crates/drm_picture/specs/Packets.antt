-- Packets: how many of a job run before it leaves its ring, counted from the end of a run on.
use Rattle.std.specs.Prelude.{◌≡◌, ℕ, ◌+◌, ◌<◌, List, [], count_by, get_or, length, set, take}
use Rattle.std.specs.List.{position_or_len}
use Rattle.drm_state.specs.declared.answer.Answer.{Answer}
use Rattle.drm_state.specs.declared.answer.Answer.TheVariants as answer
use Rattle.drm_picture.specs.Bars.{ends_job, runs}
use Rattle.drm_picture.specs.declared.bars.Kind.{Kind}
use Rattle.drm_picture.specs.declared.bars.Kind.TheVariants as kind
use Rattle.drm_picture.specs.declared.command.Step.{Step}

-- how many packets of the job of this fence run by these steps before it leaves its ring
abbrev pub ran_of : ℕ → List Step → ℕ
ran_of fence behind = count_by (λ step. runs fence step.answer) (take (position_or_len (λ step. ends_job fence step.answer) behind) behind)

-- for each fence the packets of its job are counted, if they are asked for
abbrev pub AreCounted : Kind → List Step → List ℕ → Type 0
AreCounted kind.Job behind counts = (fence : ℕ) → fence < length counts → get_or counts fence 0 ≡ ran_of fence behind
AreCounted _ behind counts = counts ≡ []

-- for how many fences they are counted: no run arms more than it has steps
abbrev pub room_of : Kind → List Step → ℕ
room_of kind.Job run = length run
room_of _ run = 0

-- one is counted where it runs, and where a job leaves its ring the count begins anew
abbrev pub counted_by : Answer → List ℕ → List ℕ
counted_by (answer.Ran fence packet) counts = set counts fence (get_or counts fence 0 + 1)
counted_by (answer.Finished fence outcome) counts = set counts fence 0
counted_by _ counts = counts
