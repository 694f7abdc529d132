-- The packets of all jobs are counted in one pass over a run.
use Rattle.std.proofs.Common.{◌≡◌, ◌∙◌, ℕ, suc, zero, Bool, true, false, cond, not, ◌==◌, List, [], ◌∷◌, ◌+◌, ◌<◌, ◌≤◌, Some, None, ap, refl, sym, arith, get_or, length, set, take, replicate, position}
use Rattle.std.specs.Prelude.{count_by, nat_lt, unwrap_or}
use Rattle.std.specs.List.{position_or_len}
use Rattle.std.proofs.lemmas.Bool.{eq-eqb, eqb-true, ltb-false}
use Rattle.std.proofs.lemmas.List.{get_or-replicate, get_or-set_other, length-replicate, length-set, length-take}
use Rattle.std.proofs.lemmas.List.Sums.{count_by-le-length, prefix_len-le-length, sum_by-cons}
use Rattle.std.proofs.lemmas.Grind.{get_or-set_at}
use Rattle.drm_state.specs.declared.answer.Answer.{Answer}
use Rattle.drm_state.specs.declared.answer.Answer.TheVariants as answer
use Rattle.drm_picture.specs.Bars.{ends_job, packets_of, runs, steps_between}
use Rattle.drm_picture.specs.Packets.{AreCounted, counted_by, ran_of, room_of}
use Rattle.drm_picture.specs.declared.bars.Kind.{Kind}
use Rattle.drm_picture.specs.declared.bars.Kind.TheVariants as kind
use Rattle.drm_picture.specs.declared.bars.Opening.{Opening}
use Rattle.drm_picture.specs.declared.command.Step.{Step}

-- ---- a step more

abbrev Ends : ℕ → Step → Bool
Ends fence step = ends_job fence step.answer

abbrev Runs : ℕ → Step → Bool
Runs fence step = runs fence step.answer

-- what is counted of a step and of those behind it
abbrev ran_by : ℕ → Answer → ℕ → ℕ
ran_by fence a rest = cond (ends_job fence a) 0 (cond (runs fence a) 1 0 + rest)

ran_cons : (fence : ℕ) (step : Step) (behind : List Step) (b : Bool) → ends_job fence step.answer ≡ b
    → ran_of fence (step ∷ behind) ≡ cond b 0 (cond (runs fence step.answer) 1 0 + ran_of fence behind)
ran_cons fence step behind true is =
    ap (λ (b : Bool). count_by (Runs fence) (take (cond (not b) (1 + position_or_len (Ends fence) behind) 0) (step ∷ behind))) is
ran_cons fence step behind false is =
    let place = position_or_len (Ends fence) behind in
    let next : 1 + place ≡ suc place = omega arith in
    ap (λ (b : Bool). count_by (Runs fence) (take (cond (not b) (1 + place) 0) (step ∷ behind))) is
    ∙ ap (λ (n : ℕ). count_by (Runs fence) (take n (step ∷ behind))) next
    ∙ sum_by-cons (λ (s : Step). cond (Runs fence s) 1 0) step (take place behind)

ran_next : (fence : ℕ) (step : Step) (behind : List Step) → ran_of fence (step ∷ behind) ≡ ran_by fence step.answer (ran_of fence behind)
ran_next fence step behind =
    ran_cons fence step behind (ends_job fence step.answer) refl

set_by : (counts : List ℕ) (place fence value : ℕ) (b : Bool) → (place == fence) ≡ b → fence < length counts → get_or (set counts place value) fence 0 ≡ cond b value (get_or counts fence 0)
set_by counts place fence value true is within = get_or-set_at counts place fence value 0 (sym (eqb-true place fence is)) (omega (arith, within, eqb-true place fence is))
set_by counts place fence value false is within =
    get_or-set_other counts place fence value 0 (λ same. absurd (let both : true ≡ false = sym (eq-eqb place fence (sym same)) ∙ is in cc))

counted_at : (b : Bool) (counts : List ℕ) (place fence rest : ℕ) → (place == fence) ≡ b → get_or counts fence 0 ≡ rest
    → cond b (get_or counts place 0 + 1) (get_or counts fence 0) ≡ cond b 1 0 + rest
counted_at true counts place fence rest is so =
    let same : get_or counts place 0 ≡ rest = ap (λ (n : ℕ). get_or counts n 0) (eqb-true place fence is) ∙ so in
    omega (arith, same)
counted_at false counts place fence rest is so = omega (arith, so)

cleared_at : (b : Bool) (counted rest : ℕ) → counted ≡ rest → cond b 0 counted ≡ cond b 0 (0 + rest)
cleared_at true counted rest so = refl
cleared_at false counted rest so = omega (arith, so)

counted_get : (a : Answer) (counts : List ℕ) (fence rest : ℕ) → fence < length counts → get_or counts fence 0 ≡ rest → get_or (counted_by a counts) fence 0 ≡ ran_by fence a rest
counted_get (answer.Ran ran packet) counts fence rest within so =
    set_by counts ran fence (get_or counts ran 0 + 1) (ran == fence) refl within ∙ counted_at (ran == fence) counts ran fence rest refl so
counted_get (answer.Finished ended outcome) counts fence rest within so =
    set_by counts ended fence 0 (ended == fence) refl within ∙ cleared_at (ended == fence) (get_or counts fence 0) rest so
counted_get _ counts fence rest within so = omega (arith, so)

pub length_counted : (a : Answer) (counts : List ℕ) → length (counted_by a counts) ≡ length counts
length_counted (answer.Ran fence packet) counts = length-set counts fence (get_or counts fence 0 + 1)
length_counted (answer.Finished fence outcome) counts = length-set counts fence 0
length_counted _ counts = refl

none_counted : (a : Answer) → counted_by a [] ≡ []
none_counted (answer.Ran fence packet) = refl
none_counted (answer.Finished fence outcome) = refl
none_counted _ = refl

still_none : (a : Answer) (counts : List ℕ) → counts ≡ [] → counted_by a counts ≡ []
still_none a counts none = ap (counted_by a) none ∙ none_counted a

-- the step before those that are counted
pub counted_more : (k : Kind) (step : Step) (behind : List Step) (counts : List ℕ) → AreCounted k behind counts → AreCounted k (step ∷ behind) (counted_by step.answer counts)
counted_more kind.Job step behind counts so = λ fence within.
    counted_get step.answer counts fence (ran_of fence behind) (omega (arith, within, length_counted step.answer counts)) (so fence (omega (arith, within, length_counted step.answer counts)))
    ∙ sym (ran_next fence step behind)
counted_more kind.Queued step behind counts so = still_none step.answer counts so
counted_more kind.Stopped step behind counts so = still_none step.answer counts so
counted_more kind.Lock step behind counts so = still_none step.answer counts so
counted_more kind.Fence step behind counts so = still_none step.answer counts so
counted_more kind.Waiting step behind counts so = still_none step.answer counts so

-- ---- none yet

none_ran : (fence n : ℕ) (counts : List ℕ) → counts ≡ replicate n 0 → fence < length counts → get_or counts fence 0 ≡ 0
none_ran fence n counts is within =
    ap (λ (l : List ℕ). get_or l fence 0) is ∙ get_or-replicate n fence 0 0 (omega (arith, within, ap length is, length-replicate {A = ℕ} n 0))

pub counted_first : (k : Kind) (run behind : List Step) (counts : List ℕ) → behind ≡ [] → counts ≡ replicate (room_of k run) 0 → AreCounted k behind counts
counted_first kind.Job run behind counts end is = λ fence within. none_ran fence (length run) counts is within ∙ ap (ran_of fence) (sym end)
counted_first kind.Queued run behind counts end is = is
counted_first kind.Stopped run behind counts end is = is
counted_first kind.Lock run behind counts end is = is
counted_first kind.Fence run behind counts end is = is
counted_first kind.Waiting run behind counts end is = is

-- ---- what is read of them

few_ran : (fence : ℕ) (behind : List Step) → ran_of fence behind ≤ length behind
few_ran fence behind =
    let place = position_or_len (Ends fence) behind in
    omega (arith, count_by-le-length (Runs fence) (take place behind), length-take place behind)

counted_least : (counts : List ℕ) (fence most : ℕ) → (fence < length counts → get_or counts fence 0 ≤ most) → get_or counts fence 0 ≤ most
counted_least [] fence most within = omega arith
counted_least (n ∷ counts) zero most within = within (omega arith)
counted_least (n ∷ counts) (suc fence) most within = counted_least counts fence most (λ less. within (omega (arith, less)))

none_least : (counts : List ℕ) (fence most : ℕ) → counts ≡ [] → get_or counts fence 0 ≤ most
none_least counts fence most none = let is : get_or counts fence 0 ≡ 0 = ap (λ (l : List ℕ). get_or l fence 0) none in omega (arith, is)

pub counted_small : (k : Kind) (behind : List Step) (counts : List ℕ) → AreCounted k behind counts → (fence : ℕ) → get_or counts fence 0 ≤ length behind
counted_small kind.Job behind counts so fence = counted_least counts fence (length behind) (λ within. omega (arith, so fence within, few_ran fence behind))
counted_small kind.Queued behind counts so fence = none_least counts fence (length behind) so
counted_small kind.Stopped behind counts so fence = none_least counts fence (length behind) so
counted_small kind.Lock behind counts so fence = none_least counts fence (length behind) so
counted_small kind.Fence behind counts so fence = none_least counts fence (length behind) so
counted_small kind.Waiting behind counts so fence = none_least counts fence (length behind) so

place_told : (m all : ℕ) (b : Bool) → nat_lt m all ≡ b → m ≤ all → unwrap_or (cond b (Some m) None) all ≡ m
place_told m all true is most = refl
place_told m all false is most = omega (arith, most, ltb-false m all is)

between_is : (p : Step → Bool) (behind : List Step) → unwrap_or (position p behind) (length behind) ≡ position_or_len p behind
between_is p behind =
    let m = position_or_len p behind in
    place_told m (length behind) (nat_lt m (length behind)) refl (prefix_len-le-length (λ (s : Step). not (p s)) behind)

not_there : {X : Type 0} (counts : List ℕ) (fence : ℕ) → counts ≡ [] → fence < length counts → X
not_there counts fence none within = absurd (omega (arith, within, ap length none))

pub counted_is : (k : Kind) (opening : Opening) (behind : List Step) (counts : List ℕ) → AreCounted k behind counts → opening.number < length counts
    → get_or counts opening.number 0 ≡ packets_of k opening.number (take (steps_between k opening behind) behind)
counted_is kind.Job opening behind counts so within =
    so opening.number within ∙ ap (λ (n : ℕ). count_by (Runs opening.number) (take n behind)) (sym (between_is (Ends opening.number) behind))
counted_is kind.Queued opening behind counts so within = not_there counts opening.number so within
counted_is kind.Stopped opening behind counts so within = not_there counts opening.number so within
counted_is kind.Lock opening behind counts so within = not_there counts opening.number so within
counted_is kind.Fence opening behind counts so within = not_there counts opening.number so within
counted_is kind.Waiting opening behind counts so within = not_there counts opening.number so within
