-- The search for an end may begin where the place of its number is noted.
use Rattle.std.proofs.Common.{◌≡◌, ◌∙◌, ℕ, suc, zero, Bool, true, false, cond, not, ◌||◌, ◌&&◌, List, [], ◌∷◌, ◌+◌, ◌-◌, ◌≤◌, Option, Some, None, ap, refl, sym, arith, drop, get_or, length, min, option_map, position, set, take, inl, inr, ◌==◌, ◌⊎◌}
use Rattle.std.specs.Prelude.{nat_lt}
use Rattle.std.specs.List.{list_any, position_or_len}
use Rattle.std.proofs.lemmas.Bool.{cases_eq, eqb-true}
use Rattle.std.proofs.lemmas.List.{get_or-set_other, length-drop, length-set, take_min, take_rest}
use Rattle.std.proofs.lemmas.Option.{none-some, same_Some}
use Rattle.drm_state.specs.declared.answer.Answer.{Answer}
use Rattle.drm_state.specs.declared.answer.Answer.TheVariants as answer
use Rattle.drm_picture.specs.Bars.{drops, ends, ends_fence, ends_job, granted, leaves_queue, unlocks_in}
use Rattle.drm_picture.specs.Ends.{AreNext, ended_in_lock, ended_number, finished_fence, noted, number_in, number_of, over_fence, taken_fence}
use Rattle.drm_picture.specs.declared.bars.Kind.{Kind}
use Rattle.drm_picture.specs.declared.bars.Kind.TheVariants as kind
use Rattle.drm_picture.specs.declared.bars.Lane.{Lane}
use Rattle.drm_picture.specs.declared.bars.Lane.TheVariants as lane
use Rattle.drm_picture.specs.declared.bars.Opening.{Opening}
use Rattle.drm_core.specs.declared.event.Event.{Event}
use Rattle.drm_core.specs.declared.event.Event.TheVariants as event
use Rattle.drm_picture.specs.declared.command.Step.{Step}

pub or_false : (a b : Bool) → (a || b) ≡ false → (a ≡ false) × (b ≡ false)
or_false true b h = cc
or_false false b h = (refl, h)

pub left_true : (a b : Bool) → (a && b) ≡ true → a ≡ true
left_true true b h = refl
left_true false b h = h

pub not_true : (b : Bool) → (b ≡ true → ⊥) → b ≡ false
not_true true h = absurd (h refl)
not_true false h = refl

-- where none of the first n passes, the first that passes stands behind them
past_none : {X : Type 0} (p : X → Bool) (xs : List X) (n : ℕ) → n ≤ length xs → list_any p (take n xs) ≡ false → position_or_len p xs ≡ n + position_or_len p (drop n xs)
past_none p xs zero within none = omega arith
past_none p [] (suc n) within none = absurd (omega arith)
past_none p (x ∷ xs) (suc n) within none =
    let both : (p x ≡ false) × (list_any p (take n xs) ≡ false) = or_false (p x) (list_any p (take n xs)) none in
    let fewer : n ≤ length xs = omega arith in
    let rest : position_or_len p xs ≡ n + position_or_len p (drop n xs) = past_none p xs n fewer both.1 in
    let more : 1 + position_or_len p xs ≡ suc n + position_or_len p (drop n xs) = omega (arith, rest) in
    ap (λ (b : Bool). cond (not b) (1 + position_or_len p xs) 0) both.0 ∙ more

lt_shift : (n m all : ℕ) → n ≤ all → nat_lt (n + m) all ≡ nat_lt m (all - n)
lt_shift n m all within = grind arith

told_shift : (n m : ℕ) (b : Bool) → cond b (Some (n + m)) None ≡ option_map (λ k. n + k) (cond b (Some m) None)
told_shift n m true = refl
told_shift n m false = refl

position-past_none : {X : Type 0} (p : X → Bool) (xs : List X) (n : ℕ) → n ≤ length xs → list_any p (take n xs) ≡ false → position p xs ≡ option_map (λ k. n + k) (position p (drop n xs))
position-past_none p xs n within none =
    let m = position_or_len p (drop n xs) in
    ap (λ (k : ℕ). cond (nat_lt k (length xs)) (Some k) None) (past_none p xs n within none)
    ∙ ap (λ (b : Bool). cond b (Some (n + m)) None) (lt_shift n m (length xs) within ∙ ap (λ (l : ℕ). nat_lt m l) (sym (length-drop n xs)))
    ∙ told_shift n m (nat_lt m (length (drop n xs)))

pub position-from : {X : Type 0} (p : X → Bool) (xs : List X) (skipped least : ℕ) (found : Option ℕ) → least ≡ min skipped (length xs) → list_any p (take skipped xs) ≡ false
    → found ≡ position p (take (length xs - least) (drop least xs)) → option_map (λ k. least + k) found ≡ position p xs
position-from p xs skipped least found is none so =
    let within : least ≤ length xs = omega arith in
    let few : list_any p (take least xs) ≡ false = ap (λ (n : ℕ). list_any p (take n xs)) is ∙ ap (list_any p) (take_min skipped xs) ∙ none in
    ap (option_map (λ k. least + k)) (so ∙ ap (position p) (take_rest xs least)) ∙ sym (position-past_none p xs least within few)

none_by : {X : Type 0} (p : X → Bool) (x : X) (xs : List X) (more rest : ℕ) → p x ≡ false → list_any p (take rest xs) ≡ false → rest ≡ more - 1 → list_any p (take more (x ∷ xs)) ≡ false
none_by p x xs zero rest fails none so = refl
none_by p x xs (suc more) rest fails none so =
    let same : more ≡ rest = omega (arith, so) in
    ap (λ (b : Bool). b || list_any p (take more xs)) fails ∙ ap (λ (n : ℕ). list_any p (take n xs)) same ∙ none

finished-only : (fence : ℕ) (a : Answer) → ends_job fence a ≡ true → finished_fence a ≡ Some fence
finished-only fence (answer.Finished ended outcome) is = ap Some (eqb-true ended fence is)
finished-only fence _ is = cc

taken-only : (fence : ℕ) (a : Answer) → leaves_queue fence a ≡ true → taken_fence a ≡ Some fence
taken-only fence (answer.Picked left skipped) is = ap Some (eqb-true left fence is)
taken-only fence (answer.Reaped left) is = ap Some (eqb-true left fence is)
taken-only fence _ is = cc

over-only : (fence : ℕ) (a : Answer) → ends_fence fence a ≡ true → over_fence a ≡ Some fence
over-only fence (answer.Finished ended outcome) is = ap Some (eqb-true ended fence is)
over-only fence (answer.Reaped ended) is = ap Some (eqb-true ended fence is)
over-only fence _ is = cc

dropped-only : (buffer ctx : ℕ) (c : Event ℕ) → drops buffer ctx c ≡ true → ended_in_lock c ≡ Some buffer
dropped-only buffer ctx (event.Drop by at) is = ap Some (eqb-true at buffer (left_true (at == buffer) (by == ctx) is))
dropped-only buffer ctx _ is = cc

unlocked-only : (lane : Lane) (number : ℕ) (step : Step) → unlocks_in lane number step ≡ true → ended_in_lock step.command ≡ Some (number_in lane number)
unlocked-only (lane.Buffer buffer) number step is = dropped-only buffer number step.command (left_true (drops buffer number step.command) (granted step.answer) is)
unlocked-only _ number step is = cc

-- a step ends only what has its number
ends-only : (kind : Kind) (opening : Opening) (step : Step) → ends kind opening step ≡ true → ended_number kind step ≡ Some (number_of kind opening)
ends-only kind.Job opening step is = finished-only opening.number step.answer is
ends-only kind.Queued opening step is = taken-only opening.number step.answer is
ends-only kind.Stopped opening step is = cc
ends-only kind.Lock opening step is = unlocked-only opening.lane opening.number step is
ends-only kind.Fence opening step is = over-only opening.number step.answer is
ends-only kind.Waiting opening step is = cc

at_noted : (next : List ℕ) (number place : ℕ) → get_or (set next number place) number 0 ≤ place
at_noted [] number place = omega arith
at_noted (until ∷ next) zero place = omega arith
at_noted (until ∷ next) (suc number) place = at_noted next number place

none_noted : (k : Kind) (run : List Step) (place : ℕ) (step : Step) (next : List ℕ) (opening : Opening) → ends k opening step ≡ false
    → drop place run ≡ step ∷ drop (place + 1) run → AreNext k run (place + 1) next
    → list_any (ends k opening) (take (get_or next (number_of k opening) 0 - place) (drop place run)) ≡ false
none_noted k run place step next opening fails split so =
    let until = get_or next (number_of k opening) 0 in
    ap (λ l. list_any (ends k opening) (take (until - place) l)) split
    ∙ none_by (ends k opening) step (drop (place + 1) run) (until - place) (until - (place + 1)) fails (so opening) (omega arith)

noted_at : (k : Kind) (run : List Step) (place : ℕ) (step : Step) (next : List ℕ) (opening : Opening) (number : ℕ) → ended_number k step ≡ Some number
    → drop place run ≡ step ∷ drop (place + 1) run → AreNext k run (place + 1) next
    → (number_of k opening ≡ number) ⊎ (number_of k opening ≡ number → ⊥)
    → list_any (ends k opening) (take (get_or (set next number place) (number_of k opening) 0 - place) (drop place run)) ≡ false
noted_at k run place step next opening number is split so (inl same) =
    let least : get_or (set next number place) (number_of k opening) 0 ≤ place = rw same (at_noted next number place) in
    let nothing : get_or (set next number place) (number_of k opening) 0 - place ≡ 0 = omega arith in
    ap (λ (n : ℕ). list_any (ends k opening) (take n (drop place run))) nothing
noted_at k run place step next opening number is split so (inr other) =
    let kept : get_or (set next number place) (number_of k opening) 0 ≡ get_or next (number_of k opening) 0 = get_or-set_other next number (number_of k opening) place 0 other in
    let fails : ends k opening step ≡ false = not_true (ends k opening step) (λ e. other (sym (same_Some number (number_of k opening) (sym is ∙ ends-only k opening step e)))) in
    ap (λ (n : ℕ). list_any (ends k opening) (take (n - place) (drop place run))) kept ∙ none_noted k run place step next opening fails split so

-- the step at the place before is noted
pub next_noted : (k : Kind) (run : List Step) (place : ℕ) (step : Step) (next : List ℕ) (found : Option ℕ) → ended_number k step ≡ found
    → drop place run ≡ step ∷ drop (place + 1) run → AreNext k run (place + 1) next → AreNext k run place (noted found place next)
next_noted k run place step next None is split so opening =
    none_noted k run place step next opening (not_true (ends k opening step) (λ e. none-some (number_of k opening) (sym is ∙ ends-only k opening step e))) split so
next_noted k run place step next (Some number) is split so opening =
    noted_at k run place step next opening number is split so (cases_eq (number_of k opening) number)

pub length_noted : (found : Option ℕ) (place : ℕ) (next : List ℕ) → length (noted found place next) ≡ length next
length_noted None place next = refl
length_noted (Some number) place next = length-set next number place
