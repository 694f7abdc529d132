-- The bars of fences: they stand in the order of their begin, and their ends tell how they end.
use Rattle.std.proofs.Common.{◌≡◌, ◌∙◌, ℕ, suc, zero, Bool, true, false, cond, List, [], ◌∷◌, ◌+◌, ◌<◌, ◌≤◌, Option, Some, None, ap, refl, subst, sym, arith, drop, find, get_or, length, option_and_then, option_map, slice_get, unwrap_or}
use Rattle.std.specs.Prelude.{nat_lt}
use Rattle.std.specs.List.{All, cons_option, enumerate_from, filter_map, position_or_len}
use Rattle.std.specs.List.Sorted.{IsNonDecreasingBy}
use Rattle.std.specs.Option.{option_map_or}
use Rattle.std.proofs.lemmas.Bool.{ltb-true}
use Rattle.std.proofs.lemmas.List.{length-drop}
use Rattle.std.proofs.lemmas.List.Elements.{All-cons, All-nil}
use Rattle.std.proofs.lemmas.Option.{cond_some, none-some, same_Some}
use Rattle.drm_state.specs.declared.answer.Answer.{Answer}
use Rattle.drm_state.specs.declared.answer.Answer.TheVariants as answer
use Rattle.drm_types.specs.declared.outcome.Outcome.{Outcome}
use Rattle.drm_types.specs.declared.outcome.Outcome.TheVariants as outcome
use Rattle.drm_picture.specs.Bars.{armed, bar_at, bar_from, bars_of, ends, kept_beyond, lasts_beyond, look_of, shown_by, shown_by_outcome, steps_between}
use Rattle.drm_picture.specs.Commands.{moment_of}
use Rattle.drm_picture.specs.Latest.{EndsIn}
use Rattle.drm_picture.specs.Waiting.{waiting_look}
use Rattle.drm_picture.specs.declared.bars.Bar.{Bar}
use Rattle.drm_picture.specs.declared.bars.Kind.TheVariants as kind
use Rattle.drm_picture.specs.declared.bars.Look.TheVariants as look
use Rattle.drm_picture.specs.declared.bars.Opening.{Opening}
use Rattle.drm_picture.specs.declared.command.Step.{Step}
use Rattle.drm_picture.proofs.Places.{found_at}

slice_get-drop : {X : Type 0} (n : ℕ) (xs : List X) (i : ℕ) → slice_get (drop n xs) i ≡ slice_get xs (n + i)
slice_get-drop zero xs i = let e : i ≡ 0 + i = omega arith in ap (λ (k : ℕ). slice_get xs k) e
slice_get-drop (suc n) [] i = refl
slice_get-drop (suc n) (x ∷ xs) i =
    let e : suc (n + i) ≡ suc n + i = omega arith in
    slice_get-drop n xs i ∙ ap (λ (k : ℕ). slice_get (x ∷ xs) k) e

between-le : (at all : ℕ) (b : Bool) → nat_lt at all ≡ b → unwrap_or (cond b (Some at) None) all ≤ all
between-le at all true is = let lt : at < all = ltb-true at all is in omega arith
between-le at all false is = omega arith

outcome-ended : (o : Outcome) → waiting_look (shown_by_outcome o) ≡ look.Ended
outcome-ended outcome.Good = refl
outcome-ended outcome.Cancelled = refl
outcome-ended outcome.Stopped = refl

answer-ended : (a : Answer) → waiting_look (shown_by a) ≡ look.Ended
answer-ended (answer.Finished fence o) = outcome-ended o
answer-ended (answer.Reaped fence) = refl
answer-ended _ = refl

shown-ended : (a : Answer) (last : Option Step) → waiting_look (look_of kind.Fence a last) ≡ option_map_or (λ step. look.Ended) last look.Open
shown-ended a None = refl
shown-ended a (Some step) = answer-ended step.answer

-- what is found behind a place stands where the bar ends
found_behind : (run : List Step) (place : ℕ) (opening : Opening) → find (ends kind.Fence opening) (drop (place + 1) run)
    ≡ slice_get run (place + (steps_between kind.Fence opening (drop (place + 1) run) + 1))
found_behind run place opening =
    let behind = drop (place + 1) run in
    let between = steps_between kind.Fence opening behind in
    let e : place + 1 + between ≡ place + (between + 1) = omega arith in
    sym (found_at (ends kind.Fence opening) behind) ∙ slice_get-drop (place + 1) run between ∙ ap (λ (k : ℕ). slice_get run k) e

made-ends : (run : List Step) (place : ℕ) (step : Step) (opening : Opening) → place < length run → EndsIn run (bar_from kind.Fence place step (drop (place + 1) run) opening)
made-ends run place step opening within =
    let behind = drop (place + 1) run in
    let at = position_or_len (ends kind.Fence opening) behind in
    let few : steps_between kind.Fence opening behind ≤ length behind = between-le at (length behind) (nat_lt at (length behind)) refl in
    let last = found_behind run place opening in
    record {
      within = omega (arith, few, length-drop (place + 1) run);
      shown = shown-ended step.answer (find (ends kind.Fence opening) behind) ∙ ap (λ (o : Option Step). option_map_or (λ step. look.Ended) o look.Open) last;
      told = ap (λ (o : Option Step). option_and_then (λ last. moment_of last.command) o) last;
    }

kept_is : (from : ℕ) (o : Option Bar) (bar : Bar) → kept_beyond from o ≡ Some bar → o ≡ Some bar
kept_is from None bar is = is
kept_is from (Some b) bar is = ap Some ((cond_some (lasts_beyond from b) b bar is).1)

made_by : (f : Opening → Bar) (o : Option Opening) (bar : Bar) (P : Bar → Type 0) → ((opening : Opening) → P (f opening)) → option_map f o ≡ Some bar → P bar
made_by f None bar P each is = absurd (none-some bar is)
made_by f (Some opening) bar P each is = subst P (same_Some (f opening) bar is) (each opening)

-- what a fence's bar is at a place of the run
fence_by : (from : ℕ) (run : List Step) (place : ℕ) (step : Step) (bar : Bar) → place < length run → kept_beyond from (bar_at kind.Fence run (place, step)) ≡ Some bar → EndsIn run bar
fence_by from run place step bar within is =
    made_by (bar_from kind.Fence place step (drop (place + 1) run)) (armed step.answer) bar (EndsIn run) (λ opening. made-ends run place step opening within)
    (kept_is from (bar_at kind.Fence run (place, step)) bar is)

begins_at : (from : ℕ) (run : List Step) (p : ℕ × Step) (bar : Bar) → kept_beyond from (bar_at kind.Fence run p) ≡ Some bar → bar.from ≡ p.0
begins_at from run p bar is =
    made_by (bar_from kind.Fence p.0 p.1 (drop (p.0 + 1) run)) (armed p.1.answer) bar (λ b. b.from ≡ p.0) (λ opening. refl) (kept_is from (bar_at kind.Fence run p) bar is)

All-cons_option : {Y : Type 0} (P : Y → Type 0) (o : Option Y) (ys : List Y) → ((y : Y) → o ≡ Some y → P y) → All P ys → All P (cons_option o ys)
All-cons_option P None ys law all = all
All-cons_option P (Some y) ys law all = All-cons P y ys (law y refl) all

All-placed : {X Y : Type 0} (P : Y → Type 0) (h : ℕ × X → Option Y) (n : ℕ) → ((place : ℕ) (x : X) (y : Y) → place < n → h (place, x) ≡ Some y → P y)
    → (at : ℕ) (xs : List X) → at + length xs ≤ n → All P (filter_map h (enumerate_from at xs))
All-placed P h n law at [] within = All-nil P
All-placed P h n law at (x ∷ xs) within =
    All-cons_option P (h (at, x)) (filter_map h (enumerate_from (at + 1) xs)) (λ y is. law at x y (omega arith) is) (All-placed P h n law (at + 1) xs (omega arith))

-- each fence's bar ends in the run
pub fences-end : (from : ℕ) (run : List Step) → All (EndsIn run) (bars_of kind.Fence from run)
fences-end from run =
    let all : 0 + length run ≤ length run = omega arith in
    All-placed (EndsIn run) (λ p. kept_beyond from (bar_at kind.Fence run p)) (length run) (λ place step bar within is. fence_by from run place step bar within is) 0 run all

not_before : {Y : Type 0} (n : Y → ℕ) (at : ℕ) (o : Option Y) (ys : List Y) → ((y : Y) → o ≡ Some y → n y ≡ at) → ((k : ℕ) (d : Y) → k < length ys → at + 1 ≤ n (get_or ys k d))
    → (k : ℕ) (d : Y) → k < length (cons_option o ys) → at ≤ n (get_or (cons_option o ys) k d)
not_before n at None ys law later k d within = let far : at + 1 ≤ n (get_or ys k d) = later k d within in omega arith
not_before n at (Some y) ys law later zero d within = omega (arith, law y refl)
not_before n at (Some y) ys law later (suc k) d within = let less : k < length ys = omega arith in let far : at + 1 ≤ n (get_or ys k d) = later k d less in omega arith

placed_from : {X Y : Type 0} (n : Y → ℕ) (h : ℕ × X → Option Y) → ((p : ℕ × X) (y : Y) → h p ≡ Some y → n y ≡ p.0) → (at : ℕ) (xs : List X)
    → (k : ℕ) (d : Y) → k < length (filter_map h (enumerate_from at xs)) → at ≤ n (get_or (filter_map h (enumerate_from at xs)) k d)
placed_from n h law at [] k d within = absurd (omega arith)
placed_from n h law at (x ∷ xs) k d within =
    not_before n at (h (at, x)) (filter_map h (enumerate_from (at + 1) xs)) (λ y is. law (at, x) y is) (λ k d within. placed_from n h law (at + 1) xs k d within) k d within

rising : {Y : Type 0} (n : Y → ℕ) (at : ℕ) (o : Option Y) (ys : List Y) → ((y : Y) → o ≡ Some y → n y ≡ at) → ((k : ℕ) (d : Y) → k < length ys → at + 1 ≤ n (get_or ys k d))
    → IsNonDecreasingBy n ys → IsNonDecreasingBy n (cons_option o ys)
rising n at None ys law later sorted i j d le within = sorted i j d le within
rising n at (Some y) ys law later sorted zero zero d le within = omega arith
rising n at (Some y) ys law later sorted zero (suc j) d le within =
    let less : j < length ys = omega arith in
    let far : at + 1 ≤ n (get_or ys j d) = later j d less in
    omega (arith, law y refl)
rising n at (Some y) ys law later sorted (suc i) zero d le within = absurd (omega arith)
rising n at (Some y) ys law later sorted (suc i) (suc j) d le within = sorted i j d (omega arith) (omega arith)

placed_rise : {X Y : Type 0} (n : Y → ℕ) (h : ℕ × X → Option Y) → ((p : ℕ × X) (y : Y) → h p ≡ Some y → n y ≡ p.0) → (at : ℕ) (xs : List X) → IsNonDecreasingBy n (filter_map h (enumerate_from at xs))
placed_rise n h law at [] i j d le within = absurd (omega arith)
placed_rise n h law at (x ∷ xs) i j d le within =
    rising n at (h (at, x)) (filter_map h (enumerate_from (at + 1) xs)) (λ y is. law (at, x) y is) (λ k d within. placed_from n h law (at + 1) xs k d within) (placed_rise n h law (at + 1) xs) i j d le within

-- the bars of fences stand in the order of their begin
pub fences-rise : (from : ℕ) (run : List Step) → IsNonDecreasingBy (λ (bar : Bar). bar.from) (bars_of kind.Fence from run)
fences-rise from run = placed_rise (λ bar. bar.from) (λ p. kept_beyond from (bar_at kind.Fence run p)) (begins_at from run) 0 run
