-- How far the fences of a run reach, and that those which end before hold nobody up.
use Rattle.std.proofs.Common.{◌≡◌, ◌∙◌, ℕ, zero, suc, Bool, true, false, cond, ◌&&◌, List, [], ◌∷◌, ◌++◌, ◌+◌, ◌<◌, ◌≤◌, Option, Some, None, ap, inl, inr, refl, reverse, subst, sym, arith, drop, get_or, length, max, take, slice_get}
use Rattle.std.specs.Prelude.{nat_le, nat_lt}
use Rattle.std.specs.List.{All, cons_option, filter_map}
use Rattle.std.specs.Option.{option_map_or}
use Rattle.std.proofs.lemmas.Bool.{leb-true, ltb-true}
use Rattle.std.proofs.lemmas.List.{take-append-drop}
use Rattle.std.proofs.lemmas.List.Elements.{All-head, All-more, All-tail, All-take, filter_map-append}
use Rattle.drm_types.specs.declared.access.Access.{Access}
use Rattle.drm_lists.proofs.Places.{get_push_cases}
use Rattle.drm_picture.specs.Latest.{end_of, latest_end}
use Rattle.drm_picture.specs.Reach.{AreReaches, is_within}
use Rattle.drm_picture.specs.Waiting.{conflicts_at, holds_up}
use Rattle.drm_picture.specs.Waits.{earlier_job, earlier_of, job_of, last_of_each}
use Rattle.drm_picture.specs.declared.bars.Bar.{Bar}
use Rattle.drm_picture.specs.declared.command.Request.{Request}
use Rattle.drm_picture.specs.declared.command.Step.{Step}
use Rattle.drm_picture.specs.declared.waits.Earlier.{Earlier}
use Rattle.drm_picture.proofs.Latest.{either, not_lt}

-- none of these bars ends behind this place
abbrev pub EndBy : ℕ → List Bar → Type 0
EndBy reach bars = All (λ bar. end_of bar ≤ reach) bars

pub end_by_later : (reach further : ℕ) (bars : List Bar) → reach ≤ further → EndBy reach bars → EndBy further bars
end_by_later reach further bars le all = λ k d within. let e = all k d within in omega (arith, e, le)

-- ---- from the first on

take-swap : {X : Type 0} (n m : ℕ) (xs : List X) → take n (take m xs) ≡ take m (take n xs)
take-swap zero zero xs = refl
take-swap zero (suc m) [] = refl
take-swap zero (suc m) (x ∷ xs) = refl
take-swap (suc n) zero [] = refl
take-swap (suc n) zero (x ∷ xs) = refl
take-swap (suc n) (suc m) [] = refl
take-swap (suc n) (suc m) (x ∷ xs) = ap (λ l. x ∷ l) (take-swap n m xs)

-- so of the first of them
pub reaches_front : (bars front : List Bar) (reaches : List ℕ) (n : ℕ) → front ≡ take n bars → AreReaches bars reaches → AreReaches front reaches
reaches_front bars front reaches n is are place reach at =
    subst (λ (l : List Bar). EndBy reach (take (place + 1) l)) (sym is)
    (subst (EndBy reach) (sym (take-swap (place + 1) n bars)) (All-take (λ bar. end_of bar ≤ reach) n (take (place + 1) bars) (are place reach at)))

-- one bar more
pub reach_more : (bars : List Bar) (place : ℕ) (d : Bar) (reach next : ℕ) → place < length bars → next ≡ max (end_of (get_or bars place d)) reach
    → EndBy reach (take place bars) → EndBy next (take (place + 1) bars)
reach_more bars place d reach next within is all =
    All-more (λ (bar : Bar). end_of bar ≤ next) bars place d within (end_by_later reach next (take place bars) (omega (arith, is)) all) (omega (arith, is))

pub reaches_more : (bars : List Bar) (reaches : List ℕ) (place next : ℕ) → length reaches ≡ place → EndBy next (take (place + 1) bars) → AreReaches bars reaches
    → AreReaches bars (reaches ++ next ∷ [])
reaches_more bars reaches place next count all are k reach at =
    elim (get_push_cases reaches next k reach at) [
      | inl before ↦ are k reach before
      | inr last ↦
          let here : k ≡ place = last.0 ∙ count in
          subst (λ (r : ℕ). EndBy r (take (k + 1) bars)) (sym last.1) (subst (λ (n : ℕ). EndBy next (take (n + 1) bars)) (sym here) all)
    ]

-- ---- a search that stops

within_by : (bars : List Bar) (reaches : List ℕ) (place end : ℕ) (o : Option ℕ) → slice_get reaches place ≡ o → AreReaches bars reaches
    → option_map_or (λ reach. nat_le reach end) o false ≡ true → EndBy end (take (place + 1) bars)
within_by bars reaches place end None at are is = absurd (let never : false ≡ true = is in cc (never))
within_by bars reaches place end (Some reach) at are is = end_by_later reach end (take (place + 1) bars) (leb-true reach end is) (are place reach at)

-- none of the bars that are left ends behind that end
pub all_within : (bars : List Bar) (reaches : List ℕ) (index place end : ℕ) → place + 1 ≡ index → AreReaches bars reaches → is_within reaches place end ≡ true → EndBy end (take index bars)
all_within bars reaches index place end next are is =
    subst (λ (n : ℕ). EndBy end (take n bars)) next (within_by bars reaches place end (slice_get reaches place) refl are is)

never_both : (b : Bool) → (b && false) ≡ false
never_both true = refl
never_both false = refl

-- a fence that ends by a place holds nobody up there
over : (run : List Step) (place : ℕ) (declared : ℕ × Access) (bar : Bar) → end_of bar ≤ place → holds_up run place declared bar ≡ false
over run place declared bar le =
    ap (λ (b : Bool). (nat_lt bar.from place && b) && conflicts_at declared (job_of run bar)) (not_lt place (end_of bar) le)
    ∙ ap (λ (b : Bool). b && conflicts_at declared (job_of run bar)) (never_both (nat_lt bar.from place))

-- one fence more, which does not end behind the place and the last of the others
over_by : (run : List Step) (place : ℕ) (declared : ℕ × Access) (bar : Bar) (rest : ℕ) (b : Bool) → nat_lt place (end_of bar) ≡ b → end_of bar ≤ max rest place
    → cond (holds_up run place declared bar) (max (end_of bar) rest) rest ≡ rest
over_by run place declared bar rest true is within =
    let lt : place < end_of bar = ltb-true place (end_of bar) is in
    either (holds_up run place declared bar) (max (end_of bar) rest) rest (omega (arith, within, lt))
over_by run place declared bar rest false is within =
    ap (λ (b : Bool). cond ((nat_lt bar.from place && b) && conflicts_at declared (job_of run bar)) (max (end_of bar) rest) rest) is
    ∙ ap (λ (b : Bool). cond (b && conflicts_at declared (job_of run bar)) (max (end_of bar) rest) rest) (never_both (nat_lt bar.from place))

-- none of the former fences ends behind the place and the last of the latter
pub latest-over : (run : List Step) (place : ℕ) (declared : ℕ × Access) (former latter : List Bar) → EndBy (max (latest_end run place declared latter) place) former
    → latest_end run place declared (former ++ latter) ≡ latest_end run place declared latter
latest-over run place declared [] latter all = refl
latest-over run place declared (bar ∷ former) latter all =
    let last = latest_end run place declared latter in
    let rest = latest-over run place declared former latter (All-tail (λ bar. end_of bar ≤ max last place) bar former all) in
    ap (λ (n : ℕ). cond (holds_up run place declared bar) (max (end_of bar) n) n) rest
    ∙ over_by run place declared bar last (nat_lt place (end_of bar)) refl (All-head (λ bar. end_of bar ≤ max last place) bar former all)

pub latest-all : (run : List Step) (place : ℕ) (declared : ℕ × Access) (fences : List Bar) (index latest : ℕ) → latest ≡ latest_end run place declared (drop index fences)
    → EndBy (max latest place) (take index fences) → latest ≡ latest_end run place declared fences
latest-all run place declared fences index latest so all =
    so
    ∙ sym (latest-over run place declared (take index fences) (drop index fences) (subst (λ (n : ℕ). EndBy (max n place) (take index fences)) so all))
    ∙ ap (latest_end run place declared) (take-append-drop index fences)

none_over : (run : List Step) (place : ℕ) (later : Request) (fences : List Bar) → EndBy place fences → filter_map (earlier_of run place later) fences ≡ []
none_over run place later [] all = refl
none_over run place later (bar ∷ fences) all =
    let found = earlier_job later bar.opening.number (job_of run bar) in
    let rest = filter_map (earlier_of run place later) fences in
    ap (λ (b : Bool). cons_option (cond (nat_lt bar.from place && b) found None) rest) (not_lt place (end_of bar) (All-head (λ bar. end_of bar ≤ place) bar fences all))
    ∙ ap (λ (b : Bool). cons_option (cond b found None) rest) (never_both (nat_lt bar.from place))
    ∙ none_over run place later fences (All-tail (λ bar. end_of bar ≤ place) bar fences all)

-- nor does a job come after those of such fences
pub lasts-over : (run : List Step) (place : ℕ) (later : Request) (fences : List Bar) (index : ℕ) (jobs : List Earlier)
    → reverse jobs ≡ last_of_each (filter_map (earlier_of run place later) (drop index fences)) → EndBy place (take index fences)
    → reverse jobs ≡ last_of_each (filter_map (earlier_of run place later) fences)
lasts-over run place later fences index jobs so all =
    let h = earlier_of run place later in
    so
    ∙ ap last_of_each
    (sym (ap (λ l. l ++ filter_map h (drop index fences)) (none_over run place later (take index fences) all))
    ∙ sym (filter_map-append h (take index fences) (drop index fences))
    ∙ ap (filter_map h) (take-append-drop index fences))
