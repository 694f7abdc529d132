-- Where the wait of a job for a buffer ends.
use Rattle.std.proofs.Common.{◌≡◌, ◌∙◌, ℕ, Bool, true, false, cond, ◌&&◌, List, [], ◌∷◌, ◌++◌, ◌+◌, ◌-◌, ◌<◌, ◌≤◌, Option, Some, None, ap, refl, sym, arith, drop, fold, get_or, length, max, take}
use Rattle.std.specs.Prelude.{nat_lt}
use Rattle.std.specs.List.{All, cons_option, filter_map}
use Rattle.std.proofs.lemmas.Bool.{lt-ltb, ltb-false, ltb-true}
use Rattle.std.proofs.lemmas.List.{drop_more, take-append-drop}
use Rattle.std.proofs.lemmas.List.Elements.{All-head, All-tail, All-take}
use Rattle.drm_types.specs.declared.access.Access.{Access}
use Rattle.drm_picture.specs.Latest.{EndsIn, end_of, latest_end, look_until, wait_to}
use Rattle.drm_picture.specs.Waits.{is_open_at, job_of}
use Rattle.drm_picture.specs.Waiting.{conflicts_at, holds_up, longer, wait_for, wait_until, waiting_at}
use Rattle.drm_picture.specs.declared.bars.Bar.{Bar}
use Rattle.drm_picture.specs.declared.bars.Kind.TheVariants as kind
use Rattle.drm_picture.specs.declared.bars.Lane.TheVariants as lane
use Rattle.drm_picture.specs.declared.bars.Look.{Look}
use Rattle.drm_picture.specs.declared.command.Step.{Step}
use Rattle.drm_picture.proofs.Nexts.{left_true, not_true}

pub right_true : (a b : Bool) → (a && b) ≡ true → b ≡ true
right_true true b h = h
right_true false b h = cc

pub either : (b : Bool) (x y : ℕ) → x ≡ y → cond b x y ≡ y
either true x y same = same
either false x y same = refl

pub not_lt : (a b : ℕ) → b ≤ a → nat_lt a b ≡ false
not_lt a b le = not_true (nat_lt a b) (λ e. let lt : a < b = ltb-true a b e in omega arith)

-- none of the former fences ends later than the last of the latter
pub latest-stays : (run : List Step) (place : ℕ) (declared : ℕ × Access) (former latter : List Bar) → All (EndsIn run) former → length run ≤ latest_end run place declared latter
    → latest_end run place declared (former ++ latter) ≡ latest_end run place declared latter
latest-stays run place declared [] latter all top = refl
latest-stays run place declared (bar ∷ former) latter all top =
    let last = latest_end run place declared latter in
    let rest : latest_end run place declared (former ++ latter) ≡ last = latest-stays run place declared former latter (All-tail (EndsIn run) bar former all) top in
    let within : end_of bar ≤ length run = (All-head (EndsIn run) bar former all).within in
    let least : max (end_of bar) (latest_end run place declared (former ++ latter)) ≡ latest_end run place declared (former ++ latter) = omega (arith, rest) in
    either (holds_up run place declared bar) (max (end_of bar) (latest_end run place declared (former ++ latter))) (latest_end run place declared (former ++ latter)) least ∙ rest

-- the wait that ends there, if that is behind the place
abbrev waited : List Step → ℕ → ℕ → ℕ → ℕ → Option Bar
waited run place fence buffer end = cond (nat_lt place end) (Some (wait_to run place fence buffer end)) None

waited_behind : (run : List Step) (place fence buffer end : ℕ) → place < end → waited run place fence buffer end ≡ Some (wait_to run place fence buffer end)
waited_behind run place fence buffer end lt = ap (λ (b : Bool). cond b (Some (wait_to run place fence buffer end)) None) (lt-ltb place end lt)

abbrev shown_wait : ℕ → ℕ → ℕ → ℕ → Look → Option ℕ → Bar
shown_wait place fence buffer end shown told = record {
  kind = kind.Waiting;
  opening = record { lane = lane.Buffer buffer; number = fence; skipped = false };
  from = place;
  span = end - place;
  look = shown;
  packets = 0;
  began = None;
  ended = told;
}

until_is : (run : List Step) (place fence buffer : ℕ) (bar : Bar) → EndsIn run bar → wait_until place fence buffer bar ≡ wait_to run place fence buffer (end_of bar)
until_is run place fence buffer bar law =
    ap (λ (shown : Look). shown_wait place fence buffer (end_of bar) shown bar.ended) law.shown
    ∙ ap (λ (told : Option ℕ). shown_wait place fence buffer (end_of bar) (look_until run (end_of bar)) told) law.told

longer-none : (o : Option Bar) → longer o None ≡ o
longer-none None = refl
longer-none (Some bar) = refl

-- of two waits that end behind the place the later
longer-later : (run : List Step) (place fence buffer former latter : ℕ) (b : Bool) → nat_lt (former - place) (latter - place) ≡ b → place < former
    → Some (cond b (wait_to run place fence buffer latter) (wait_to run place fence buffer former)) ≡ Some (wait_to run place fence buffer (max latter former))
longer-later run place fence buffer former latter true is behind =
    let lt : former - place < latter - place = ltb-true (former - place) (latter - place) is in
    let last : latter ≡ max latter former = omega arith in
    ap (λ (n : ℕ). Some (wait_to run place fence buffer n)) last
longer-later run place fence buffer former latter false is behind =
    let le : latter - place ≤ former - place = ltb-false (former - place) (latter - place) is in
    let last : former ≡ max latter former = omega arith in
    ap (λ (n : ℕ). Some (wait_to run place fence buffer n)) last

longer-waited : (run : List Step) (place fence buffer former latter : ℕ) (b : Bool) → nat_lt place former ≡ b → place < latter
    → longer (cond b (Some (wait_to run place fence buffer former)) None) (Some (wait_to run place fence buffer latter)) ≡ Some (wait_to run place fence buffer (max latter former))
longer-waited run place fence buffer former latter true is behind =
    longer-later run place fence buffer former latter (nat_lt (former - place) (latter - place)) refl (ltb-true place former is)
longer-waited run place fence buffer former latter false is behind =
    let le : former ≤ place = ltb-false place former is in
    let last : latter ≡ max latter former = omega arith in
    ap (λ (n : ℕ). Some (wait_to run place fence buffer n)) last

one_more : (run : List Step) (place fence : ℕ) (declared : ℕ × Access) (latest : ℕ) (bar : Bar) → EndsIn run bar → (b : Bool) → holds_up run place declared bar ≡ b
    → longer (waited run place fence declared.0 latest) (cond b (Some (wait_until place fence declared.0 bar)) None) ≡ waited run place fence declared.0 (cond b (max (end_of bar) latest) latest)
one_more run place fence declared latest bar law false is = longer-none (waited run place fence declared.0 latest)
one_more run place fence declared latest bar law true is =
    let open_at : is_open_at place bar ≡ true = left_true (is_open_at place bar) (conflicts_at declared (job_of run bar)) is in
    let behind : place < end_of bar = ltb-true place (end_of bar) (right_true (nat_lt bar.from place) (nat_lt place (end_of bar)) open_at) in
    let far : place < max (end_of bar) latest = omega arith in
    ap (λ (w : Bar). longer (waited run place fence declared.0 latest) (Some w)) (until_is run place fence declared.0 bar law)
    ∙ longer-waited run place fence declared.0 latest (end_of bar) (nat_lt place latest) refl behind
    ∙ sym (waited_behind run place fence declared.0 (max (end_of bar) latest) far)

max_by : (b : Bool) (m end last : ℕ) → max (cond b (max end m) m) last ≡ max m (cond b (max end last) last)
max_by true m end last = omega arith
max_by false m end last = refl

folded : (run : List Step) (place fence : ℕ) (declared : ℕ × Access) (bars : List Bar) (latest : ℕ) → All (EndsIn run) bars
    → fold (λ longest bar. longer longest (wait_for run place fence declared bar)) (waited run place fence declared.0 latest) bars
    ≡ waited run place fence declared.0 (max latest (latest_end run place declared bars))
folded run place fence declared [] latest all =
    let e : latest ≡ max latest 0 = omega arith in
    ap (waited run place fence declared.0) e
folded run place fence declared (bar ∷ bars) latest all =
    let holds = holds_up run place declared bar in
    let next = cond holds (max (end_of bar) latest) latest in
    ap (λ (o : Option Bar). fold (λ longest bar. longer longest (wait_for run place fence declared bar)) o bars)
    (one_more run place fence declared latest bar (All-head (EndsIn run) bar bars all) holds refl)
    ∙ folded run place fence declared bars next (All-tail (EndsIn run) bar bars all)
    ∙ ap (waited run place fence declared.0) (max_by holds latest (end_of bar) (latest_end run place declared bars))

-- the longest wait ends where the last of its fences does
pub waits-until : (run : List Step) (place fence : ℕ) (declared : ℕ × Access) (bars : List Bar) → All (EndsIn run) bars
    → waiting_at run bars place fence declared ≡ cond (nat_lt place (latest_end run place declared bars)) (Some (wait_to run place fence declared.0 (latest_end run place declared bars))) None
waits-until run place fence declared bars all =
    let last = latest_end run place declared bars in
    let e : max 0 last ≡ last = omega arith in
    ap (λ (b : Bool). fold (λ longest bar. longer longest (wait_for run place fence declared bar)) (cond b (Some (wait_to run place fence declared.0 0)) None) bars) (sym (not_lt place 0 (omega arith)))
    ∙ folded run place fence declared bars 0 all
    ∙ ap (waited run place fence declared.0) e

closed : (run : List Step) (place : ℕ) (declared : ℕ × Access) (bar : Bar) → place ≤ bar.from → holds_up run place declared bar ≡ false
closed run place declared bar le = ap (λ (b : Bool). (b && nat_lt place (end_of bar)) && conflicts_at declared (job_of run bar)) (not_lt bar.from place le)

latest-later : (run : List Step) (place : ℕ) (declared : ℕ × Access) (later : List Bar) → All (λ (bar : Bar). place ≤ bar.from) later → latest_end run place declared later ≡ 0
latest-later run place declared [] all = refl
latest-later run place declared (bar ∷ later) all =
    let rest = latest_end run place declared later in
    ap (λ (b : Bool). cond b (max (end_of bar) rest) rest) (closed run place declared bar (All-head (λ (bar : Bar). place ≤ bar.from) bar later all))
    ∙ latest-later run place declared later (All-tail (λ (bar : Bar). place ≤ bar.from) bar later all)

latest-before : (run : List Step) (place : ℕ) (declared : ℕ × Access) (before later : List Bar) → All (λ (bar : Bar). place ≤ bar.from) later
    → latest_end run place declared (before ++ later) ≡ latest_end run place declared before
latest-before run place declared [] later all = latest-later run place declared later all
latest-before run place declared (bar ∷ before) later all =
    ap (λ (n : ℕ). cond (holds_up run place declared bar) (max (end_of bar) n) n) (latest-before run place declared before later all)

same_waits : (run : List Step) (place fence : ℕ) (fences : List Bar) (n : ℕ) (declared : ℕ × Access) → All (EndsIn run) fences → All (λ (bar : Bar). place ≤ bar.from) (drop n fences)
    → waiting_at run (take n fences) place fence declared ≡ waiting_at run fences place fence declared
same_waits run place fence fences n declared all later =
    let whole : latest_end run place declared fences ≡ latest_end run place declared (take n fences) =
    ap (latest_end run place declared) (sym (take-append-drop n fences)) ∙ latest-before run place declared (take n fences) (drop n fences) later in
    waits-until run place fence declared (take n fences) (All-take (EndsIn run) n fences all)
    ∙ ap (waited run place fence declared.0) (sym whole)
    ∙ sym (waits-until run place fence declared fences all)

filter_map-same : {X Y : Type 0} (f g : X → Option Y) → ((x : X) → f x ≡ g x) → (xs : List X) → filter_map f xs ≡ filter_map g xs
filter_map-same f g same [] = refl
filter_map-same f g same (x ∷ xs) = ap (λ o. cons_option o (filter_map f xs)) (same x) ∙ ap (cons_option (g x)) (filter_map-same f g same xs)

-- later fences hold nobody up
pub waits-before : (run : List Step) (place fence : ℕ) (fences before : List Bar) (n : ℕ) (declared : List (ℕ × Access)) → before ≡ take n fences
    → All (EndsIn run) fences → All (λ (bar : Bar). place ≤ bar.from) (drop n fences)
    → filter_map (waiting_at run before place fence) declared ≡ filter_map (waiting_at run fences place fence) declared
waits-before run place fence fences before n declared is all later =
    ap (λ bars. filter_map (waiting_at run bars place fence) declared) is
    ∙ filter_map-same (waiting_at run (take n fences) place fence) (waiting_at run fences place fence) (λ d. same_waits run place fence fences n d all later) declared

pub waits-behind : (run : List Step) (place fence : ℕ) (declared : ℕ × Access) (bars : List Bar) (buffer end : ℕ) → All (EndsIn run) bars → buffer ≡ declared.0
    → end ≡ latest_end run place declared bars → place < end → Some (wait_to run place fence buffer end) ≡ waiting_at run bars place fence declared
waits-behind run place fence declared bars buffer end all same is behind =
    ap (λ (n : ℕ). Some (wait_to run place fence n end)) same
    ∙ sym (waited_behind run place fence declared.0 end behind)
    ∙ ap (waited run place fence declared.0) is
    ∙ sym (waits-until run place fence declared bars all)

pub waits-none : (run : List Step) (place fence : ℕ) (declared : ℕ × Access) (bars : List Bar) (end : ℕ) → All (EndsIn run) bars
    → end ≡ latest_end run place declared bars → end ≤ place → None ≡ waiting_at run bars place fence declared
waits-none run place fence declared bars end all is over =
    ap (λ (b : Bool). cond b (Some (wait_to run place fence declared.0 end)) None) (sym (not_lt place end over))
    ∙ ap (waited run place fence declared.0) is
    ∙ sym (waits-until run place fence declared bars all)

-- the last end, one fence more from the end on
pub latest-next : (run : List Step) (place : ℕ) (declared : ℕ × Access) (fences : List Bar) (index next : ℕ) (d : Bar) (latest later : ℕ) → next + 1 ≡ index → next < length fences
    → latest ≡ latest_end run place declared (drop index fences)
    → later ≡ cond (holds_up run place declared (get_or fences next d)) (max (end_of (get_or fences next d)) latest) latest
    → later ≡ latest_end run place declared (drop next fences)
latest-next run place declared fences index next d latest later one within so is =
    let bar = get_or fences next d in
    let same : latest ≡ latest_end run place declared (drop (next + 1) fences) = so ∙ ap (λ (n : ℕ). latest_end run place declared (drop n fences)) (sym one) in
    is
    ∙ ap (λ (n : ℕ). cond (holds_up run place declared bar) (max (end_of bar) n) n) same
    ∙ ap (latest_end run place declared) (sym (drop_more fences next d within))
