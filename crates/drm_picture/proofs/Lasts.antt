-- The last job of each entity, found from the end on.
use Rattle.std.proofs.Common.{◌≡◌, ◌∙◌, ℕ, suc, Bool, true, false, cond, ◌&&◌, ◌||◌, ◌==◌, List, [], ◌∷◌, ◌++◌, ◌+◌, ◌<◌, ◌≤◌, Option, Some, None, ap, append-nil, refl, reverse, subst, sym, arith, drop, get_or, length, take}
use Rattle.std.specs.Prelude.{nat_lt}
use Rattle.std.specs.List.{All, cons_option, enumerate_from, filter_map, list_all, list_any}
use Rattle.std.proofs.lemmas.Bool.{eqb-true}
use Rattle.std.proofs.lemmas.List.{drop_more, take-append-drop}
use Rattle.std.proofs.lemmas.List.Elements.{All-head, All-tail, All-take, filter_map-append}
use Rattle.std.proofs.lemmas.List.Sorted.{IsPermutation-reverse, list_any-IsPermutation}
use Rattle.drm_picture.specs.Lasts.{any_of, is_listed, unseen}
use Rattle.drm_picture.specs.Users.{AreSettled}
use Rattle.drm_picture.specs.Waits.{comes_after, earlier_job, earlier_of, is_open_at, job_of, last_of, last_of_each}
use Rattle.drm_picture.specs.declared.bars.Bar.{Bar}
use Rattle.drm_picture.specs.declared.command.Request.{Request}
use Rattle.drm_picture.specs.declared.command.Step.{Step}
use Rattle.drm_picture.specs.declared.waits.Earlier.{Earlier}
use Rattle.drm_picture.proofs.Latest.{not_lt, right_true}
use Rattle.drm_picture.proofs.Nexts.{left_true}
use Rattle.drm_picture.proofs.Places.{reverse-cons_option}

last-shift : (x : Earlier) (all ys : List Earlier) (n : ℕ) → filter_map (last_of (x ∷ all)) (enumerate_from (n + 1) ys) ≡ filter_map (last_of all) (enumerate_from n ys)
last-shift x all [] n = refl
last-shift x all (y ∷ ys) n =
    let e : n + 1 + 1 ≡ suc (n + 1) = omega arith in
    let rest = filter_map (last_of (x ∷ all)) (enumerate_from (n + 1 + 1) ys) in
    ap (λ (k : ℕ). cons_option (cond (any_of y.entity (drop k (x ∷ all))) None (Some y)) rest) e
    ∙ ap (cons_option (last_of all (n, y))) (last-shift x all ys (n + 1))

last-cons : (x : Earlier) (xs : List Earlier) → last_of_each (x ∷ xs) ≡ cons_option (cond (any_of x.entity xs) None (Some x)) (last_of_each xs)
last-cons x xs = ap (cons_option (cond (any_of x.entity xs) None (Some x))) (last-shift x xs xs 0)

same-any : (entity other : ℕ) (xs : List Earlier) (b : Bool) → (entity == other) ≡ b → any_of entity xs ≡ true → any_of other xs ≡ (b || any_of other xs)
same-any entity other xs true is some = subst (λ (n : ℕ). any_of n xs ≡ true) (eqb-true entity other is) some
same-any entity other xs false is some = refl

any-kept : (entity : ℕ) (x : Earlier) (xs lasts : List Earlier) (b : Bool) → any_of x.entity xs ≡ b → any_of entity lasts ≡ any_of entity xs
    → any_of entity (cons_option (cond b None (Some x)) lasts) ≡ any_of entity (x ∷ xs)
any-kept entity x xs lasts true is so = so ∙ same-any x.entity entity xs (x.entity == entity) refl is
any-kept entity x xs lasts false is so = ap (λ (b : Bool). (x.entity == entity) || b) so

any-last : (entity : ℕ) (xs : List Earlier) → any_of entity (last_of_each xs) ≡ any_of entity xs
any-last entity [] = refl
any-last entity (x ∷ xs) = ap (any_of entity) (last-cons x xs) ∙ any-kept entity x xs (last_of_each xs) (any_of x.entity xs) refl (any-last entity xs)

lasts-by : (found : Option Earlier) (xs : List Earlier) → last_of_each (cons_option found xs) ≡ cons_option (unseen (last_of_each xs) found) (last_of_each xs)
lasts-by None xs = refl
lasts-by (Some x) xs = last-cons x xs ∙ ap (λ (b : Bool). cons_option (cond b None (Some x)) (last_of_each xs)) (sym (any-last x.entity xs))

abbrev lasts : List Step → ℕ → Request → List Bar → List Earlier
lasts run place later fences = last_of_each (filter_map (earlier_of run place later) fences)

lasts-cons : (run : List Step) (place : ℕ) (later : Request) (bar : Bar) (fences : List Bar)
    → lasts run place later (bar ∷ fences) ≡ cons_option (unseen (lasts run place later fences) (earlier_of run place later bar)) (lasts run place later fences)
lasts-cons run place later bar fences = lasts-by (earlier_of run place later bar) (filter_map (earlier_of run place later) fences)

any-reverse : (entity : ℕ) (jobs : List Earlier) → any_of entity jobs ≡ any_of entity (reverse jobs)
any-reverse entity jobs = list_any-IsPermutation (λ (other : Earlier). other.entity == entity) jobs (reverse jobs) (IsPermutation-reverse jobs)

unseen-reverse : (jobs : List Earlier) (found : Option Earlier) → unseen jobs found ≡ unseen (reverse jobs) found
unseen-reverse jobs None = refl
unseen-reverse jobs (Some job) = ap (λ (b : Bool). cond b None (Some job)) (any-reverse job.entity jobs)

-- from the end on, one fence more
pub lasts-next : (run : List Step) (place : ℕ) (later : Request) (fences : List Bar) (index next : ℕ) (d : Bar) (jobs : List Earlier) → next + 1 ≡ index → next < length fences
    → reverse jobs ≡ lasts run place later (drop index fences)
    → reverse (jobs ++ cons_option (unseen jobs (earlier_of run place later (get_or fences next d))) []) ≡ lasts run place later (drop next fences)
lasts-next run place later fences index next d jobs one within so =
    let bar = get_or fences next d in
    let found = earlier_of run place later bar in
    let same : reverse jobs ≡ lasts run place later (drop (next + 1) fences) = so ∙ ap (λ (n : ℕ). lasts run place later (drop n fences)) (sym one) in
    reverse-cons_option jobs (unseen jobs found)
    ∙ ap (λ o. cons_option o (reverse jobs)) (unseen-reverse jobs found)
    ∙ ap (λ l. cons_option (unseen l found) l) same
    ∙ sym (lasts-cons run place later bar (drop (next + 1) fences))
    ∙ ap (lasts run place later) (sym (drop_more fences next d within))

covered_by : (test : ℕ → Bool) (n entity : ℕ) (listed others : Bool) (b : Bool) → (entity == n) ≡ b → (b || listed) ≡ true → (test entity && others) ≡ true
    → (listed ≡ true → others ≡ true → test n ≡ true) → test n ≡ true
covered_by test n entity listed others true is some all rest = subst (λ (k : ℕ). test k ≡ true) (eqb-true entity n is) (left_true (test entity) others all)
covered_by test n entity listed others false is some all rest = rest some (right_true (test entity) others all)

pub covered : (test : ℕ → Bool) (n : ℕ) (entities : List ℕ) → list_any (λ entity. entity == n) entities ≡ true → list_all test entities ≡ true → test n ≡ true
covered test n [] some all = cc
covered test n (entity ∷ entities) some all =
    covered_by test n entity (list_any (λ entity. entity == n) entities) (list_all test entities) (entity == n) refl some all (covered test n entities)

new_by : (jobs : List Earlier) (fence entity : ℕ) (b : Bool) → any_of entity jobs ≡ true → unseen jobs (cond b (Some (record { fence = fence; entity = entity })) None) ≡ None
new_by jobs fence entity true is = ap (λ (b : Bool). cond b None (Some (record { fence = fence; entity = entity }))) is
new_by jobs fence entity false is = refl

-- a job of whose entity one was found is not new, whether or not the later one comes after it
pub none_seen : (jobs : List Earlier) (later : Request) (fence : ℕ) (request : Request) → any_of request.entity jobs ≡ true → unseen jobs (earlier_job later fence (Some request)) ≡ None
none_seen jobs later fence request is = new_by jobs fence request.entity (comes_after later fence request) is

pub none_new : (entities : List ℕ) (jobs : List Earlier) (later : Request) (fence : ℕ) (job : Option Request) → list_all (λ entity. any_of entity jobs) entities ≡ true
    → is_listed entities job ≡ true → unseen jobs (earlier_job later fence job) ≡ None
none_new entities jobs later fence None all listed = refl
none_new entities jobs later fence (Some request) all listed =
    new_by jobs fence request.entity (comes_after later fence request) (covered (λ entity. any_of entity jobs) request.entity entities listed all)

none_open : (jobs : List Earlier) (found : Option Earlier) (b : Bool) → unseen jobs found ≡ None → unseen jobs (cond b found None) ≡ None
none_open jobs found true none = none
none_open jobs found false none = refl

-- where the latter settle each entity, the former bring none
pub lasts-stay : (run : List Step) (place : ℕ) (later : Request) (former latter : List Bar) → AreSettled run later (lasts run place later latter) former
    → lasts run place later (former ++ latter) ≡ lasts run place later latter
lasts-stay run place later [] latter settled = refl
lasts-stay run place later (bar ∷ former) latter settled =
    let last = lasts run place later latter in
    let P = λ (bar : Bar). unseen last (earlier_job later bar.opening.number (job_of run bar)) ≡ None in
    let rest : lasts run place later (former ++ latter) ≡ last = lasts-stay run place later former latter (All-tail P bar former settled) in
    let found = earlier_job later bar.opening.number (job_of run bar) in
    lasts-cons run place later bar (former ++ latter)
    ∙ ap (λ l. cons_option (unseen l (earlier_of run place later bar)) l) rest
    ∙ ap (λ o. cons_option o last) (none_open last found (is_open_at place bar) (All-head P bar former settled))

settled_from : (run : List Step) (later : Request) (jobs last : List Earlier) (fences : List Bar) → reverse jobs ≡ last → AreSettled run later jobs fences → AreSettled run later last fences
settled_from run later jobs last fences so settled = λ k d within.
    let found = earlier_job later (get_or fences k d).opening.number (job_of run (get_or fences k d)) in
    ap (λ (l : List Earlier). unseen l found) (sym so) ∙ sym (unseen-reverse jobs found) ∙ settled k d within

-- the same, where the jobs were found from the end on
pub lasts-all : (run : List Step) (place : ℕ) (later : Request) (fences : List Bar) (index : ℕ) (jobs : List Earlier)
    → AreSettled run later jobs fences → reverse jobs ≡ lasts run place later (drop index fences) → reverse jobs ≡ lasts run place later fences
lasts-all run place later fences index jobs settled so =
    let last = lasts run place later (drop index fences) in
    let P = λ (bar : Bar). unseen last (earlier_job later bar.opening.number (job_of run bar)) ≡ None in
    so
    ∙ sym (lasts-stay run place later (take index fences) (drop index fences) (All-take P index fences (settled_from run later jobs last fences so settled)))
    ∙ ap (lasts run place later) (take-append-drop index fences)

none_later : (run : List Step) (place : ℕ) (later : Request) (fences : List Bar) → All (λ (bar : Bar). place ≤ bar.from) fences → filter_map (earlier_of run place later) fences ≡ []
none_later run place later [] all = refl
none_later run place later (bar ∷ fences) all =
    let found = earlier_job later bar.opening.number (job_of run bar) in
    ap (λ (b : Bool). cons_option (cond (b && nat_lt place (bar.from + bar.span)) found None) (filter_map (earlier_of run place later) fences))
    (not_lt bar.from place (All-head (λ (bar : Bar). place ≤ bar.from) bar fences all))
    ∙ none_later run place later fences (All-tail (λ (bar : Bar). place ≤ bar.from) bar fences all)

-- no job comes after those of later fences
pub lasts-before : (run : List Step) (place : ℕ) (later : Request) (fences before : List Bar) (n : ℕ) → before ≡ take n fences → All (λ (bar : Bar). place ≤ bar.from) (drop n fences)
    → lasts run place later before ≡ lasts run place later fences
lasts-before run place later fences before n is all =
    let h = earlier_of run place later in
    ap (lasts run place later) is
    ∙ ap last_of_each
    (sym (append-nil (filter_map h (take n fences)))
    ∙ ap (λ l. filter_map h (take n fences) ++ l) (sym (none_later run place later (drop n fences) all))
    ∙ sym (filter_map-append h (take n fences) (drop n fences))
    ∙ ap (filter_map h) (take-append-drop n fences))

-- a list of entities grows
any-grown_by : (some grown : Bool) (b : Bool) → (some ≡ true → grown ≡ true) → (b || some) ≡ true → (b || grown) ≡ true
any-grown_by some grown true rest is = refl
any-grown_by some grown false rest is = rest is

any-grown : (test : ℕ → Bool) (entities more : List ℕ) → list_any test entities ≡ true → list_any test (entities ++ more) ≡ true
any-grown test [] more some = cc
any-grown test (entity ∷ entities) more some = any-grown_by (list_any test entities) (list_any test (entities ++ more)) (test entity) (any-grown test entities more) some
