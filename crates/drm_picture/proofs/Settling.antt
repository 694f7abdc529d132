-- A search may end where each entity has a job that has one which the later job can come after.
use Rattle.std.proofs.Common.{◌≡◌, ℕ, Bool, true, false, cond, ◌&&◌, ◌||◌, ◌==◌, List, [], ◌∷◌, Option, Some, None, ap, refl, subst, sym, get_or, slice_get}
use Rattle.std.specs.List.{All, list_all, list_any}
use Rattle.std.specs.Option.{option_map_or}
use Rattle.std.proofs.lemmas.Bool.{eq-eqb, eqb-true}
use Rattle.drm_types.specs.declared.access.Access.{Access}
use Rattle.drm_job.specs.Conflicts.{must_wait}
use Rattle.drm_picture.specs.Lasts.{any_of, is_listed, unseen}
use Rattle.drm_picture.specs.Users.{AreSettled, AreUsers, declares, have_all, have_users, users_at}
use Rattle.drm_picture.specs.Waits.{comes_after, conflict, earlier_job, job_of, names}
use Rattle.drm_picture.specs.declared.bars.Bar.{Bar}
use Rattle.drm_picture.specs.declared.command.Request.{Request}
use Rattle.drm_picture.specs.declared.command.Step.{Step}
use Rattle.drm_picture.specs.declared.users.BufferUsers.{BufferUsers}
use Rattle.drm_picture.specs.declared.waits.Earlier.{Earlier}
use Rattle.drm_picture.proofs.Lasts.{covered, none_new}
use Rattle.drm_picture.proofs.Latest.{right_true}
use Rattle.drm_picture.proofs.Nexts.{left_true}

-- ---- where two jobs conflict, both declare a buffer

-- one of these declarations is of the buffer
abbrev Names : ℕ → List (ℕ × Access) → Bool
Names buffer declared = list_any (λ d. d.0 == buffer) declared

first_or : (a b : Bool) → a ≡ true → (a || b) ≡ true
first_or a b is = ap (λ (x : Bool). x || b) is

later_or : (a b : Bool) → b ≡ true → (a || b) ≡ true
later_or true b is = refl
later_or false b is = is

named_by : (buffer : ℕ) (e : ℕ × Access) (later : List (ℕ × Access)) (a : Access) (b : Bool) → ((buffer == e.0) && must_wait a e.1) ≡ b
    → (b || list_any (λ e. (buffer == e.0) && must_wait a e.1) later) ≡ true
    → (list_any (λ e. (buffer == e.0) && must_wait a e.1) later ≡ true → list_any (λ e. buffer == e.0) later ≡ true)
    → list_any (λ e. buffer == e.0) (e ∷ later) ≡ true
named_by buffer e later a true is some rest = first_or (buffer == e.0) (list_any (λ e. buffer == e.0) later) (left_true (buffer == e.0) (must_wait a e.1) is)
named_by buffer e later a false is some rest = later_or (buffer == e.0) (list_any (λ e. buffer == e.0) later) (rest some)

named : (buffer : ℕ) (a : Access) (later : List (ℕ × Access)) → list_any (λ e. (buffer == e.0) && must_wait a e.1) later ≡ true → list_any (λ e. buffer == e.0) later ≡ true
named buffer a [] some = cc
named buffer a (e ∷ later) some = named_by buffer e later a ((buffer == e.0) && must_wait a e.1) refl some (named buffer a later)

-- what holds of each buffer that the later job declares holds of one that both declare
shared_by : (test : ℕ → Bool) (buffer : ℕ) (e : ℕ × Access) (later : List (ℕ × Access)) (b : Bool) → (buffer == e.0) ≡ b → (b || list_any (λ e. buffer == e.0) later) ≡ true
    → (test e.0 && list_all (λ e. test e.0) later) ≡ true → (list_any (λ e. buffer == e.0) later ≡ true → list_all (λ e. test e.0) later ≡ true → test buffer ≡ true) → test buffer ≡ true
shared_by test buffer e later true is some all rest = subst (λ (n : ℕ). test n ≡ true) (sym (eqb-true buffer e.0 is)) (left_true (test e.0) (list_all (λ e. test e.0) later) all)
shared_by test buffer e later false is some all rest = rest some (right_true (test e.0) (list_all (λ e. test e.0) later) all)

shared : (test : ℕ → Bool) (buffer : ℕ) (later : List (ℕ × Access)) → list_any (λ e. buffer == e.0) later ≡ true → list_all (λ e. test e.0) later ≡ true → test buffer ≡ true
shared test buffer [] some all = cc
shared test buffer (e ∷ later) some all = shared_by test buffer e later (buffer == e.0) refl some all (shared test buffer later)

-- a claim follows from each buffer that both declare
met_by : {X : Type 0} (test : ℕ → Bool) (d : ℕ × Access) (earlier later : List (ℕ × Access)) (b : Bool) → list_any (λ e. (d.0 == e.0) && must_wait d.1 e.1) later ≡ b
    → (b || conflict earlier later) ≡ true → list_all (λ e. test e.0) later ≡ true → ((buffer : ℕ) → Names buffer (d ∷ earlier) ≡ true → test buffer ≡ true → X)
    → (conflict earlier later ≡ true → X) → X
met_by test d earlier later true is some all claim rest =
    claim d.0 (first_or (d.0 == d.0) (Names d.0 earlier) (eq-eqb d.0 d.0 refl)) (shared test d.0 later (named d.0 d.1 later is) all)
met_by test d earlier later false is some all claim rest = rest some

met : {X : Type 0} (test : ℕ → Bool) (earlier later : List (ℕ × Access)) → conflict earlier later ≡ true → list_all (λ e. test e.0) later ≡ true
    → ((buffer : ℕ) → Names buffer earlier ≡ true → test buffer ≡ true → X) → X
met test [] later some all claim = absurd (let never : false ≡ true = some in cc (never))
met test (d ∷ earlier) later some all claim =
    met_by test d earlier later (list_any (λ e. (d.0 == e.0) && must_wait d.1 e.1) later) refl some all claim
    (λ rest. met test earlier later rest all (λ buffer there. claim buffer (later_or (d.0 == buffer) (Names buffer earlier) there)))

-- ---- so the later job comes after no job of another entity

at_users : (users : List BufferUsers) (entities : List ℕ) (buffer : ℕ) (job : Option Request) (o : Option BufferUsers) → slice_get users buffer ≡ o
    → ((of : BufferUsers) → slice_get users buffer ≡ Some of → is_listed of.entities.items job ≡ true) → is_listed entities job ≡ true
    → is_listed (option_map_or (λ of. of.entities.items) o entities) job ≡ true
at_users users entities buffer job None at listed all = all
at_users users entities buffer job (Some of) at listed all = listed of at

seen_by : (jobs : List Earlier) (fence entity : ℕ) (b : Bool) → (b ≡ true → any_of entity jobs ≡ true) → unseen jobs (cond b (Some (record { fence = fence; entity = entity })) None) ≡ None
seen_by jobs fence entity true seen = ap (λ (b : Bool). cond b None (Some (record { fence = fence; entity = entity }))) (seen refl)
seen_by jobs fence entity false seen = refl

no_name : (b : Bool) → (b || false) ≡ true → b ≡ true
no_name true is = refl
no_name false is = is

users_seen : (run : List Step) (users : List BufferUsers) (entities : List ℕ) (jobs : List Earlier) (later : Request) (bar : Bar) (job : Option Request)
    → later.after ≡ [] → have_users users entities jobs later.declared ≡ true
    → ((buffer : ℕ) (of : BufferUsers) → slice_get users buffer ≡ Some of → declares buffer job ≡ true → is_listed of.entities.items job ≡ true) → is_listed entities job ≡ true
    → unseen jobs (earlier_job later bar.opening.number job) ≡ None
users_seen run users entities jobs later bar None none all listed any = refl
users_seen run users entities jobs later bar (Some request) none all listed any =
    let fence = bar.opening.number in
    let test = λ (buffer : ℕ). have_all jobs (users_at users entities buffer) in
    seen_by jobs fence request.entity (comes_after later fence request) (λ comes.
    let both : conflict request.declared later.declared ≡ true =
    no_name (conflict request.declared later.declared)
    (subst (λ (after : List ℕ). (conflict request.declared later.declared || names fence after) ≡ true) none comes) in
    met test request.declared later.declared both all (λ buffer there have.
    covered (λ entity. any_of entity jobs) request.entity (users_at users entities buffer)
    (at_users users entities buffer (Some request) (slice_get users buffer) refl (λ of at. listed buffer of at there) any) have))

pub settled_by_users : (run : List Step) (users : List BufferUsers) (entities : List ℕ) (jobs : List Earlier) (later : Request) (fences : List Bar) → later.after ≡ []
    → have_users users entities jobs later.declared ≡ true → AreUsers run users fences → All (λ (bar : Bar). is_listed entities (job_of run bar) ≡ true) fences
    → AreSettled run later jobs fences
settled_by_users run users entities jobs later fences none all listed any = λ k d within.
    users_seen run users entities jobs later (get_or fences k d) (job_of run (get_or fences k d)) none all
    (λ buffer of at. listed buffer of at k d within) (any k d within)

pub settled_by_all : (run : List Step) (entities : List ℕ) (jobs : List Earlier) (later : Request) (fences : List Bar) → have_all jobs entities ≡ true
    → All (λ (bar : Bar). is_listed entities (job_of run bar) ≡ true) fences → AreSettled run later jobs fences
settled_by_all run entities jobs later fences all any = λ k d within.
    none_new entities jobs later (get_or fences k d).opening.number (job_of run (get_or fences k d)) all (any k d within)
