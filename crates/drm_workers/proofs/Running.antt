-- What the workers of a run have done, put together.
use Rattle.std.proofs.Common.{◌≡◌, ◌<◌, ◌≤◌, ℕ, zero, suc, true, List, [], ◌∷◌, ◌++◌, All, IsPermutation, Vec, Global, arith, inl, inr, length, map, replicate, take, refl, sym, ap, ◌∙◌, subst, Some, slice_get}
use Rattle.std.proofs.lemmas.List.{append_assoc, length-append, length-map, length-replicate}
use Rattle.std.proofs.lemmas.List.Elements.{All-cons, All-head, All-nil, All-tail}
use Rattle.ww_lock.specs.Rule.{In}
use Rattle.drm_types.specs.declared.spec.DeviceSpec.{DeviceSpec}
use Rattle.drm_job.specs.declared.Draft.{Draft}
use Rattle.drm_job.specs.declared.job.Job.{Job}
use Rattle.drm_state.specs.declared.journal.JobRecord.{JobRecord}
use Rattle.drm_sched.specs.Marks.{MarkedDevice}
use Rattle.drm_gpu.specs.declared.gpu.Closed.{Closed}
use Rattle.drm_gpu.specs.Closing.{Leaves}
use Rattle.drm_gpu.specs.Passes.{GpuState, GrowsTo, PassState}
use Rattle.drm_workers.specs.Numbers.{ArmedJobsStay, armings}
use Rattle.drm_workers.specs.Jobs.{AreJobsOf}
use Rattle.drm_workers.specs.Reports.{HasRun, all_items}
use Rattle.drm_workers.specs.Shares.{AreShares}
use Rattle.drm_workers.specs.declared.work.Done.{Done}
use Rattle.drm_workers.specs.declared.work.Worker.{Worker}
use Rattle.ww_lock.specs.Parts.{IsWhole}
use Rattle.drm_workers.specs.Gathers.{Gathers, shares_of}
use Rattle.drm_workers.specs.Works.{AllWorked, HaveAll, Tells, jobs_of, parts_of}

pub as_many : (gpu : GpuState) (ws : List Worker) (ds : List Done) → AllWorked gpu ws ds → length ds ≡ length ws
as_many gpu [] [] k = refl
as_many gpu [] (d ∷ ds) k = absurd k
as_many gpu (w ∷ ws) [] k = absurd k
as_many gpu (w ∷ ws) (d ∷ ds) k = ap suc (as_many gpu ws ds k.1)

pub all_tell : (gpu : GpuState) (ws : List Worker) (ds : List Done) → AllWorked gpu ws ds → All (Tells gpu) ds
all_tell gpu [] [] k = All-nil (Tells gpu)
all_tell gpu [] (d ∷ ds) k = absurd k
all_tell gpu (w ∷ ws) [] k = absurd k
all_tell gpu (w ∷ ws) (d ∷ ds) k = All-cons (Tells gpu) d ds (k.0.pass, k.0.armings) (all_tell gpu ws ds k.1)

-- the numbers of each worker are those of its jobs
abbrev AreDone : List JobRecord → List Done → List (List Draft) → Type 0
AreDone records [] [] = Unit {0}
AreDone records [] (jobs ∷ lists) = ⊥
AreDone records (d ∷ ds) [] = ⊥
AreDone records (d ∷ ds) (jobs ∷ lists) = AreJobsOf records d.armed.items jobs × AreDone records ds lists

are_done : ArmedJobsStay → (gpu : GpuState) (last : MarkedDevice) (ws : List Worker) (ds : List Done) → AllWorked gpu ws ds → All (λ d. d.is_done ≡ true) ds
    → ((d : Done) → In d ds → GrowsTo d.pass.last last) → AreDone last.state.journal ds (map (λ w. jobs_of w.duty) ws)
are_done law gpu last [] [] k all later = tt
are_done law gpu last [] (d ∷ ds) k all later = absurd k
are_done law gpu last (w ∷ ws) [] k all later = absurd k
are_done law gpu last (w ∷ ws) (d ∷ ds) k all later = (
  law d.pass.last last (later d (inl refl)) d.armed.items (jobs_of w.duty) (k.0.order (All-head (λ (x : Done). x.is_done ≡ true) d ds all)),
  are_done law gpu last ws ds k.1 (All-tail (λ (x : Done). x.is_done ≡ true) d ds all) (λ e h. later e (inr h)),
)

-- lists without jobs
abbrev AreEmpty : List (List Draft) → Type 0
AreEmpty [] = Unit {0}
AreEmpty (jobs ∷ lists) = (jobs ≡ []) × AreEmpty lists

no_jobs : (n : ℕ) → AreEmpty (replicate n [])
no_jobs zero = tt
no_jobs (suc n) = (refl, no_jobs n)

none_more : (xs ys : List (List Draft)) → AreEmpty xs → AreEmpty ys → AreEmpty (xs ++ ys)
none_more [] ys a b = b
none_more (x ∷ xs) ys a b = (a.0, none_more xs ys a.1 b)

no_numbers : (records : List JobRecord) (ns : List ℕ) → AreJobsOf records ns [] → ns ≡ []
no_numbers records [] h = refl
no_numbers records (n ∷ ns) h = absurd h

none_armed : (records : List JobRecord) (ds : List Done) (lists : List (List Draft)) → AreDone records ds lists → AreEmpty lists → all_items (λ d. d.armed.items) ds ≡ []
none_armed records [] [] k e = refl
none_armed records [] (jobs ∷ lists) k e = absurd k
none_armed records (d ∷ ds) [] k e = absurd k
none_armed records (d ∷ ds) (jobs ∷ lists) k e =
    ap (λ ns. ns ++ all_items (λ (x : Done). x.armed.items) ds) (no_numbers records d.armed.items (subst (λ js. AreJobsOf records d.armed.items js) e.0 k.0)) ∙ none_armed records ds lists k.1 e.1

-- the lists of the first workers, behind whom none has jobs
abbrev firsts : ℕ → List Done → List (Vec ℕ Global)
firsts n ds = take n (map (λ d. d.armed) ds)

count_firsts : (records : List JobRecord) (ds : List Done) (lists rest : List (List Draft)) → AreDone records ds (lists ++ rest) → length (firsts (length lists) ds) ≡ length lists
count_firsts records ds [] rest k = refl
count_firsts records [] (jobs ∷ lists) rest k = absurd k
count_firsts records (d ∷ ds) (jobs ∷ lists) rest k = ap suc (count_firsts records ds lists rest k.1)

all_firsts : (records : List JobRecord) (ds : List Done) (lists rest : List (List Draft)) → AreDone records ds (lists ++ rest) → AreEmpty rest
    → all_items (λ v. v.items) (firsts (length lists) ds) ≡ all_items (λ d. d.armed.items) ds
all_firsts records ds [] rest k e = sym (none_armed records ds rest k e)
all_firsts records [] (jobs ∷ lists) rest k e = absurd k
all_firsts records (d ∷ ds) (jobs ∷ lists) rest k e = ap (λ ns. d.armed.items ++ ns) (all_firsts records ds lists rest k.1 e)

each_first : (records : List JobRecord) (ds : List Done) (lists rest : List (List Draft)) → AreDone records ds (lists ++ rest)
    → (s : ℕ) (v : Vec ℕ Global) → slice_get (firsts (length lists) ds) s ≡ Some v → (jobs : List Draft) × (slice_get lists s ≡ Some jobs) × AreJobsOf records v.items jobs
each_first records ds [] rest k s v at = absurd (cc (at))
each_first records [] (jobs ∷ lists) rest k s v at = absurd k
each_first records (d ∷ ds) (jobs ∷ lists) rest k zero v at = let same : d.armed ≡ v = cc (at) in (jobs, refl, subst (λ (x : Vec ℕ Global). AreJobsOf records x.items jobs) same k.0)
each_first records (d ∷ ds) (jobs ∷ lists) rest k (suc s) v at = each_first records ds lists rest k.1 s v at

of_map : {A B : Type 0} (f : A → B) (xs : List A) (s : ℕ) (y : B) → slice_get (map f xs) s ≡ Some y → (x : A) × (slice_get xs s ≡ Some x) × (f x ≡ y)
of_map f [] s y at = absurd (cc (at))
of_map f (x ∷ xs) zero y at = (x, refl, cc (at))
of_map f (x ∷ xs) (suc s) y at = of_map f xs s y at

-- the lists of jobs of all workers: a share for each submitter, and none for the workers of the rings and the watchdog
abbrev pub lists_of : ℕ → List (Vec Job Global) → List (List Draft)
lists_of rings shares = ((map (λ share. share.items) shares ++ replicate rings []) ++ replicate rings []) ++ [] ∷ []

pub few_workers : (n rings : ℕ) (gpu : GpuState) (shares : List (Vec Job Global)) (ws : List Worker) (ds : List Done) → length shares ≡ n → n ≤ 16 → rings ≤ 8
    → map (λ w. jobs_of w.duty) ws ≡ lists_of rings shares → AllWorked gpu ws ds → length ds ≤ 33
few_workers n rings gpu shares ws ds count few small hired worked =
    let lists : List (List Draft) = map (λ (share : Vec Job Global). share.items) shares in let none : List (List Draft) = replicate rings [] in
    let one : length {A = List Draft} ([] ∷ []) ≡ 1 = refl in
    omega (
      arith,
      as_many gpu ws ds worked,
      length-map ws (λ (w : Worker). jobs_of w.duty),
      ap length hired,
      length-append ((lists ++ none) ++ none) ([] ∷ []),
      one,
      length-append (lists ++ none) none,
      length-append lists none,
      length-replicate {A = List Draft} rings [],
      length-map shares (λ (share : Vec Job Global). share.items),
      count,
      few,
      small,
    )

-- the parts that workers give back are those that they were given
same_parts : (gpu : GpuState) (ws : List Worker) (ds : List Done) → AllWorked gpu ws ds → shares_of ds ≡ parts_of ws
same_parts gpu [] [] k = refl
same_parts gpu [] (d ∷ ds) k = absurd k
same_parts gpu (w ∷ ws) [] k = absurd k
same_parts gpu (w ∷ ws) (d ∷ ds) k = ap (λ p. p ++ shares_of ds) k.0.part ∙ ap (λ p. w.pass.part ++ p) (same_parts gpu ws ds k.1)

-- so who has joined all has taken in all
pub all_whole : (gpu : GpuState) (own : List ℕ) (ws : List Worker) (ds : List Done) (pass : PassState) → AllWorked gpu ws ds → Gathers gpu own ds pass → HaveAll own ws → IsWhole pass.part
all_whole gpu own ws ds pass worked gathers have = subst IsWhole (sym (gathers.part ∙ ap (λ p. own ++ p) (same_parts gpu ws ds worked))) have

pub has_run : ArmedJobsStay → (own : List ℕ) (spec : DeviceSpec) (list : List Draft) (n rings : ℕ) (gpu : GpuState) (shares : List (Vec Job Global)) (ws : List Worker) (ds : List Done) (pass : PassState)
    (closed : Closed) (armed : List (Vec ℕ Global)) → 0 < n → gpu.spec ≡ spec → AreShares (λ share. share.items) n list shares → map (λ w. jobs_of w.duty) ws ≡ lists_of rings shares
    → AllWorked gpu ws ds → All (λ d. d.is_done ≡ true) ds → Gathers gpu own ds pass → HaveAll own ws → armed ≡ firsts n ds → Leaves pass closed → HasRun (λ v. v.items) spec list n closed armed
has_run law own spec list n rings gpu shares ws ds pass closed armed some described dealt hired worked all gathers have cut leaves =
    let records = pass.last.state.journal in
    let lists : List (List Draft) = map (λ (share : Vec Job Global). share.items) shares in
    let rest : List (List Draft) = replicate rings [] ++ (replicate rings [] ++ [] ∷ []) in
    let none : AreEmpty rest = none_more (replicate rings []) (replicate rings [] ++ [] ∷ []) (no_jobs rings) (none_more (replicate rings []) ([] ∷ []) (no_jobs rings) (refl, tt)) in
    let order : lists_of rings shares ≡ lists ++ rest = append_assoc (lists ++ replicate rings []) (replicate rings []) ([] ∷ []) ∙ append_assoc lists (replicate rings []) (replicate rings [] ++ [] ∷ []) in
    let done : AreDone records ds (lists ++ rest) = subst (AreDone records ds) (hired ∙ order) (are_done law gpu pass.last ws ds worked all gathers.later) in
    let many : length lists ≡ n = length-map shares (λ (share : Vec Job Global). share.items) ∙ dealt.0 in
    let first : armed ≡ firsts (length lists) ds = cut ∙ ap (λ k. firsts k ds) (sym many) in
    record {
      pass = pass;
      leaves = leaves;
      whole = all_whole gpu own ws ds pass worked gathers have;
      described = ap (λ (g : GpuState). g.spec) gathers.device ∙ described;
      ordered = gathers.ordered;
      submitters = some;
      armings = subst (λ ns. IsPermutation (armings pass.calls) ns) (sym (ap (all_items (λ v. v.items)) first ∙ all_firsts records ds lists rest done none)) gathers.armed;
      order = (
        ap length first ∙ (count_firsts records ds lists rest done ∙ many),
        λ s v at.
            let h = each_first records ds lists rest done s v (ap (λ l. slice_get l s) (sym first) ∙ at) in
            let share = of_map (λ (share : Vec Job Global). share.items) shares s h.0 h.1 in
            subst (λ js. AreJobsOf records v.items js) (sym share.2 ∙ dealt.1 s share.0 share.1) h.2,
      );
    }
