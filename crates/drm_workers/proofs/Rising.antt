-- The numbers that a chain of calls has armed rise. Where there are as many as records, they are the records' numbers.
use Rattle.std.proofs.Common.{◌≡◌, ◌<◌, ◌≤◌, ◌+◌, ℕ, Bool, true, false, List, [], ◌∷◌, ◌++◌, arith, suc, zero, refl, sym, ap, ◌∙◌, subst, length, inl, inr}
use Rattle.std.specs.Prelude.{nat_lt, if◌then◌else◌}
use Rattle.std.proofs.lemmas.Bool.{ltb-true}
use Rattle.std.proofs.lemmas.Option.{slice_get_within}
use Rattle.drm_lists.proofs.Places.{stands_within}
use Rattle.drm_job.specs.declared.Draft.{Draft}
use Rattle.ww_lock.specs.Rule.{In}
use Rattle.ww_lock.specs.Steps.{IsChain}
use Rattle.drm_state.specs.declared.journal.JobRecord.{JobRecord}
use Rattle.drm_sched.specs.Marks.{MarkedDevice}
use Rattle.drm_gpu.specs.Passes.{GrowsTo}
use Rattle.drm_workers.specs.Numbers.{armings, IsRising}
use Rattle.drm_workers.specs.Jobs.{JobAt, AreJobsOf, numbers_from}

abbrev pub AllBelow : ℕ → List ℕ → Type 0
AllBelow high [] = Unit {0}
AllBelow high (x ∷ xs) = (x < high) × AllBelow high xs

-- how many records a device has
abbrev pub count_of : MarkedDevice → ℕ
count_of d = length d.state.journal

-- a device that grew has no fewer records
pub longer : (d e : MarkedDevice) → GrowsTo d e → count_of d ≤ count_of e
longer d e g = reach (count_of d) (λ i h.
    let s = stands_within d.state.journal i h in
    let t = g.journal i s.0 s.1 in
    slice_get_within e.state.journal i t.0 t.1) where
      reach : (n : ℕ) → ((i : ℕ) → i < n → i < count_of e) → n ≤ count_of e
      reach zero f = omega arith
      reach (suc n) f = let h = f n (omega arith) in omega arith

-- the most numbers that can rise below high
few : (low high : ℕ) (xs : List ℕ) → low ≤ high → IsRising low xs → AllBelow high xs → low + length xs ≤ high
few low high [] l r b = omega arith
few low high (x ∷ xs) l r b = let h = r.0 in let k = b.0 in let m = few (x + 1) high xs (omega arith) r.1 b.1 in omega arith

pub all_there : (low : ℕ) (xs : List ℕ) (rs : List JobRecord) → IsRising low xs → AllBelow (low + length rs) xs → length xs ≡ length rs → numbers_from low rs ≡ xs
all_there low [] [] r b e = refl
all_there low [] (x ∷ rs) r b e = absurd (omega arith)
all_there low (x ∷ xs) [] r b e = absurd (omega arith)
all_there low (x ∷ xs) (y ∷ rs) r b e =
    let h = r.0 in
    let k = b.0 in
    let m = few (x + 1) (low + length (y ∷ rs)) xs (omega arith) r.1 b.1 in
    let same : x ≡ low = omega arith in
    ap (λ z. z ∷ numbers_from (low + 1) rs) (sym same)
    ∙ ap (λ z. x ∷ z) (all_there (low + 1) xs rs (subst (λ z. IsRising (z + 1) xs) same r.1) (subst (λ z. AllBelow z xs) (omega arith) b.1) (omega arith))

armed_rise : (b : Bool) (low a c : ℕ) (xs : List ℕ) → nat_lt a c ≡ b → low ≤ a → (a < c → IsRising (a + 1) xs) → IsRising low xs → IsRising low ((if b then a ∷ [] else []) ++ xs)
armed_rise true low a c xs e l f r = (l, f (ltb-true a c e))
armed_rise false low a c xs e l f r = r

pub rises : (cs : List (MarkedDevice × MarkedDevice)) (low : ℕ) → IsChain GrowsTo cs → ((c : MarkedDevice × MarkedDevice) → In c cs → low ≤ count_of c.0)
    → IsRising low (armings cs)
rises [] low chain l = tt
rises (c ∷ cs) low chain l =
    let a = count_of c.0 in
    let b = count_of c.1 in
    let after : (n : ℕ) → n ≤ b → IsRising n (armings cs) = λ n h. rises cs n chain.1 (λ d t. let k = longer c.1 d.0 (chain.0 d t) in omega arith) in
    armed_rise (nat_lt a b) low a b (armings cs) refl (l c (inl refl)) (λ h. after (a + 1) (omega arith)) (rises cs low chain.1 (λ d t. l d (inr t)))

armed_below : (b : Bool) (high a c : ℕ) (xs : List ℕ) → nat_lt a c ≡ b → c ≤ high → AllBelow high xs → AllBelow high ((if b then a ∷ [] else []) ++ xs)
armed_below true high a c xs e l r = (let h = ltb-true a c e in omega arith, r)
armed_below false high a c xs e l r = r

pub below : (cs : List (MarkedDevice × MarkedDevice)) (high : ℕ) → ((c : MarkedDevice × MarkedDevice) → In c cs → count_of c.1 ≤ high) → AllBelow high (armings cs)
below [] high l = tt
below (c ∷ cs) high l = armed_below (nat_lt (count_of c.0) (count_of c.1)) high (count_of c.0) (count_of c.1) (armings cs) refl (l c (inl refl)) (below cs high (λ e t. l e (inr t)))

job_stays : (d e : MarkedDevice) (n : ℕ) (job : Draft) → GrowsTo d e → JobAt d.state.journal n job → JobAt e.state.journal n job
job_stays d e n job g h = let x = g.journal n h.0 h.1 in (x.0, x.1, x.2.job ∙ h.2)

pub jobs_stay : (d e : MarkedDevice) → GrowsTo d e → (ns : List ℕ) (jobs : List Draft) → AreJobsOf d.state.journal ns jobs → AreJobsOf e.state.journal ns jobs
jobs_stay d e g [] [] h = tt
jobs_stay d e g [] (job ∷ jobs) h = absurd h
jobs_stay d e g (n ∷ ns) [] h = absurd h
jobs_stay d e g (n ∷ ns) (job ∷ jobs) h = (job_stays d e n job g h.0, jobs_stay d e g ns jobs h.1)

pub as_many : (rs : List JobRecord) (ns : List ℕ) (jobs : List Draft) → AreJobsOf rs ns jobs → length ns ≡ length jobs
as_many rs [] [] h = refl
as_many rs [] (job ∷ jobs) h = absurd h
as_many rs (n ∷ ns) [] h = absurd h
as_many rs (n ∷ ns) (job ∷ jobs) h = ap suc (as_many rs ns jobs h.1)
