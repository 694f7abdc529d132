-- Times of jobs and of rings, with one line or one job more.
use Rattle.std.proofs.Common.{◌≡◌, ℕ, ◌+◌, ◌==◌, Bool, true, false, cond, List, [], ◌∷◌, ◌++◌, Some, None, max, refl, sym, ap, ◌∙◌, arith, add-one}
use Rattle.std.specs.Prelude.{slice_index_or}
use Rattle.std.proofs.lemmas.Bool.{eqb-true}
use Rattle.drm_trace.specs.declared.event.Event.{Event}
use Rattle.drm_rules.specs.Lines.{running}
use Rattle.drm_rules.specs.Rows.{NotesGreatest, Puts, is_in}
use Rattle.drm_conform.specs.declared.times.Total.{Total}
use Rattle.drm_conform.specs.Tables.{AreTotals}
use Rattle.drm_conform.specs.Times.{latest_release, no_time, release_told, ring_of, times_of, total_of, waits, with_times}

-- ---- releases

max_assoc : (a b c : ℕ) → max a (max b c) ≡ max (max a b) c
max_assoc a b c = omega arith

-- the latest release of a job, with one line more
pub release_more : (log seen : List Event) (e : Event) (k : ℕ)
    → latest_release log (seen ++ e ∷ []) k ≡ max (latest_release log seen k) (cond (is_in (waits e) k) (release_told log e) 0)
release_more log [] e k = omega arith
release_more log (first ∷ seen) e k =
    ap (λ (n : ℕ). max (cond (is_in (waits first) k) (release_told log first) 0) n) (release_more log seen e k)
    ∙ max_assoc (cond (is_in (waits first) k) (release_told log first) 0) (latest_release log seen k) (cond (is_in (waits e) k) (release_told log e) 0)

pub release_follows : (log seen : List Event) (e : Event) (old new : List ℕ) → NotesGreatest old (waits e) (release_told log e) new
    → ((k : ℕ) → slice_index_or old k 0 ≡ latest_release log seen k) → (k : ℕ) → slice_index_or new k 0 ≡ latest_release log (seen ++ e ∷ []) k
release_follows log seen e old new notes are k =
    notes k ∙ ap (λ (n : ℕ). max n (cond (is_in (waits e) k) (release_told log e) 0)) (are k) ∙ sym (release_more log seen e k)

-- ---- times of rings

total_here : (log : List Event) (job ring k : ℕ) (rows : List Total) (total : Total) (same : Bool) → (ring == k) ≡ same
    → total ≡ with_times (slice_index_or rows ring no_time) (times_of log job) → AreTotals log job rows
    → cond same total (slice_index_or rows k no_time) ≡ cond same (with_times (total_of log job k) (times_of log job)) (total_of log job k)
total_here log job ring k rows total true is adds are =
    let one : ring ≡ k = eqb-true ring k is in
    adds ∙ ap (λ (t : Total). with_times t (times_of log job)) (ap (λ (n : ℕ). slice_index_or rows n no_time) one ∙ are k)
total_here log job ring k rows total false is adds are = are k

-- one job more of a ring
pub totals_on : (log : List Event) (job ring : ℕ) (rows more : List Total) (total : Total) → ring_of (running log job) ≡ Some ring
    → total ≡ with_times (slice_index_or rows ring no_time) (times_of log job) → Puts no_time rows ring total more → AreTotals log job rows → AreTotals log (job + 1) more
totals_on log job ring rows more total on adds puts are k =
    rw (add-one job, on) (puts k ∙ total_here log job ring k rows total (ring == k) refl adds are)

-- one that no ring runs
pub totals_same : (log : List Event) (job : ℕ) (rows : List Total) → ring_of (running log job) ≡ None → AreTotals log job rows → AreTotals log (job + 1) rows
totals_same log job rows none are k = rw (add-one job, none) (are k)
