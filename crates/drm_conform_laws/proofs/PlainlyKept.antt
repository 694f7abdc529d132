-- A log that tells a run keeps the rules.
use Rattle.std.proofs.Common.{◌≡◌, ℕ, ◌+◌, ◌<◌, ◌≤◌, Bool, true, false, cond, List, [], take, Option, Some, None, refl, sym, ap, subst, ◌∙◌, inl, inr, arith, le-leb, slice_get}
use Rattle.std.specs.Prelude.{◌||◌, ◌&&◌, ◌==◌, is_none, nat_le, nat_lt}
use Rattle.std.proofs.lemmas.Bool.{eq-eqb, eqb-true, lt-ltb, or_right, true≢false}
use Rattle.std.proofs.lemmas.Option.{same_Some}
use Rattle.drm_lists.proofs.Places.{place_of}
use Rattle.drm_lists.proofs.Searches.{find_first}
use Rattle.drm_state.specs.declared.journal.JobRecord.{JobRecord}
use Rattle.drm_state.specs.State.{DeviceState}
use Rattle.drm_state.proofs.Found.{find_none}
use Rattle.drm_trace.specs.declared.event.Event.{Event as Line}
use Rattle.drm_trace.specs.declared.event.Place.{Place}
use Rattle.drm_trace.specs.declared.event.What.{What}
use Rattle.drm_trace.specs.declared.event.What.TheVariants as does
use Rattle.drm_rules.specs.Conforms.{Conforms, Keeps, KeepsEnd, KeepsQueued, KeepsRun}
use Rattle.drm_rules.specs.Lines.{ending, ends, first_in, is_line, job_awaited, last_in, number_told, queueing, queues, queues_of, running, runs, runs_of}
use Rattle.drm_rules.specs.Rows.{is_in}
use Rattle.drm_rules.specs.Rules.{has_ended, in_turn, is_met, is_near, is_next, precedes, same_ring, unmet, unmet_of}
use Rattle.drm_conform_laws.specs.RunLogs.{numbered_from, plain_demands}
use Rattle.drm_conform_laws.proofs.LineLists.{compared, find_fails, is_first, last_at, line_at, numbered_at, numbered_from_at, taken_at}
use Rattle.drm_conform_laws.proofs.RunsTold.{RunTells}
use Rattle.drm_conform_laws.proofs.StepsTold.{After, Told}

-- ---- lanes

queued_is : (n f k : ℕ) (w : What) → is_in (queues (line_at n (f, w))) k ≡ true → (p : Place) × (f ≡ k) × (w ≡ does.Queued p)
queued_is n f k (does.Queued p) is = (p, eqb-true f k is, refl)
queued_is n f k (does.Ran p) is = absurd (true≢false (sym is))
queued_is n f k (does.Waits on) is = absurd (true≢false (sym is))
queued_is n f k does.Ended is = absurd (true≢false (sym is))

run_is : (n f k : ℕ) (w : What) → is_in (runs (line_at n (f, w))) k ≡ true → (p : Place) × (f ≡ k) × (w ≡ does.Ran p)
run_is n f k (does.Queued p) is = absurd (true≢false (sym is))
run_is n f k (does.Ran p) is = (p, eqb-true f k is, refl)
run_is n f k (does.Waits on) is = absurd (true≢false (sym is))
run_is n f k does.Ended is = absurd (true≢false (sym is))

ended_is : (n f k : ℕ) (w : What) → is_in (ends (line_at n (f, w))) k ≡ true → (f ≡ k) × (w ≡ does.Ended)
ended_is n f k (does.Queued p) is = absurd (true≢false (sym is))
ended_is n f k (does.Ran p) is = absurd (true≢false (sym is))
ended_is n f k (does.Waits on) is = absurd (true≢false (sym is))
ended_is n f k does.Ended is = (eqb-true f k is, refl)

queued_of_is : (n f k : ℕ) (w : What) → is_in (queues_of (line_at n (f, w))) k ≡ true → (p : Place) × (p.entity ≡ k) × (w ≡ does.Queued p)
queued_of_is n f k (does.Queued p) is = (p, eqb-true p.entity k is, refl)
queued_of_is n f k (does.Ran p) is = absurd (true≢false (sym is))
queued_of_is n f k (does.Waits on) is = absurd (true≢false (sym is))
queued_of_is n f k does.Ended is = absurd (true≢false (sym is))

run_of_is : (n f k : ℕ) (w : What) → is_in (runs_of (line_at n (f, w))) k ≡ true → (p : Place) × (p.entity ≡ k) × (w ≡ does.Ran p)
run_of_is n f k (does.Queued p) is = absurd (true≢false (sym is))
run_of_is n f k (does.Ran p) is = (p, eqb-true p.entity k is, refl)
run_of_is n f k (does.Waits on) is = absurd (true≢false (sym is))
run_of_is n f k does.Ended is = absurd (true≢false (sym is))

-- ---- tests

or_first : (a b : Bool) → a ≡ true → (a || b) ≡ true
or_first true b is = refl
or_first false b is = absurd (true≢false (sym is))

is_its_line : (o : Option Line) (e : Line) → o ≡ Some e → is_line o e ≡ true
is_its_line None e is = absurd (cc (is))
is_its_line (Some x) e is = let same : x ≡ e = cc (is) in eq-eqb x.line e.line (ap (λ (l : Line). l.line) same)

both_hold : (a b : Bool) → a ≡ true → b ≡ true → (a && b) ≡ true
both_hold true b is so = so
both_hold false b is so = absurd (true≢false (sym is))

comes_first : (tolerance : ℕ) (first e : Line) → first.line < e.line → precedes tolerance first e ≡ true
comes_first tolerance first e lt = or_first (nat_lt first.line e.line) (is_near tolerance first e) (lt-ltb first.line e.line lt)

module _ (journal : List JobRecord) (d : DeviceState) (ts : List (ℕ × What)) (tells : RunTells journal d [] ts) where
  abbrev log : List Line
  log = numbered_from 1 ts

  -- a line of the log, by its entry
  entry_at : (i : ℕ) (e : Line) → slice_get log i ≡ Some e → (f : ℕ) × (w : What) × (slice_get ts i ≡ Some (f, w)) × (e ≡ line_at (1 + i) (f, w))
  entry_at i e at = let found = numbered_from_at 1 i ts e at in (found.0.0, found.0.1, found.1, found.2)

  line_of : (i f : ℕ) (w : What) → slice_get ts i ≡ Some (f, w) → slice_get log i ≡ Some (line_at (1 + i) (f, w))
  line_of i f w at = numbered_at 1 i ts (f, w) at

  -- what is first of a lane is in turn, where each of the lane stands before
  turn_of : (lane : Line → Option ℕ) (k i f : ℕ) (w : What) → ((b g : ℕ) (v : What) → slice_get ts b ≡ Some (g, v) → is_in (lane (line_at (1 + b) (g, v))) k ≡ true → b < i)
      → in_turn 0 (first_in lane log k) (line_at (1 + i) (f, w)) ≡ true
  turn_of lane k i f w before = by_find (first_in lane log k) refl
    where
      by_find : (o : Option Line) → first_in lane log k ≡ o → in_turn 0 o (line_at (1 + i) (f, w)) ≡ true
      by_find None none = refl
      by_find (Some x) some =
          let found = find_first (λ (e : Line). is_in (lane e) k) log x some in
          let entry = entry_at found.0 x found.1 in
          let of_lane : is_in (lane (line_at (1 + found.0) (entry.0, entry.1))) k ≡ true = ap (λ (e : Line). is_in (lane e) k) (sym entry.3) ∙ found.2 in
          let lt = before found.0 entry.0 entry.1 entry.2 of_lane in
          let line : x.line ≡ 1 + found.0 = ap (λ (e : Line). e.line) entry.3 in
          comes_first 0 x (line_at (1 + i) (f, w)) (omega (arith, lt, line))

  -- the line before in an entity tells no later job
  next_of : (lane : Line → Option ℕ) (k i f : ℕ) (w : What)
      → ((b g : ℕ) (v : What) → b < i → slice_get ts b ≡ Some (g, v) → is_in (lane (line_at (1 + b) (g, v))) k ≡ true → number_told v ≤ number_told w)
      → is_next 0 (last_in lane (take i log) k) (line_at (1 + i) (f, w)) ≡ true
  next_of lane k i f w before = by_last (last_in lane (take i log) k) refl
    where
      by_last : (o : Option Line) → last_in lane (take i log) k ≡ o → is_next 0 o (line_at (1 + i) (f, w)) ≡ true
      by_last None none = refl
      by_last (Some x) some =
          let last = last_at lane (take i log) k x some in
          let taken = taken_at log i last.0 x last.1 in
          let entry = entry_at last.0 x taken.1 in
          let of_lane : is_in (lane (line_at (1 + last.0) (entry.0, entry.1))) k ≡ true = ap (λ (e : Line). is_in (lane e) k) (sym entry.3) ∙ last.2 in
          let le = before last.0 entry.0 entry.1 taken.0 entry.2 of_lane in
          let told : number_told x.what ≡ number_told entry.1 = ap (λ (e : Line). number_told e.what) entry.3 in
          or_first (nat_le (number_told x.what) (number_told w)) (is_near 0 x (line_at (1 + i) (f, w))) (le-leb (number_told x.what) (number_told w) (omega (arith, le, told)))

  -- the entries of two places, the earlier first
  after : (b i g f : ℕ) (v w : What) → b < i → slice_get ts b ≡ Some (g, v) → slice_get ts i ≡ Some (f, w) → After g v f w
  after b i g f v w lt at_b at_i = tells.pairs b i (g, v) (f, w) lt at_b at_i

  not_less : (n : ℕ) → n < n → ⊥
  not_less n lt = omega (arith, lt)

  -- ---- a job is queued

  queued_first : (i f : ℕ) (p : Place) → slice_get ts i ≡ Some (f, does.Queued p) → queueing log f ≡ Some (line_at (1 + i) (f, does.Queued p))
  queued_first i f p at = is_first queues log f i (line_at (1 + i) (f, does.Queued p)) (line_of i f (does.Queued p) at) (eq-eqb f f refl) none
    where
      none : (b : ℕ) (x : Line) → b < i → slice_get log b ≡ Some x → is_in (queues x) f ≡ true → ⊥
      none b x lt at_b of_lane =
          let entry = entry_at b x at_b in
          let q = queued_is (1 + b) entry.0 f entry.1 (ap (λ (e : Line). is_in (queues e) f) (sym entry.3) ∙ of_lane) in
          let here : slice_get ts b ≡ Some (f, does.Queued q.0) = entry.2 ∙ ap (λ (g : ℕ). Some (g, entry.1)) q.1 ∙ ap (λ (v : What). Some (f, v)) q.2 in
          not_less f (after b i f f (does.Queued q.0) (does.Queued p) lt here at)

  keeps_queued : (i f : ℕ) (p : Place) → slice_get ts i ≡ Some (f, does.Queued p) → KeepsQueued plain_demands log (take i log) (line_at (1 + i) (f, does.Queued p)) p
  keeps_queued i f p at = record {
    once = is_its_line (queueing log f) (line_at (1 + i) (f, does.Queued p)) (queued_first i f p at);
    in_order = next_of queues_of p.entity i f (does.Queued p) before;
  }
    where
      before : (b g : ℕ) (v : What) → b < i → slice_get ts b ≡ Some (g, v) → is_in (queues_of (line_at (1 + b) (g, v))) p.entity ≡ true → number_told v ≤ number_told (does.Queued p)
      before b g v lt at_b of_lane =
          let q = queued_of_is (1 + b) g p.entity v of_lane in
          let here : slice_get ts b ≡ Some (g, does.Queued q.0) = at_b ∙ ap (λ (u : What). Some (g, u)) q.2 in
          let less = after b i g f (does.Queued q.0) (does.Queued p) lt here at in
          let first = tells.told b (g, does.Queued q.0) here in
          let second = tells.told i (f, does.Queued p) at in
          let told : number_told v ≡ q.0.number = ap number_told q.2 in
          omega (arith, less, first, second, told)

  -- ---- a job runs

  run_first : (i f : ℕ) (p : Place) → slice_get ts i ≡ Some (f, does.Ran p) → running log f ≡ Some (line_at (1 + i) (f, does.Ran p))
  run_first i f p at = is_first runs log f i (line_at (1 + i) (f, does.Ran p)) (line_of i f (does.Ran p) at) (eq-eqb f f refl) none
    where
      none : (b : ℕ) (x : Line) → b < i → slice_get log b ≡ Some x → is_in (runs x) f ≡ true → ⊥
      none b x lt at_b of_lane =
          let entry = entry_at b x at_b in
          let q = run_is (1 + b) entry.0 f entry.1 (ap (λ (e : Line). is_in (runs e) f) (sym entry.3) ∙ of_lane) in
          let here : slice_get ts b ≡ Some (f, does.Ran q.0) = entry.2 ∙ ap (λ (g : ℕ). Some (g, entry.1)) q.1 ∙ ap (λ (v : What). Some (f, v)) q.2 in
          (after b i f f (does.Ran q.0) (does.Ran p) lt here at).0 refl

  queued_before : (i f : ℕ) (p : Place) → slice_get ts i ≡ Some (f, does.Ran p) → (b g : ℕ) (v : What) → slice_get ts b ≡ Some (g, v)
      → is_in (queues (line_at (1 + b) (g, v))) f ≡ true → b < i
  queued_before i f p at b g v at_b of_lane =
      let q = queued_is (1 + b) g f v of_lane in
      let here : slice_get ts b ≡ Some (f, does.Queued q.0) = at_b ∙ ap (λ (m : ℕ). Some (m, v)) q.1 ∙ ap (λ (u : What). Some (f, u)) q.2 in
      elim (compared b i) [
        | inl less ↦ less
        | inr rest ↦ elim rest [
          | inl same ↦
              let both : ◌≡◌ {A = Option (ℕ × What)} (Some (f, does.Queued q.0)) (Some (f, does.Ran p)) = sym here ∙ ap (slice_get ts) same ∙ at in
              let kinds : does.Queued q.0 ≡ does.Ran p = ap (λ (u : ℕ × What). u.1) (same_Some _ _ both) in
              absurd (cc (kinds))
          | inr more ↦ absurd (not_less f (after i b f f (does.Ran p) (does.Queued q.0) more at here))
        ]
      ]

  -- what a job waits for is met where it runs
  ends_before : (i l on f : ℕ) (w : What) → l < i → slice_get ts l ≡ Some (on, does.Ended) → has_ended 0 (ending log on) (line_at (1 + i) (f, w)) ≡ true
  ends_before i l on f w lt at_l = by_find (ending log on) refl
    where
      of_lane : is_in (ends (line_at (1 + l) (on, does.Ended))) on ≡ true
      of_lane = eq-eqb on on refl

      by_find : (o : Option Line) → ending log on ≡ o → has_ended 0 o (line_at (1 + i) (f, w)) ≡ true
      by_find None none = absurd (true≢false (sym of_lane ∙ find_fails (λ (e : Line). is_in (ends e) on) log l (line_at (1 + l) (on, does.Ended)) none (line_of l on does.Ended at_l)))
      by_find (Some x) some =
          let found = find_first (λ (e : Line). is_in (ends e) on) log x some in
          let entry = entry_at found.0 x found.1 in
          let line : x.line ≡ 1 + found.0 = ap (λ (e : Line). e.line) entry.3 in
          elim (compared found.0 l) [
            | inl less ↦ comes_first 0 x (line_at (1 + i) (f, w)) (omega (arith, lt, less, line))
            | inr rest ↦ elim rest [
              | inl same ↦ comes_first 0 x (line_at (1 + i) (f, w)) (omega (arith, lt, same, line))
              | inr more ↦ absurd (true≢false (sym of_lane ∙ found.3 l (line_at (1 + l) (on, does.Ended)) more (line_of l on does.Ended at_l)))
            ]
          ]

  -- of two jobs that run the one that is waited for runs first, if it does not run later
  run_sooner : (i f on k : ℕ) (p q : Place) → slice_get ts i ≡ Some (f, does.Ran p) → on < f → slice_get ts k ≡ Some (on, does.Ran q)
      → ((j : ℕ) (u : Place) → i < j → slice_get ts j ≡ Some (on, does.Ran u) → ⊥) → k < i
  run_sooner i f on k p q at lt here not_later = elim (compared k i) [
    | inl less ↦ less
    | inr rest ↦ elim rest [
      | inl same ↦
          let both : ◌≡◌ {A = Option (ℕ × What)} (Some (on, does.Ran q)) (Some (f, does.Ran p)) = sym here ∙ ap (slice_get ts) same ∙ at in
          let jobs : on ≡ f = ap (λ (u : ℕ × What). u.0) (same_Some _ _ both) in absurd (omega (arith, jobs, lt))
      | inr more ↦ absurd (not_later k q more here)
    ]
  ]

  -- the job that runs, and one for which it waits and which runs too
  met_by_run : (i f on k : ℕ) (p q : Place) → slice_get ts i ≡ Some (f, does.Ran p) → Told journal f (does.Waits on) → slice_get ts k ≡ Some (on, does.Ran q)
      → is_met 0 (Some (line_at (1 + i) (f, does.Ran p))) (Some (line_at (1 + k) (on, does.Ran q))) (ending log on) ≡ true
  met_by_run i f on k p q at waits here =
      let r = waits.1 in
      let x = r.2 in
      let later = line_at (1 + i) (f, does.Ran p) in
      let sooner = line_at (1 + k) (on, does.Ran q) in
      elim (tells.met i f p at on r.0 x.0 waits.0 r.1 x.1 x.2) [
        | inl ended ↦
            let place = place_of (take i ts) (on, does.Ended) ended in
            let taken = taken_at ts i place.0 (on, does.Ended) place.1 in
            or_first (has_ended 0 (ending log on) later) (same_ring (Some q.ring) (Some p.ring) && precedes 0 sooner later)
            (ends_before i place.0 on f (does.Ran p) taken.0 taken.1)
        | inr begun ↦
            let told = (tells.told k (on, does.Ran q) here).1 in
            let one : told.0 ≡ x.0 = (let both : Some told.0 ≡ Some x.0 = sym told.1 ∙ x.1 in cc (both)) in
            let ring : q.ring ≡ p.ring = told.3 ∙ ap (λ (y : JobRecord). y.ring) one ∙ begun.0 in
            let lt : k < i = run_sooner i f on k p q at waits.0 here begun.1 in
            or_right (has_ended 0 (ending log on) later) (same_ring (Some q.ring) (Some p.ring) && precedes 0 sooner later)
            (both_hold (q.ring == p.ring) (precedes 0 sooner later) (eq-eqb q.ring p.ring ring) (comes_first 0 sooner later (omega (arith, lt))))
      ]

  wait_met : (i f on : ℕ) (p : Place) → slice_get ts i ≡ Some (f, does.Ran p) → Told journal f (does.Waits on)
      → is_met 0 (Some (line_at (1 + i) (f, does.Ran p))) (running log on) (ending log on) ≡ true
  wait_met i f on p at waits = by_run (running log on) refl
    where
      by_run : (o : Option Line) → running log on ≡ o → is_met 0 (Some (line_at (1 + i) (f, does.Ran p))) o (ending log on) ≡ true
      by_run None none = refl
      by_run (Some a) some =
          let found = find_first (λ (x : Line). is_in (runs x) on) log a some in
          let entry = entry_at found.0 a found.1 in
          let q = run_is (1 + found.0) entry.0 on entry.1 (ap (λ (x : Line). is_in (runs x) on) (sym entry.3) ∙ found.2) in
          let here : slice_get ts found.0 ≡ Some (on, does.Ran q.0) = entry.2 ∙ ap (λ (g : ℕ). Some (g, entry.1)) q.1 ∙ ap (λ (v : What). Some (on, v)) q.2 in
          let a_is : a ≡ line_at (1 + found.0) (on, does.Ran q.0) = entry.3 ∙ ap (λ (g : ℕ). line_at (1 + found.0) (g, entry.1)) q.1 ∙ ap (λ (v : What). line_at (1 + found.0) (on, v)) q.2 in
          subst (λ (x : Line). is_met 0 (Some (line_at (1 + i) (f, does.Ran p))) (Some x) (ending log on) ≡ true) (sym a_is) (met_by_run i f on found.0 p q.0 at waits here)

  -- no wait of a job that runs is unmet
  unmet_none : (i f : ℕ) (p : Place) → slice_get ts i ≡ Some (f, does.Ran p) → first_in (unmet 0 log) log f ≡ None
  unmet_none i f p at = find_none (λ (e : Line). is_in (unmet 0 log e) f) log fails
    where
      met_of : (b g on : ℕ) → slice_get ts b ≡ Some (g, does.Waits on) → (mine : Bool) → (g == f) ≡ mine → (met : Bool)
          → is_met 0 (running log g) (running log on) (ending log on) ≡ met → is_in (cond met None (Some g)) f ≡ false
      met_of b g on at_b mine same true is = refl
      met_of b g on at_b false same false is = same
      met_of b g on at_b true same false is =
          let one : g ≡ f = eqb-true g f same in
          let here : slice_get ts b ≡ Some (f, does.Waits on) = at_b ∙ ap (λ (m : ℕ). Some (m, does.Waits on)) one in
          let run : running log g ≡ Some (line_at (1 + i) (f, does.Ran p)) = ap (running log) one ∙ run_first i f p at in
          let so : is_met 0 (running log g) (running log on) (ending log on) ≡ true =
          ap (λ (o : Option Line). is_met 0 o (running log on) (ending log on)) run ∙ wait_met i f on p at (tells.told b (f, does.Waits on) here) in
          absurd (true≢false (sym so ∙ is))

      fails_at : (b g : ℕ) (v : What) → slice_get ts b ≡ Some (g, v) → is_in (unmet_of 0 log g (job_awaited v)) f ≡ false
      fails_at b g (does.Queued q) at_b = refl
      fails_at b g (does.Ran q) at_b = refl
      fails_at b g (does.Waits on) at_b = met_of b g on at_b (g == f) refl (is_met 0 (running log g) (running log on) (ending log on)) refl
      fails_at b g does.Ended at_b = refl

      fails : (b : ℕ) (x : Line) → slice_get log b ≡ Some x → is_in (unmet 0 log x) f ≡ false
      fails b x at_b =
          let entry = entry_at b x at_b in
          ap (λ (e : Line). is_in (unmet 0 log e) f) entry.3 ∙ fails_at b entry.0 entry.1 entry.2

  keeps_run : (i f : ℕ) (p : Place) → slice_get ts i ≡ Some (f, does.Ran p) → KeepsRun plain_demands log (take i log) (line_at (1 + i) (f, does.Ran p)) p
  keeps_run i f p at = record {
    once = is_its_line (running log f) (line_at (1 + i) (f, does.Ran p)) (run_first i f p at);
    queued = turn_of queues f i f (does.Ran p) (queued_before i f p at);
    in_order = next_of runs_of p.entity i f (does.Ran p) before;
    ready = or_first (is_none (first_in (unmet 0 log) log f)) _ (ap is_none (unmet_none i f p at));
    room = refl;
  }
    where
      before : (b g : ℕ) (v : What) → b < i → slice_get ts b ≡ Some (g, v) → is_in (runs_of (line_at (1 + b) (g, v))) p.entity ≡ true → number_told v ≤ number_told (does.Ran p)
      before b g v lt at_b of_lane =
          let q = run_of_is (1 + b) g p.entity v of_lane in
          let here : slice_get ts b ≡ Some (g, does.Ran q.0) = at_b ∙ ap (λ (u : What). Some (g, u)) q.2 in
          let less = (after b i g f (does.Ran q.0) (does.Ran p) lt here at).1 q.1 in
          let first = (tells.told b (g, does.Ran q.0) here).0 in
          let second = (tells.told i (f, does.Ran p) at).0 in
          let told : number_told v ≡ q.0.number = ap number_told q.2 in
          omega (arith, less, first, second, told)

  -- ---- a job ends

  end_first : (i f : ℕ) → slice_get ts i ≡ Some (f, does.Ended) → ending log f ≡ Some (line_at (1 + i) (f, does.Ended))
  end_first i f at = is_first ends log f i (line_at (1 + i) (f, does.Ended)) (line_of i f does.Ended at) (eq-eqb f f refl) none
    where
      none : (b : ℕ) (x : Line) → b < i → slice_get log b ≡ Some x → is_in (ends x) f ≡ true → ⊥
      none b x lt at_b of_lane =
          let entry = entry_at b x at_b in
          let q = ended_is (1 + b) entry.0 f entry.1 (ap (λ (e : Line). is_in (ends e) f) (sym entry.3) ∙ of_lane) in
          let here : slice_get ts b ≡ Some (f, does.Ended) = entry.2 ∙ ap (λ (g : ℕ). Some (g, entry.1)) q.0 ∙ ap (λ (v : What). Some (f, v)) q.1 in
          after b i f f does.Ended does.Ended lt here at refl

  run_before : (i f : ℕ) → slice_get ts i ≡ Some (f, does.Ended) → (b g : ℕ) (v : What) → slice_get ts b ≡ Some (g, v)
      → is_in (runs (line_at (1 + b) (g, v))) f ≡ true → b < i
  run_before i f at b g v at_b of_lane =
      let q = run_is (1 + b) g f v of_lane in
      let here : slice_get ts b ≡ Some (f, does.Ran q.0) = at_b ∙ ap (λ (m : ℕ). Some (m, v)) q.1 ∙ ap (λ (u : What). Some (f, u)) q.2 in
      elim (compared b i) [
        | inl less ↦ less
        | inr rest ↦ elim rest [
          | inl same ↦
              let both : ◌≡◌ {A = Option (ℕ × What)} (Some (f, does.Ran q.0)) (Some (f, does.Ended)) = sym here ∙ ap (slice_get ts) same ∙ at in
              let kinds : does.Ran q.0 ≡ does.Ended = ap (λ (u : ℕ × What). u.1) (same_Some _ _ both) in
              absurd (cc (kinds))
          | inr more ↦ absurd (after i b f f does.Ended (does.Ran q.0) more at here refl)
        ]
      ]

  keeps_end : (i f : ℕ) → slice_get ts i ≡ Some (f, does.Ended) → KeepsEnd plain_demands log (take i log) (line_at (1 + i) (f, does.Ended))
  keeps_end i f at = record {
    once = is_its_line (ending log f) (line_at (1 + i) (f, does.Ended)) (end_first i f at);
    ran = turn_of runs f i f does.Ended (run_before i f at);
    in_order = refl;
  }

  keeps_line : (i f : ℕ) (w : What) → slice_get ts i ≡ Some (f, w) → Keeps plain_demands log (take i log) (line_at (1 + i) (f, w)) w
  keeps_line i f (does.Queued p) at = keeps_queued i f p at
  keeps_line i f (does.Ran p) at = keeps_run i f p at
  keeps_line i f (does.Waits on) at = tt
  keeps_line i f does.Ended at = keeps_end i f at

  pub plainly_kept : Conforms plain_demands (numbered_from 1 ts)
  plainly_kept place e at =
      let entry = entry_at place e at in
      subst (λ (x : Line). Keeps plain_demands (numbered_from 1 ts) (take place (numbered_from 1 ts)) x x.what) (sym entry.3) (keeps_line place entry.0 entry.1 entry.2)
