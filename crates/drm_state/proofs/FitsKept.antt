-- Reservations go on to fit.
use Rattle.std.proofs.Common.{◌≡◌, ℕ, suc, ◌+◌, ◌<◌, ◌≤◌, Bool, true, false, cond, ◌&&◌, ◌==◌, List, [], ◌∷◌, ◌++◌, length, Some, None, Option, refl, sym, ap, subst, ◌∙◌, inl, inr, arith, slice_get, append-nil}
use Rattle.std.specs.Option.{option_map_or}
use Rattle.std.specs.Prelude.{option_map, nat_le}
use Rattle.std.specs.List.{list_any, filter_map, cons_option, enumerate_from, AllByRecursion}
use Rattle.std.proofs.lemmas.Bool.{or_cases, or_left, or_right, and_parts, and_from, eqb-true, eq-eqb, leb-true, le-leb, cases_order}
use Rattle.std.proofs.lemmas.List.Elements.{All-weaker, All-from_recursion, recursion_from_All, filter_map-append}
use Rattle.std.proofs.lemmas.Option.{slice_get_within, slice_get-get_or}
use Rattle.std.proofs.Common.{get_or}
use Rattle.drm_lists.proofs.Places.{get_before_push, get_push_cases}
use Rattle.drm_types.specs.declared.access.Usage.{Usage}
use Rattle.drm_types.specs.declared.access.Usage.TheVariants as usage
use Rattle.drm_types.specs.Usages.{place_of, is_as_strong}
use Rattle.drm_job.specs.declared.Draft.{Draft}
use Rattle.drm_fence.specs.declared.phase.Phase.{Phase}
use Rattle.drm_fence.specs.declared.phase.Phase.TheVariants.{Queued, Scheduled, Ended}
use Rattle.drm_state.specs.declared.journal.JobRecord.{JobRecord}
use Rattle.drm_state.specs.State.{DeviceState}
use Rattle.drm_resv.specs.declared.entry.Entry.{Entry}
use Rattle.drm_resv.specs.Reservation.{Reservation}
use Rattle.drm_state.specs.Journal.{numbered}
use Rattle.drm_fence.specs.Phases.{has_ended, outcome_of}
use Rattle.drm_state.specs.Reservation.{usage_at, arms, is_signaled, stands_for, IsOfJob, Fits}
use Rattle.drm_resv.specs.Entries.{replaces, entries_with, added_to}
use Rattle.drm_state.specs.Arming.{new_record, armed_reservation}
use Rattle.drm_state.specs.Grows.{GoesOn, RecordGrows, EachInPlace}
use Rattle.drm_state.specs.Lawful.{EachTwo, KeepsEntityOrder}
use Rattle.drm_state.proofs.Records.{at_test}

-- the armed jobs, numbered from n on
abbrev pub arms_from : ℕ → ℕ → List JobRecord → List (ℕ × Usage)
arms_from n buffer journal = filter_map (λ m. option_map (λ u. (m.0, u)) (usage_at buffer m.1.job)) (enumerate_from n journal)

-- the arms of a journal whose records keep their jobs
pub arms_kept : (n buffer : ℕ) (old new : List JobRecord) → length new ≡ length old → EachInPlace RecordGrows old new → arms_from n buffer new ≡ arms_from n buffer old
arms_kept n buffer [] [] count grows = refl
arms_kept n buffer [] (y ∷ ys) count grows = absurd (omega (arith, count))
arms_kept n buffer (x ∷ xs) [] count grows = absurd (omega (arith, count))
arms_kept n buffer (x ∷ xs) (y ∷ ys) count grows =
    let head = grows 0 x refl in
    let same : y ≡ head.0 = cc (head.1) in
    let job : y.job ≡ x.job = ap (λ (z : JobRecord). z.job) same ∙ head.2.job in
    let rest = arms_kept (n + 1) buffer xs ys (omega (arith, count)) (λ i old is. grows (suc i) old is) in
    ap (λ j. cons_option (option_map (λ u. (n, u)) (usage_at buffer j)) (arms_from (n + 1) buffer ys)) job
    ∙ ap (λ rest. cons_option (option_map (λ u. (n, u)) (usage_at buffer x.job)) rest) rest

-- a phase without an outcome had none before
pub no_outcome_before : (old new : Phase) → GoesOn old new → outcome_of new ≡ None → outcome_of old ≡ None
no_outcome_before Queued new goes none = refl
no_outcome_before Scheduled new goes none = refl
no_outcome_before (Ended o) new goes none = let has : outcome_of new ≡ Some o = ap outcome_of goes in absurd (cc (has, none))

pub of_job_kept : (buffer : ℕ) (old new : List JobRecord) (e : Entry) → EachInPlace RecordGrows old new → IsOfJob buffer old e → IsOfJob buffer new e
of_job_kept buffer old new e grows of_job =
    let r = grows e.fence of_job.0 of_job.1 in (
      r.0,
      r.1,
      ap (usage_at buffer) r.2.job ∙ of_job.2,
      ap (λ (j : Draft). j.entity) r.2.job ∙ of_job.3,
    )

-- a reservation goes on to fit while the records grow
pub fits_kept : (buffer : ℕ) (old new : List JobRecord) (resv : Reservation) → length new ≡ length old → EachInPlace RecordGrows old new
    → Fits buffer old resv → Fits buffer new resv
fits_kept buffer old new resv count grows fits = record {
  history = fits.history ∙ sym (arms_kept 0 buffer old new count grows);
  of_jobs = All-weaker (IsOfJob buffer old) (IsOfJob buffer new) (λ e. of_job_kept buffer old new e grows) resv.entries fits.of_jobs;
  covers = λ i r u at uses none.
      let within : i < length old = omega (arith, slice_get_within new i r at, count) in
      let was = slice_get-get_or old i r within in
      let grown = grows i (get_or old i r) was in
      let same : grown.0 ≡ r = cc (grown.1, at) in
      let job : r.job ≡ (get_or old i r).job = ap (λ (z : JobRecord). z.job) (sym same) ∙ grown.2.job in
      let phase : GoesOn (get_or old i r).phase r.phase = subst (λ (z : JobRecord). GoesOn (get_or old i r).phase z.phase) same grown.2.phase in
      let found = fits.covers i (get_or old i r) u was (ap (usage_at buffer) (sym job) ∙ uses) (no_outcome_before (get_or old i r).phase r.phase phase none) in
      subst (λ (j : Draft). list_any (λ e. (e.entity == j.entity) && nat_le i e.fence && is_as_strong e.usage u) resv.entries ≡ true) (sym job) found;
}

-- ---- an arming

pub usage_itself : (u : Usage) → is_as_strong u u ≡ true
usage_itself usage.Kernel = refl
usage_itself usage.Write = refl
usage_itself usage.Read = refl
usage_itself usage.Bookkeep = refl

pub usage_trans : (a b c : Usage) → is_as_strong a b ≡ true → is_as_strong b c ≡ true → is_as_strong a c ≡ true
usage_trans a b c p q = le-leb (place_of a) (place_of c) (omega (arith, leb-true (place_of a) (place_of b) p, leb-true (place_of b) (place_of c) q))

-- the new entry is there
pub any_new : (journal : List JobRecord) (p : Entry → Bool) (entries : List Entry) (e : Entry) → p e ≡ true → list_any p (entries_with (is_signaled journal) entries e) ≡ true
any_new journal p [] e is = or_left (p e) false is
any_new journal p (x ∷ xs) e is =
    elim (replaces (is_signaled journal) e x) as (λ b. list_any p (cond b (e ∷ xs) (x ∷ entries_with (is_signaled journal) xs e)) ≡ true) [
      | true ↦ or_left (p e) (list_any p xs) is
      | false ↦ or_right (p x) (list_any p (entries_with (is_signaled journal) xs e)) (any_new journal p xs e is)
    ]

-- what stood for a job still does, or what replaced it
pub any_with : (journal : List JobRecord) (p : Entry → Bool) (entries : List Entry) (e : Entry)
    → AllByRecursion (λ x. replaces (is_signaled journal) e x ≡ true → p x ≡ true → p e ≡ true) entries
    → list_any p entries ≡ true → list_any p (entries_with (is_signaled journal) entries e) ≡ true
any_with journal p [] e all any = let never : false ≡ true = any in absurd (cc (never))
any_with journal p (x ∷ xs) e all any =
    elim (replaces (is_signaled journal) e x) as (λ b. replaces (is_signaled journal) e x ≡ b → list_any p (cond b (e ∷ xs) (x ∷ entries_with (is_signaled journal) xs e)) ≡ true) [
      | true ↦ λ replaced. elim (or_cases (p x) (list_any p xs) any) [
        | inl here ↦ or_left (p e) (list_any p xs) (all.0 replaced here)
        | inr behind ↦ or_right (p e) (list_any p xs) behind
      ]
      | false ↦ λ stays. elim (or_cases (p x) (list_any p xs) any) [
        | inl here ↦ or_left (p x) (list_any p (entries_with (is_signaled journal) xs e)) here
        | inr behind ↦ or_right (p x) (list_any p (entries_with (is_signaled journal) xs e)) (any_with journal p xs e all.1 behind)
      ]
    ] refl

-- all entries after one more
pub all_with : (journal : List JobRecord) (P : Entry → Type 0) (entries : List Entry) (e : Entry) → AllByRecursion P entries → P e
    → AllByRecursion P (entries_with (is_signaled journal) entries e)
all_with journal P [] e all is = (is, tt)
all_with journal P (x ∷ xs) e all is =
    elim (replaces (is_signaled journal) e x) as (λ b. AllByRecursion P (cond b (e ∷ xs) (x ∷ entries_with (is_signaled journal) xs e))) [
      | true ↦ (is, all.1)
      | false ↦ (all.0, all_with journal P xs e all.1 is)
    ]

pub ended_none : (phase : Phase) → has_ended phase ≡ true → outcome_of phase ≡ None → ⊥
ended_none Queued e none = let never : false ≡ true = e in cc (never)
ended_none Scheduled e none = let never : false ≡ true = e in cc (never)
ended_none (Ended o) e none = cc (none)

-- an entry that may be replaced, and stood for a job without an outcome, is replaced by one that stands for it
pub replaced_stands : (buffer : ℕ) (journal : List JobRecord) (new old : Entry) (i : ℕ) (r : JobRecord) (u : Usage) → EachTwo journal KeepsEntityOrder
    → IsOfJob buffer journal old → slice_get journal i ≡ Some r → outcome_of r.phase ≡ None
    → replaces (is_signaled journal) new old ≡ true → stands_for i r u old ≡ true → stands_for i r u new ≡ true
replaced_stands buffer journal new old i r u order of_job at none replaced stands =
    let three = and_parts ((old.entity == r.job.entity) && nat_le i old.fence) (is_as_strong old.usage u) stands in
    let two = and_parts (old.entity == r.job.entity) (nat_le i old.fence) three.0 in
    let entity : old.entity ≡ r.job.entity = eqb-true old.entity r.job.entity two.0 in
    let fence : i ≤ old.fence = leb-true i old.fence two.1 in
    elim (or_cases (is_signaled journal old.fence) _ replaced) [
      | inl signaled ↦
          let z = of_job.0 in
          let z_ended : has_ended z.phase ≡ true = sym (at_test journal old.fence z (λ r. has_ended r.phase) of_job.1) ∙ signaled in
          absurd (elim (cases_order i old.fence) [
            | inl same ↦ let is_r : z ≡ r = cc (of_job.1, at, same) in ended_none r.phase (ap (λ (x : JobRecord). has_ended x.phase) (sym is_r) ∙ z_ended) none
            | inr apart ↦ elim apart [
              | inl before ↦
                  let ordered : KeepsEntityOrder i r old.fence z = order i old.fence r z before at of_job.1 in
                  ended_none r.phase (ordered.ended (sym entity ∙ sym of_job.3) z_ended) none
              | inr past ↦ omega (arith, fence, past)
            ]
          ])
      | inr weaker ↦
          let c = and_parts ((old.entity == new.entity) && is_as_strong new.usage old.usage) (nat_le old.fence new.fence) weaker in
          let b = and_parts (old.entity == new.entity) (is_as_strong new.usage old.usage) c.0 in
          and_from ((new.entity == r.job.entity) && nat_le i new.fence) (is_as_strong new.usage u)
          (and_from (new.entity == r.job.entity) (nat_le i new.fence)
          (eq-eqb new.entity r.job.entity (sym (eqb-true old.entity new.entity b.0) ∙ entity))
          (le-leb i new.fence (omega (arith, fence, leb-true old.fence new.fence c.1))))
          (usage_trans new.usage old.usage u b.1 three.1)
    ]

pub enumerate-append : (xs ys : List JobRecord) (n : ℕ) → enumerate_from n (xs ++ ys) ≡ enumerate_from n xs ++ enumerate_from (n + length xs) ys
enumerate-append [] ys n = let same : n ≡ n + 0 = omega arith in ap (λ m. enumerate_from m ys) same
enumerate-append (x ∷ xs) ys n =
    let same : (n + 1) + length xs ≡ n + suc (length xs) = omega arith in
    ap (λ rest. (n, x) ∷ rest) (enumerate-append xs ys (n + 1) ∙ ap (λ m. enumerate_from (n + 1) xs ++ enumerate_from m ys) same)

-- the arms after one record more
pub arms_push : (buffer : ℕ) (journal : List JobRecord) (new : JobRecord)
    → arms buffer (journal ++ new ∷ []) ≡ arms buffer journal ++ cons_option (option_map (λ u. (length journal, u)) (usage_at buffer new.job)) []
arms_push buffer journal new =
    let h : ℕ × JobRecord → Option (ℕ × Usage) = λ m. option_map (λ u. (m.0, u)) (usage_at buffer m.1.job) in
    let number : 0 + length journal ≡ length journal = omega arith in
    ap (filter_map h) (enumerate-append journal (new ∷ []) 0)
    ∙ (filter_map-append h (numbered journal) (enumerate_from (0 + length journal) (new ∷ []))
    ∙ ap (λ n. arms buffer journal ++ filter_map h ((n, new) ∷ [])) number)

-- what stands at the end of a list with one more
pub get_at_push : {X : Type 0} (xs : List X) (y : X) → slice_get (xs ++ y ∷ []) (length xs) ≡ Some y
get_at_push [] y = refl
get_at_push (x ∷ xs) y = get_at_push xs y

-- the reservation of a buffer that the new job does not use
pub unused_fits : (d : DeviceState) (job : Draft) (buffer : ℕ) (resv : Reservation) → usage_at buffer job ≡ None → Fits buffer d.journal resv
    → Fits buffer (d.journal ++ new_record d job ∷ []) resv
unused_fits d job buffer resv unused fits = record {
  history = fits.history
      ∙ sym (arms_push buffer d.journal (new_record d job)
      ∙ (ap (λ o. arms buffer d.journal ++ cons_option (option_map (λ u. (length d.journal, u)) o) []) unused ∙ append-nil (arms buffer d.journal)));
  of_jobs = All-weaker (IsOfJob buffer d.journal) (IsOfJob buffer (d.journal ++ new_record d job ∷ []))
      (λ e of_job. (of_job.0, get_before_push d.journal (new_record d job) e.fence of_job.0 of_job.1, of_job.2, of_job.3)) resv.entries fits.of_jobs;
  covers = λ i r u at uses none. elim (get_push_cases d.journal (new_record d job) i r at) [
    | inl was ↦ fits.covers i r u was uses none
    | inr it ↦ let u_is : usage_at buffer job ≡ Some u = ap (λ (z : JobRecord). usage_at buffer z.job) (sym it.1) ∙ uses in absurd (cc (unused, u_is))
  ];
}

-- the reservation of a buffer that the new job uses
pub used_fits : (d : DeviceState) (job : Draft) (buffer : ℕ) (resv : Reservation) (u : Usage) → usage_at buffer job ≡ Some u → EachTwo d.journal KeepsEntityOrder
    → Fits buffer d.journal resv
    → Fits buffer (d.journal ++ new_record d job ∷ []) (added_to (is_signaled d.journal) resv (record { fence = length d.journal; entity = job.entity; usage = u }))
used_fits d job buffer resv u uses order fits =
    let e : Entry = record { fence = length d.journal; entity = job.entity; usage = u } in
    let last : JobRecord = new_record d job in
    let new = d.journal ++ last ∷ [] in
    let at_last : slice_get new (length d.journal) ≡ Some last = get_at_push d.journal last in
    record {
      history = ap (λ h. h ++ (length d.journal, u) ∷ []) fits.history
          ∙ sym (arms_push buffer d.journal last ∙ ap (λ o. arms buffer d.journal ++ cons_option (option_map (λ u. (length d.journal, u)) o) []) uses);
      of_jobs = All-from_recursion (IsOfJob buffer new) (entries_with (is_signaled d.journal) resv.entries e)
          (all_with d.journal (IsOfJob buffer new) resv.entries e
          (recursion_from_All (IsOfJob buffer new) resv.entries
          (All-weaker (IsOfJob buffer d.journal) (IsOfJob buffer new)
          (λ e of_job. (of_job.0, get_before_push d.journal last e.fence of_job.0 of_job.1, of_job.2, of_job.3)) resv.entries fits.of_jobs))
          (last, at_last, uses, refl));
      covers = λ i r v at v_uses none. elim (get_push_cases d.journal last i r at) [
        | inl was ↦
            let Q : Entry → Type 0 = λ x. replaces (is_signaled d.journal) e x ≡ true → stands_for i r v x ≡ true → stands_for i r v e ≡ true in
            any_with d.journal (stands_for i r v) resv.entries e
            (recursion_from_All Q resv.entries
            (All-weaker (IsOfJob buffer d.journal) Q (λ x of_job. replaced_stands buffer d.journal e x i r v order of_job was none) resv.entries fits.of_jobs))
            (fits.covers i r v was v_uses none)
        | inr it ↦
            let is_v : u ≡ v = cc (uses, ap (λ (z : JobRecord). usage_at buffer z.job) (sym it.1) ∙ v_uses) in
            any_new d.journal (stands_for i r v) resv.entries e
            (and_from ((job.entity == r.job.entity) && nat_le i (length d.journal)) (is_as_strong u v)
            (and_from (job.entity == r.job.entity) (nat_le i (length d.journal))
            (eq-eqb job.entity r.job.entity (ap (λ (z : JobRecord). z.job.entity) (sym it.1)))
            (le-leb i (length d.journal) (omega (arith, it.0))))
            (subst (λ w. is_as_strong u w ≡ true) is_v (usage_itself u)))
      ];
    }

-- the arming leaves each reservation one that fits
pub armed_fits : (d : DeviceState) (job : Draft) (buffer : ℕ) (resv : Reservation) → EachTwo d.journal KeepsEntityOrder → Fits buffer d.journal resv
    → Fits buffer (d.journal ++ new_record d job ∷ []) (armed_reservation d.journal job buffer resv)
armed_fits d job buffer resv order fits =
    elim (usage_at buffer job) as (λ o. usage_at buffer job ≡ o
    → Fits buffer (d.journal ++ new_record d job ∷ [])
    (option_map_or (λ u. added_to (is_signaled d.journal) resv (record { fence = length d.journal; entity = job.entity; usage = u })) o resv)) [
      | None ↦ λ unused. unused_fits d job buffer resv unused fits
      | Some u ↦ λ uses. used_fits d job buffer resv u uses order fits
    ] refl
