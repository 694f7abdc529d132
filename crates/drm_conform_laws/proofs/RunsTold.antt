-- What a run of a core tells of jobs, entry by entry.
use Rattle.std.proofs.Common.{◌≡◌, ℕ, ◌+◌, ◌<◌, ◌≤◌, true, List, [], ◌∷◌, ◌++◌, append_assoc, length, take, Some, refl, sym, ap, subst, ◌∙◌, inl, inr, ◌⊎◌, arith, slice_get}
use Rattle.std.specs.Prelude.{Contains, flat_map, zip}
use Rattle.std.proofs.lemmas.Bool.{cases_lt}
use Rattle.std.proofs.lemmas.List.Elements.{Contains-append_left, Contains-append_right}
use Rattle.std.proofs.lemmas.Option.{slice_get_within}
use Rattle.drm_lists.proofs.Places.{stands_within}
use Rattle.drm_types.specs.declared.spec.DeviceSpec.{DeviceSpec}
use Rattle.drm_job.specs.declared.Draft.{Draft}
use Rattle.drm_fence.specs.Phases.{has_ended}
use Rattle.drm_trace.specs.declared.event.Place.{Place}
use Rattle.drm_trace.specs.declared.event.What.{What}
use Rattle.drm_trace.specs.declared.event.What.TheVariants as does
use Rattle.drm_state.specs.declared.answer.Answer.{Answer}
use Rattle.drm_state.specs.declared.journal.JobRecord.{JobRecord}
use Rattle.drm_state.specs.State.{DeviceState}
use Rattle.drm_state.specs.Grows.{Grows}
use Rattle.drm_state.specs.Order.{comes_after}
use Rattle.drm_state.proofs.Growth.{grows_itself, grows_trans}
use Rattle.drm_core.specs.declared.event.Event.{Event}
use Rattle.drm_core.specs.Laws.{DeviceLaws}
use Rattle.drm_core.specs.Names.{names_exist}
use Rattle.drm_core.specs.Run.{AllNamesExist, Run}
use Rattle.drm_core.specs.State.{CoreState}
use Rattle.drm_core.specs.Steady.{IsSteadyCore}
use Rattle.drm_core.proofs.CoreSteps.{step_is_kept}
use Rattle.drm_conform_laws.specs.RunLogs.{lines_of}
use Rattle.drm_conform_laws.proofs.LineLists.{either_at, take_right}
use Rattle.drm_conform_laws.proofs.StepsTold.{After, EndsTold, Grown, IsMetIn, Left, May, StepTells, Told, begun_is, begun_on, ended_begun, not_ended_yet, step_tells}

-- ---- what comes later

longer : (old new : List JobRecord) → Grown old new → length old ≤ length new
longer old new grown = elim (cases_lt (length new) (length old)) [
  | inr le ↦ le
  | inl less ↦
      let last = stands_within old (length new) less in
      let there = grown (length new) last.0 last.1 in
      let within = slice_get_within new (length new) there.0 there.1 in absurd (omega (arith, within))
]

-- what may come in a run from a device may come in a run from one that grows to it
may_before : (old new : DeviceState) (f : ℕ) (w : What) → Grown old.journal new.journal → May new f w → May old f w
may_before old new f (does.Queued p) grown may = omega (arith, longer old.journal new.journal grown, may)
may_before old new f (does.Ran p) grown may = (
  λ k r at begun same.
      let there = grown k r at in may.0 k there.0 there.1 (begun_on r.phase there.0.phase there.2.phase begun) same,
  λ k r at entity begun.
      let there = grown k r at in
      may.1 k there.0 there.1 (ap (λ (j : Draft). j.entity) there.2.job ∙ entity) (begun_on r.phase there.0.phase there.2.phase begun),
)
may_before old new f (does.Waits on) grown may = tt
may_before old new f does.Ended grown may = λ r at. let there = grown f r at in not_ended_yet r.phase there.0.phase there.2.phase (may there.0 there.1)

-- an entry that leaves a device stands before one that may come from there
left_may : (d : DeviceState) (f : ℕ) (w : What) (g : ℕ) (v : What) → Left d f w → May d g v → After f w g v
left_may d f (does.Queued p) g (does.Queued q) left may = omega (arith, left, may)
left_may d f (does.Queued p) g (does.Ran q) left may = tt
left_may d f (does.Queued p) g (does.Waits on) left may = tt
left_may d f (does.Queued p) g does.Ended left may = tt
left_may d f (does.Ran p) g (does.Queued q) left may = let within = slice_get_within d.journal f left.0 left.1 in omega (arith, within, may)
left_may d f (does.Ran p) g (does.Ran q) left may = (may.0 f left.0 left.1 left.3, λ same. may.1 f left.0 left.1 (left.2 ∙ same) left.3)
left_may d f (does.Ran p) g (does.Waits on) left may = tt
left_may d f (does.Ran p) g does.Ended left may = tt
left_may d f (does.Waits on) g (does.Queued q) left may = tt
left_may d f (does.Waits on) g (does.Ran q) left may = tt
left_may d f (does.Waits on) g (does.Waits other) left may = tt
left_may d f (does.Waits on) g does.Ended left may = tt
left_may d f does.Ended g (does.Queued q) left may = tt
left_may d f does.Ended g (does.Ran q) left may = may.0 f left.0 left.1 (ended_begun left.0.phase left.2)
left_may d f does.Ended g (does.Waits on) left may = tt
left_may d f does.Ended g does.Ended left may = λ same.
    begun_is (has_ended left.0.phase) left.2 (may left.0 (sym (ap (slice_get d.journal) same) ∙ left.1))

-- ---- what came before

-- each job that has ended is told to have
abbrev pub HasTold : DeviceState → List (ℕ × What) → Type 0
HasTold d seen = (f : ℕ) (r : JobRecord) → slice_get d.journal f ≡ Some r → has_ended r.phase ≡ true → Contains seen (f, does.Ended)

told_on : (old new : DeviceState) (seen ts : List (ℕ × What)) → HasTold old seen → EndsTold old new ts → HasTold new (seen ++ ts)
told_on old new seen ts told ends f q at ended = elim (ends f q at ended) [
  | inl before ↦ Contains-append_left seen ts (f, does.Ended) (told f before.0 before.1 before.2)
  | inr now ↦ Contains-append_right seen ts (f, does.Ended) now
]

-- ---- runs

-- of a job that runs and one that it comes after: that has ended in an entry before, or it runs on the same ring, and
-- not later
abbrev pub IsMetAt : List (ℕ × What) → List (ℕ × What) → ℕ → Place → ℕ → JobRecord → Type 0
IsMetAt seen ts i p on x =
    Contains (seen ++ take i ts) (on, does.Ended) ⊎ ((x.ring ≡ p.ring) × ((j : ℕ) (q : Place) → i < j → slice_get ts j ≡ Some (on, does.Ran q) → ⊥))

-- what a run tells from a device on, by the journal that it leaves, behind what was told before
pub record RunTells (journal : List JobRecord) (d : DeviceState) (seen ts : List (ℕ × What)) : Type 0 where
  pub may : (i : ℕ) (t : ℕ × What) → slice_get ts i ≡ Some t → May d t.0 t.1
  pub told : (i : ℕ) (t : ℕ × What) → slice_get ts i ≡ Some t → Told journal t.0 t.1
  pub pairs : (i j : ℕ) (t u : ℕ × What) → i < j → slice_get ts i ≡ Some t → slice_get ts j ≡ Some u → After t.0 t.1 u.0 u.1
  pub met : (i f : ℕ) (p : Place) → slice_get ts i ≡ Some (f, does.Ran p) → (on : ℕ) (r x : JobRecord) → on < f → slice_get journal f ≡ Some r
      → slice_get journal on ≡ Some x → comes_after r.job on x.job ≡ true → IsMetAt seen ts i p on x

nothing_told : (journal : List JobRecord) (d : DeviceState) (seen : List (ℕ × What)) → RunTells journal d seen []
nothing_told journal d seen = record {
  may = λ i t at. absurd (cc (at));
  told = λ i t at. absurd (cc (at));
  pairs = λ i j t u lt at also. absurd (cc (at));
  met = λ i f p at. absurd (cc (at));
}

-- a step, and the run behind it
joined : (journal : List JobRecord) (d n : DeviceState) (seen ls us : List (ℕ × What)) → Grown d.journal n.journal → HasTold d seen → StepTells journal d n ls
    → RunTells journal n (seen ++ ls) us → RunTells journal d seen (ls ++ us)
joined journal d n seen ls us grown history step rest = record { may = may; told = told; pairs = pairs; met = met }
  where
    may : (i : ℕ) (t : ℕ × What) → slice_get (ls ++ us) i ≡ Some t → May d t.0 t.1
    may i t at = elim (either_at ls us i t at) [
      | inl here ↦ step.may i t here
      | inr there ↦ may_before d n t.0 t.1 grown (rest.may there.0 t there.2)
    ]

    told : (i : ℕ) (t : ℕ × What) → slice_get (ls ++ us) i ≡ Some t → Told journal t.0 t.1
    told i t at = elim (either_at ls us i t at) [ inl here ↦ step.told i t here | inr there ↦ rest.told there.0 t there.2 ]

    pairs : (i j : ℕ) (t u : ℕ × What) → i < j → slice_get (ls ++ us) i ≡ Some t → slice_get (ls ++ us) j ≡ Some u → After t.0 t.1 u.0 u.1
    pairs i j t u lt at also = elim (either_at ls us i t at) [
      | inl first ↦ elim (either_at ls us j u also) [
        | inl second ↦ step.pairs i j t u lt first second
        | inr second ↦ left_may n t.0 t.1 u.0 u.1 (step.left i t first) (rest.may second.0 u second.2)
      ]
      | inr first ↦ elim (either_at ls us j u also) [
        | inl second ↦ let within = slice_get_within ls j u second in absurd (omega (arith, lt, first.1, within))
        | inr second ↦ rest.pairs first.0 second.0 t u (omega (arith, lt, first.1, second.1)) first.2 second.2
      ]
    ]

    met_here : (i f : ℕ) (p : Place) → slice_get ls i ≡ Some (f, does.Ran p) → (on : ℕ) (x : JobRecord) → IsMetIn d p.ring on x → IsMetAt seen (ls ++ us) i p on x
    met_here i f p at on x is = elim (is) [
      | inl ended ↦ inl (Contains-append_left seen (take i (ls ++ us)) (on, does.Ended) (history on ended.0 ended.1 ended.2))
      | inr begun ↦ inr (
        begun.0,
        λ j q lt at_j. elim (either_at ls us j (on, does.Ran q) at_j) [
          | inl here ↦ let first = step.runs j on q here in omega (arith, lt, first)
          | inr there ↦
              let may_run = rest.may there.0 (on, does.Ran q) there.2 in
              let grew = grown on begun.1.0 begun.1.1 in
              may_run.0 on grew.0 grew.1 (begun_on begun.1.0.phase grew.0.phase grew.2.phase begun.1.2) refl
        ],
      )
    ]

    met_there : (k f : ℕ) (p : Place) (on : ℕ) (x : JobRecord) → IsMetAt (seen ++ ls) us k p on x → IsMetAt seen (ls ++ us) (length ls + k) p on x
    met_there k f p on x is = elim (is) [
      | inl ended ↦
          inl (subst (λ (xs : List (ℕ × What)). Contains xs (on, does.Ended)) (append_assoc seen ls (take k us) ∙ ap (λ (xs : List (ℕ × What)). seen ++ xs) (sym (take_right ls us k))) ended)
      | inr begun ↦ inr (
        begun.0,
        λ j q lt at_j. elim (either_at ls us j (on, does.Ran q) at_j) [
          | inl here ↦ let within = slice_get_within ls j (on, does.Ran q) here in absurd (omega (arith, lt, within))
          | inr there ↦ begun.1 there.0 q (omega (arith, lt, there.1)) there.2
        ],
      )
    ]

    met : (i f : ℕ) (p : Place) → slice_get (ls ++ us) i ≡ Some (f, does.Ran p) → (on : ℕ) (r x : JobRecord) → on < f → slice_get journal f ≡ Some r
        → slice_get journal on ≡ Some x → comes_after r.job on x.job ≡ true → IsMetAt seen (ls ++ us) i p on x
    met i f p at on r x lt at_f at_on comes = elim (either_at ls us i (f, does.Ran p) at) [
      | inl here ↦ met_here i f p here on x (step.met i (f, does.Ran p) here on r x lt at_f at_on comes)
      | inr there ↦
          subst (λ (m : ℕ). IsMetAt seen (ls ++ us) m p on x) (sym there.1)
          (met_there there.0 f p on x (rest.met there.0 f p there.2 on r x lt at_f at_on comes))
    ]

-- the device that a run leaves grew from that before it
run_grows : (laws : DeviceLaws) → (s : CoreState) (spec : DeviceSpec) (events : List (Event Draft)) (answers : List Answer) (new : CoreState) → IsSteadyCore s → s.device.spec ≡ spec
    → AllNamesExist spec events → Run s events answers new → Grows s.device new.device
run_grows laws s spec [] [] new steady same names run = subst (λ (n : CoreState). Grows s.device n.device) (sym run) (grows_itself s.device)
run_grows laws s spec [] (a ∷ rest) new steady same names run = absurd run
run_grows laws s spec (e ∷ es) [] new steady same names run = absurd run
run_grows laws s spec (e ∷ es) (a ∷ rest) new steady same names run =
    let here : names_exist s.device.spec e ≡ true = subst (λ p. names_exist p e ≡ true) (sym same) names.0 in
    let kept = step_is_kept laws s e a run.0 steady here run.1 in
    grows_trans s.device run.0.device new.device kept.grows (run_grows laws run.0 spec es rest new kept.steady (kept.grows.spec ∙ same) names.1 run.2)

-- the entries of a run
abbrev pub entries_of : List JobRecord → List (Event Draft) → List Answer → List (ℕ × What)
entries_of journal events answers = flat_map (λ step. lines_of journal step.0 step.1) (zip events answers)

pub run_tells : (laws : DeviceLaws) → (s : CoreState) (spec : DeviceSpec) (events : List (Event Draft)) (answers : List Answer) (new : CoreState) (seen : List (ℕ × What)) → IsSteadyCore s
    → s.device.spec ≡ spec → AllNamesExist spec events → Run s events answers new → HasTold s.device seen
    → RunTells new.device.journal s.device seen (entries_of new.device.journal events answers)
run_tells laws s spec [] [] new seen steady same names run history = nothing_told new.device.journal s.device seen
run_tells laws s spec [] (a ∷ rest) new seen steady same names run history = absurd run
run_tells laws s spec (e ∷ es) [] new seen steady same names run history = absurd run
run_tells laws s spec (e ∷ es) (a ∷ rest) new seen steady same names run history =
    let here : names_exist s.device.spec e ≡ true = subst (λ p. names_exist p e ≡ true) (sym same) names.0 in
    let kept = step_is_kept laws s e a run.0 steady here run.1 in
    let mid_same = kept.grows.spec ∙ same in
    let from = (run_grows laws s spec (e ∷ es) (a ∷ rest) new steady same names run).journal in
    let to = (run_grows laws run.0 spec es rest new kept.steady mid_same names.1 run.2).journal in
    let step = step_tells new.device.journal s e a run.0 steady here run.1 from to in
    joined new.device.journal s.device run.0.device seen (lines_of new.device.journal e a) (entries_of new.device.journal es rest) kept.grows.journal history step
    (run_tells laws run.0 spec es rest new (seen ++ lines_of new.device.journal e a) kept.steady mid_same names.1 run.2
    (told_on s.device run.0.device seen (lines_of new.device.journal e a) history step.ends))
