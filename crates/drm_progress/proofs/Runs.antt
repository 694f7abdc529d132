-- Runs of a core: their states are steady, and what goes on in them is bounded.
use Rattle.std.proofs.Common.{◌≡◌, ℕ, ◌+◌, ◌≤◌, Bool, true, false, cond, List, [], ◌∷◌, ◌++◌, refl, sym, ap, subst, ◌∙◌, arith}
use Rattle.drm_types.specs.Limits.{spec_fault}
use Rattle.drm_types.specs.declared.spec.DeviceSpec.{DeviceSpec}
use Rattle.drm_job.specs.declared.Draft.{Draft}
use Rattle.drm_state.specs.declared.answer.Answer.{Answer}
use Rattle.drm_state.specs.Chosen.{ChoiceIsLeast}
use Rattle.drm_state.specs.Events.{DevicesStaySteady}
use Rattle.drm_state.specs.Steady.{IsSteady}
use Rattle.drm_core.specs.declared.event.Event.{Event}
use Rattle.drm_core.specs.State.{CoreState, opened}
use Rattle.drm_core.specs.Lawful.{IsLawful}
use Rattle.drm_core.specs.Names.{names_exist}
use Rattle.drm_core.specs.Run.{Run, LawfulRun, AllNamesExist, EveryRunIsLawful}
use Rattle.drm_core.specs.Step.{Step}
use Rattle.drm_progress.specs.Going.{all_work, all_left}
use Rattle.drm_progress.specs.Cores.{lets_go_on, goings, EveryCoreGoesOn}
use Rattle.drm_progress.proofs.Work.{journal_grows, journal_falls}
use Rattle.drm_progress.proofs.Steps.{Moved, PlansAreJobs, step_moves, going_lessens, event_named, event_lets}
use Rattle.drm_progress.proofs.Stuck.{never_stuck}

-- a run of a core that was opened leads to the state
record Reached (spec : DeviceSpec) (s : CoreState) : Type 0 where
  events : List (Event Draft)
  answers : List Answer
  names : AllNamesExist spec events
  run : Run (opened spec) events answers s

-- one event more
run_push : (s u : CoreState) (events : List (Event Draft)) (answers : List Answer) (e : Event Draft) (a : Answer) (t : CoreState) → Run s events answers u → Step u e a t
    → Run s (events ++ e ∷ []) (answers ++ a ∷ []) t
run_push s u [] [] e a t run step = (t, subst (λ (n : CoreState). Step n e a t) run step, refl)
run_push s u [] (b ∷ answers) e a t run step = absurd run
run_push s u (f ∷ events) [] e a t run step = absurd run
run_push s u (f ∷ events) (b ∷ answers) e a t run step = (run.0, run.1, run_push run.0 u events answers e a t run.2 step)

names_push : (spec : DeviceSpec) (events : List (Event Draft)) (e : Event Draft) → AllNamesExist spec events → names_exist spec e ≡ true → AllNamesExist spec (events ++ e ∷ [])
names_push spec [] e names one = (one, tt)
names_push spec (f ∷ events) e names one = (names.0, names_push spec events e names.1 one)

step_reached : (spec : DeviceSpec) (s : CoreState) (e : Event Draft) (a : Answer) (t : CoreState) → Reached spec s → names_exist spec e ≡ true → Step s e a t
    → Reached spec t
step_reached spec s e a t reached one step = record {
  events = reached.events ++ e ∷ [];
  answers = reached.answers ++ a ∷ [];
  names = names_push spec reached.events e reached.names one;
  run = run_push (opened spec) s reached.events reached.answers e a t reached.run step;
}

-- the state at the end of a lawful run
lawful_end : (old : CoreState) (events : List (Event Draft)) (answers : List Answer) (new : CoreState) → LawfulRun old events answers new → IsLawful new
lawful_end old [] [] new run = subst IsLawful (sym run.1) run.0
lawful_end old [] (a ∷ answers) new run = absurd run
lawful_end old (e ∷ events) [] new run = absurd run
lawful_end old (e ∷ events) (a ∷ answers) new run = lawful_end run.1.0 events answers new run.1.3

plans_are_jobs : EveryRunIsLawful → (spec : DeviceSpec) (s : CoreState) → Reached spec s → PlansAreJobs s
plans_are_jobs every spec s reached =
    (lawful_end (opened spec) reached.events reached.answers s (every spec reached.events reached.answers s reached.names reached.run)).plans

-- one event leaves no more than it finds, and less where it lets a job go on
one_event : ChoiceIsLeast → (s : CoreState) (e : Event Draft) (a : Answer) (t : CoreState) → IsSteady s.device → Moved s.device t.device → Step s e a t
    → cond (lets_go_on s.device e) 1 0 + all_left t.device.journal + all_work s.device.journal ≤ all_left s.device.journal + all_work t.device.journal
one_event choices s e a t steady moved step = by_going (lets_go_on s.device e) refl
  where
    by_going : (b : Bool) → lets_go_on s.device e ≡ b
        → cond b 1 0 + all_left t.device.journal + all_work s.device.journal ≤ all_left s.device.journal + all_work t.device.journal
    by_going true goes =
        omega (arith, journal_falls s.device.journal t.device.journal moved.grows.journal (going_lessens choices s e a t steady goes step))
    by_going false stays = omega (arith, journal_grows s.device.journal t.device.journal moved.grows.journal)

-- where a run leads, and how many of its events let a job go on
record Leads (spec : DeviceSpec) (s t : CoreState) (count : ℕ) : Type 0 where
  steady : IsSteady t.device
  same : t.device.spec ≡ spec
  left : count + all_left t.device.journal + all_work s.device.journal ≤ all_left s.device.journal + all_work t.device.journal

run_leads : DevicesStaySteady → ChoiceIsLeast → EveryRunIsLawful → (spec : DeviceSpec) (s : CoreState) (events : List (Event Draft)) (answers : List Answer) (t : CoreState)
    → Reached spec s → IsSteady s.device → s.device.spec ≡ spec → AllNamesExist spec events → (run : Run s events answers t)
    → Leads spec s t (goings s events answers t run)
run_leads laws choices every spec s [] [] t reached steady same names run =
    subst (λ (n : CoreState). Leads spec s n 0) (sym run) (record { steady = steady; same = same; left = omega arith })
run_leads laws choices every spec s [] (a ∷ answers) t reached steady same names run = absurd run
run_leads laws choices every spec s (e ∷ events) [] t reached steady same names run = absurd run
run_leads laws choices every spec s (e ∷ events) (a ∷ answers) t reached steady same names run =
    let here : names_exist s.device.spec e ≡ true = subst (λ (p : DeviceSpec). names_exist p e ≡ true) (sym same) names.0 in
    let moved = step_moves laws s e a run.0 steady (plans_are_jobs every spec s reached) here run.1 in
    let further = run_leads laws choices every spec run.0 events answers t (step_reached spec s e a run.0 reached names.0 run.1) moved.steady
    (moved.grows.spec ∙ same) names.1 run.2 in
    let one = one_event choices s e a run.0 steady moved run.1 in
    record { steady = further.steady; same = further.same; left = omega (arith, one, further.left) }

pub every_core_goes_on : DevicesStaySteady → ChoiceIsLeast → EveryRunIsLawful → EveryCoreGoesOn
every_core_goes_on laws choices every spec events answers state limits names run =
    let leads = run_leads laws choices every spec (opened spec) events answers state
    (record { events = []; answers = []; names = tt; run = refl }) (laws.opens spec) refl names run in
    record {
      never_stuck = λ now fence r few late at waits.
          let (going, comes) = never_stuck choices state.device now leads.steady (ap spec_fault leads.same ∙ limits) few late fence r at waits in
          (going, event_named state.device now going comes, event_lets state.device now going comes);
      bounded = omega (arith, leads.left);
    }
