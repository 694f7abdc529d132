-- The facts of the ward, and their laws: a device may come of itself, what comes of a device comes of each that it came
-- of, and no fence word goes back on the way.
use Rattle.std.proofs.Common.{◌≡◌, ℕ, ◌<◌, zero, suc, Bool, cond, List, Some, None, refl, sym, ap, ◌∙◌, subst, inl, inr, slice_get, suc-le-suc, zero-le}
use Rattle.std.proofs.Math.Nat.{le_refl, le_trans}
use Rattle.std.specs.Prelude.{IsTrue}
use Rattle.std.specs.Option.{option_map_or}
use Rattle.drm_types.specs.declared.outcome.Outcome.TheVariants as outcome
use Rattle.drm_fence.specs.declared.phase.Phase.{Phase}
use Rattle.drm_fence.specs.declared.phase.Phase.TheVariants.{Queued, Scheduled, Ended}
use Rattle.drm_fence.specs.Phases.{has_ended}
use Rattle.ww_lock.specs.Facts.{Facts, AreLawful}
use Rattle.ww_lock.specs.Fences.{NotBack}
use Rattle.drm_resv.specs.Reservation.{WithRoom}
use Rattle.drm_state.specs.declared.journal.JobRecord.{JobRecord}
use Rattle.drm_state.specs.Grows.{GoesOn, RecordGrows, EntityGrows, EachInPlace}
use Rattle.drm_state.specs.Keeps.{word_of}
use Rattle.drm_sched.specs.Marks.{IsBusy, MarkedDevice, Task}
use Rattle.drm_gpu.specs.Passes.{FitsDevice, IsGood, GrowsTo, word_shown}

-- the board keeps these facts of a device and its reservations
abbrev pub device_facts : Facts MarkedDevice WithRoom Task
device_facts = record { good = IsGood; fits = FitsDevice; grows = GrowsTo; posted = word_shown; busy = IsBusy }

goes_on_itself : (phase : Phase) → GoesOn phase phase
goes_on_itself Queued = tt
goes_on_itself Scheduled = tt
goes_on_itself (Ended o) = refl

record_grows_itself : (r : JobRecord) → RecordGrows r r
record_grows_itself r = record {
  job = refl;
  ring = refl;
  phase = goes_on_itself r.phase;
  ran = le_refl r.ran;
  resets = le_refl r.karma.resets;
  karma = le_refl r.karma.karma;
  skipped = λ s. s;
  kept = λ k. refl;
}

pub reflexive : (d : MarkedDevice) → GrowsTo d d
reflexive d = record {
  spec = refl;
  journal = λ i r at. (r, at, record_grows_itself r);
  entities = λ i e at. (e, at, record { stopped = λ s. s; guilty = λ g. g });
}

goes_on_trans : (a b c : Phase) → GoesOn a b → GoesOn b c → GoesOn a c
goes_on_trans Queued b c p q = tt
goes_on_trans Scheduled Queued c p q = absurd p
goes_on_trans Scheduled Scheduled c p q = q
goes_on_trans Scheduled (Ended o) c p q = subst (GoesOn Scheduled) (sym q) tt
goes_on_trans (Ended o) b c p q = let r : GoesOn (Ended o) c = subst (λ z. GoesOn z c) p q in r

record_grows_trans : (a b c : JobRecord) → RecordGrows a b → RecordGrows b c → RecordGrows a c
record_grows_trans a b c p q = record {
  job = q.job ∙ p.job;
  ring = q.ring ∙ p.ring;
  phase = goes_on_trans a.phase b.phase c.phase p.phase q.phase;
  ran = le_trans p.ran q.ran;
  resets = le_trans p.resets q.resets;
  karma = le_trans p.karma q.karma;
  skipped = λ s. q.skipped (p.skipped s);
  kept = λ k. q.kept (elim k [ inl s ↦ inl (p.skipped s) | inr e ↦ inr (ended_stays a.phase b.phase p.phase e) ]) ∙ p.kept k;
} where
  ended_stays : (x y : Phase) → GoesOn x y → IsTrue (has_ended x) → IsTrue (has_ended y)
  ended_stays Queued y g e = absurd (subst (λ (b : Bool). cond b ⊥ (Unit {0})) e tt)
  ended_stays Scheduled y g e = absurd (subst (λ (b : Bool). cond b ⊥ (Unit {0})) e tt)
  ended_stays (Ended o) y g e = ap has_ended g

each_trans : {X : Type 0} (R : X → X → Type 0) (xs ys zs : List X) → ((a b c : X) → R a b → R b c → R a c) → EachInPlace R xs ys → EachInPlace R ys zs → EachInPlace R xs zs
each_trans R xs ys zs trans p q i x is =
    let y = p i x is in
    let z = q i y.0 y.1 in
    (z.0, z.1, trans x y.0 z.0 y.2 z.2)

pub transitive : (a b c : MarkedDevice) → GrowsTo a b → GrowsTo b c → GrowsTo a c
transitive a b c p q = record {
  spec = q.spec ∙ p.spec;
  journal = each_trans RecordGrows a.state.journal b.state.journal c.state.journal record_grows_trans p.journal q.journal;
  entities = each_trans EntityGrows a.state.entities b.state.entities c.state.entities
      (λ x y z g h. record { stopped = λ s. h.stopped (g.stopped s); guilty = λ s. h.guilty (g.guilty s) }) p.entities q.entities;
}

-- 1 is below each word of an outcome
one_less : (n : ℕ) → 1 < suc (suc n)
one_less n = suc-le-suc (suc-le-suc zero-le)

phase_goes_on : (a b : Phase) → GoesOn a b → NotBack (word_of a) (word_of b)
phase_goes_on Queued Queued g = inl refl
phase_goes_on Queued Scheduled g = inl refl
phase_goes_on Queued (Ended outcome.Good) g = inr (one_less 0, one_less 0)
phase_goes_on Queued (Ended outcome.Cancelled) g = inr (one_less 0, one_less 1)
phase_goes_on Queued (Ended outcome.Stopped) g = inr (one_less 0, one_less 2)
phase_goes_on Scheduled Queued g = absurd g
phase_goes_on Scheduled Scheduled g = inl refl
phase_goes_on Scheduled (Ended outcome.Good) g = inr (one_less 0, one_less 0)
phase_goes_on Scheduled (Ended outcome.Cancelled) g = inr (one_less 0, one_less 1)
phase_goes_on Scheduled (Ended outcome.Stopped) g = inr (one_less 0, one_less 2)
phase_goes_on (Ended o) b g = inl (ap word_of g)

from_zero : (y : ℕ) → NotBack 0 y
from_zero zero = inl refl
from_zero (suc y) = inr (suc-le-suc zero-le, suc-le-suc zero-le)

pub onward : (p q : MarkedDevice) → GrowsTo p q → (f : ℕ) → NotBack (word_shown p f) (word_shown q f)
onward p q g f =
    elim (slice_get p.state.journal f) as (λ o. slice_get p.state.journal f ≡ o → NotBack (option_map_or (λ (z : JobRecord). word_of z.phase) o 0) (word_shown q f)) [
      | None ↦ λ at. from_zero (word_shown q f)
      | Some r ↦ λ at. let n = g.journal f r at in
          subst (λ o. NotBack (word_of r.phase) (option_map_or (λ (z : JobRecord). word_of z.phase) o 0)) (sym n.1) (phase_goes_on r.phase n.0.phase n.2.phase)
    ] refl

pub are_lawful : AreLawful device_facts
are_lawful = record { reflexive = reflexive; transitive = transitive; onward = onward }
