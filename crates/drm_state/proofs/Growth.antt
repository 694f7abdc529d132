-- Each change of a device lets it grow.
use Rattle.std.proofs.Common.{◌≡◌, ℕ, ◌+◌, ◌≤◌, true, false, ◌&&◌, ◌==◌, List, set, cond, Some, None, refl, sym, ap, subst, ◌∙◌, inl, inr, arith, slice_get}
use Rattle.std.specs.Option.{option_map_or}
use Rattle.std.specs.Prelude.{IsTrue}
use Rattle.std.proofs.lemmas.Bool.{both_ways, or_parts, or_right, cases_eq}
use Rattle.drm_lists.proofs.Places.{to_map, get_before_push}
use Rattle.drm_lists.proofs.Changed.{get_set_same, get_set_other}
use Rattle.drm_packet.specs.declared.Packet.{Packet}
use Rattle.drm_types.specs.declared.outcome.Outcome.{Outcome}
use Rattle.drm_job.specs.declared.Draft.{Draft}
use Rattle.drm_fence.specs.declared.phase.Phase.{Phase}
use Rattle.drm_fence.specs.declared.phase.Phase.TheVariants.{Queued, Scheduled, Ended}
use Rattle.drm_state.specs.declared.journal.JobRecord.{JobRecord}
use Rattle.drm_state.specs.State.{EntityState, DeviceState}
use Rattle.drm_state.specs.Journal.{is_complete, changed_at}
use Rattle.drm_fence.specs.Phases.{is_queued, is_scheduled, has_ended}
use Rattle.drm_state.specs.Arming.{new_record, armed_device}
use Rattle.drm_state.specs.Ring.{is_guilty, entity_changed}
use Rattle.drm_state.specs.Outcomes.{picked_device, ran_device, hung, hung_device, condemned, condemned_device, cancelled_device}
use Rattle.drm_types.specs.declared.spec.EntitySpec.{EntitySpec}
use Rattle.drm_types.specs.Priorities.{rank_of}
use Rattle.drm_reset.specs.Blame.{one_more, blamed}
use Rattle.drm_state.specs.Grows.{GoesOn, RecordGrows, EntityGrows, EachInPlace, Grows}
use Rattle.drm_state.proofs.Records.{changed_is}
use Rattle.drm_state.proofs.RanLawful.{one_more_ran}
use Rattle.drm_state.proofs.FinishLawful.{ended}
use Rattle.drm_state.proofs.PickLawful.{given}

pub goes_on_itself : (phase : Phase) → GoesOn phase phase
goes_on_itself Queued = tt
goes_on_itself Scheduled = tt
goes_on_itself (Ended o) = refl

pub record_grows_itself : (r : JobRecord) → RecordGrows r r
record_grows_itself r = record {
  job = refl;
  ring = refl;
  phase = goes_on_itself r.phase;
  ran = omega arith;
  resets = omega arith;
  karma = omega arith;
  skipped = λ s. s;
  kept = λ k. refl;
}

pub entity_grows_itself : (e : EntityState) → EntityGrows e e
entity_grows_itself e = record { stopped = λ s. s; guilty = λ g. g }

-- a list of which one element changes
pub each_set : {X : Type 0} (R : X → X → Type 0) (xs : List X) (f : ℕ) (x y : X) → slice_get xs f ≡ Some x → R x y → ((z : X) → R z z) → EachInPlace R xs (set xs f y)
each_set {X} R xs f x y at rel same i old is =
    elim (cases_eq i f) [
      | inl i_is ↦
          let is_x : old ≡ x = cc (is, at, i_is) in
          (y, subst (λ n. slice_get (set xs f y) n ≡ Some y) (sym i_is) (get_set_same xs f x y at), subst (λ z. R z y) (sym is_x) rel)
      | inr apart ↦ (old, get_set_other xs f i y apart ∙ is, same old)
    ]

pub each_itself : {X : Type 0} (R : X → X → Type 0) (xs : List X) → ((z : X) → R z z) → EachInPlace R xs xs
each_itself R xs same i old is = (old, is, same old)

pub grows_itself : (d : DeviceState) → Grows d d
grows_itself d = record {
  spec = refl;
  journal = each_itself RecordGrows d.journal record_grows_itself;
  entities = each_itself EntityGrows d.entities entity_grows_itself;
}

-- a device of which one record changes
pub grows_at : (d new : DeviceState) (f : ℕ) (r : JobRecord) (change : JobRecord → JobRecord) → slice_get d.journal f ≡ Some r
    → RecordGrows r (change r) → new.spec ≡ d.spec → new.journal ≡ changed_at d.journal f change → new.entities ≡ d.entities → Grows d new
grows_at d new f r change at grows spec journal entities = record {
  spec = spec;
  journal = subst (EachInPlace RecordGrows d.journal) (sym (journal ∙ changed_is d.journal f r change at))
      (each_set RecordGrows d.journal f r (change r) at grows record_grows_itself);
  entities = subst (EachInPlace EntityGrows d.entities) (sym entities) (each_itself EntityGrows d.entities entity_grows_itself);
}

-- a scheduled or queued record has no outcome
pub no_outcome : (phase : Phase) {A : Type 0} → has_ended phase ≡ false → IsTrue (has_ended phase) → A
no_outcome phase {A} none some = absurd (both_ways (has_ended phase) none some)

pub ran_grows : (d : DeviceState) (f : ℕ) (r : JobRecord) (p : Packet) → slice_get d.journal f ≡ Some r → r.phase ≡ Scheduled → is_complete r ≡ false
    → Grows d (ran_device d f p)
ran_grows d f r p at phase going = grows_at d (ran_device d f p) f r one_more_ran at (record {
  job = refl;
  ring = refl;
  phase = goes_on_itself r.phase;
  ran = omega arith;
  resets = omega arith;
  karma = omega arith;
  skipped = λ s. s;
  kept = λ k. elim k [
    | inl skipped ↦ absurd (both_ways r.is_skipped (or_parts r.is_skipped _ going).0 skipped)
    | inr ended ↦ absurd (both_ways (has_ended r.phase) (ap has_ended phase) ended)
  ];
}) refl refl refl

pub goes_scheduled : (phase : Phase) → is_queued phase ≡ true → GoesOn phase Scheduled
goes_scheduled Queued q = tt
goes_scheduled Scheduled q = tt
goes_scheduled (Ended o) q = let never : false ≡ true = q in absurd (cc (never))

pub pick_grows : (d : DeviceState) (ring now f : ℕ) (r : JobRecord) → slice_get d.journal f ≡ Some r → is_queued r.phase ≡ true
    → Grows d (picked_device d ring now f)
pick_grows d ring now f r at queued = grows_at d (picked_device d ring now f) f r (given d) at (record {
  job = refl;
  ring = refl;
  phase = goes_scheduled r.phase queued;
  ran = omega arith;
  resets = omega arith;
  karma = omega arith;
  skipped = λ s. or_right (is_guilty d r.job.entity) r.is_skipped s;
  kept = λ k. refl;
}) refl refl refl

pub goes_ended : (phase : Phase) (o : Outcome) → has_ended phase ≡ false → GoesOn phase (Ended o)
goes_ended Queued o none = tt
goes_ended Scheduled o none = tt
goes_ended (Ended p) o none = let never : true ≡ false = none in absurd (cc (never))

pub end_grows : (d new : DeviceState) (f : ℕ) (r : JobRecord) (o : Outcome) → slice_get d.journal f ≡ Some r → has_ended r.phase ≡ false
    → new.spec ≡ d.spec → new.journal ≡ changed_at d.journal f (ended o) → new.entities ≡ d.entities → Grows d new
end_grows d new f r o at none spec journal entities = grows_at d new f r (ended o) at (record {
  job = refl;
  ring = refl;
  phase = goes_ended r.phase o none;
  ran = omega arith;
  resets = omega arith;
  karma = omega arith;
  skipped = λ s. s;
  kept = λ k. refl;
}) spec journal entities

pub one_more_grows : (n : ℕ) → n ≤ one_more n
one_more_grows n = elim (n == 65535) as (λ b. n ≤ cond b n (n + 1)) [ true ↦ omega arith | false ↦ omega arith ]

pub hang_grows : (d : DeviceState) (ring now f : ℕ) (r : JobRecord) → slice_get d.journal f ≡ Some r
    → Grows d (hung_device d ring now f)
hang_grows d ring now f r at = grows_at d (hung_device d ring now f) f r (hung d) at (record {
  job = refl;
  ring = refl;
  phase = goes_on_itself r.phase;
  ran = omega arith;
  resets = elim (slice_get d.spec.entities r.job.entity) as (λ o. r.karma.resets ≤ (option_map_or (λ (e : EntitySpec). blamed e.priority r.karma) o r.karma).resets) [
    | None ↦ omega arith
    | Some e ↦ one_more_grows r.karma.resets
  ];
  karma = elim (slice_get d.spec.entities r.job.entity) as (λ o. r.karma.karma ≤ (option_map_or (λ (e : EntitySpec). blamed e.priority r.karma) o r.karma).karma) [
    | None ↦ omega arith
    | Some e ↦ elim (rank_of e.priority == 0) as (λ b. r.karma.karma ≤ cond b r.karma.karma (one_more r.karma.karma)) [
      | true ↦ omega arith
      | false ↦ one_more_grows r.karma.karma
    ]
  ];
  skipped = λ s. s;
  kept = λ k. refl;
}) refl refl refl

pub entities_grow : (entities : List EntityState) (e : ℕ) (change : EntityState → EntityState) → ((s : EntityState) → EntityGrows s (change s))
    → EachInPlace EntityGrows entities (entity_changed entities e change)
entities_grow entities e change grows =
    elim (slice_get entities e) as (λ o. slice_get entities e ≡ o → EachInPlace EntityGrows entities (option_map_or (λ s. set entities e (change s)) o entities)) [
      | None ↦ λ none. each_itself EntityGrows entities entity_grows_itself
      | Some s ↦ λ is. each_set EntityGrows entities e s (change s) is (grows s) entity_grows_itself
    ] refl

pub cancel_grows : (d : DeviceState) (e : ℕ) → Grows d (cancelled_device d e)
cancel_grows d e = record {
  spec = refl;
  journal = each_itself RecordGrows d.journal record_grows_itself;
  entities = entities_grow d.entities e (λ s. record s { is_stopped = true }) (λ s. record { stopped = λ x. refl; guilty = λ g. g });
}

pub condemn_grows : (d : DeviceState) (ring e : ℕ) → Grows d (condemned_device d ring e)
condemn_grows d ring e = record {
  spec = refl;
  journal = λ i r is. (
    condemned ring e r,
    to_map (condemned ring e) d.journal i r is,
    record {
      job = refl;
      ring = refl;
      phase = goes_on_itself r.phase;
      ran = omega arith;
      resets = omega arith;
      karma = omega arith;
      skipped = λ s. or_right (is_scheduled r.phase && (r.ring == ring) && (r.job.entity == e)) r.is_skipped s;
      kept = λ k. refl;
    },
  );
  entities = entities_grow d.entities e (λ s. record s { is_guilty = true }) (λ s. record { stopped = λ x. x; guilty = λ g. refl });
}

pub arm_grows : (d : DeviceState) (job : Draft) → Grows d (armed_device d job)
arm_grows d job = record {
  spec = refl;
  journal = λ i r is. (r, get_before_push d.journal (new_record d job) i r is, record_grows_itself r);
  entities = each_itself EntityGrows d.entities entity_grows_itself;
}

-- growing goes on
pub goes_on_trans : (a b c : Phase) → GoesOn a b → GoesOn b c → GoesOn a c
goes_on_trans Queued b c p q = tt
goes_on_trans Scheduled Queued c p q = absurd p
goes_on_trans Scheduled Scheduled c p q = q
goes_on_trans Scheduled (Ended o) c p q = subst (GoesOn Scheduled) (sym q) tt
goes_on_trans (Ended o) b c p q = let r : GoesOn (Ended o) c = subst (λ z. GoesOn z c) p q in r

pub record_grows_trans : (a b c : JobRecord) → RecordGrows a b → RecordGrows b c → RecordGrows a c
record_grows_trans a b c p q = record {
  job = q.job ∙ p.job;
  ring = q.ring ∙ p.ring;
  phase = goes_on_trans a.phase b.phase c.phase p.phase q.phase;
  ran = omega (arith, p.ran, q.ran);
  resets = omega (arith, p.resets, q.resets);
  karma = omega (arith, p.karma, q.karma);
  skipped = λ s. q.skipped (p.skipped s);
  kept = λ k. q.kept (elim k [ inl s ↦ inl (p.skipped s) | inr e ↦ inr (ended_stays a.phase b.phase p.phase e) ]) ∙ p.kept k;
} where
  ended_stays : (x y : Phase) → GoesOn x y → IsTrue (has_ended x) → IsTrue (has_ended y)
  ended_stays Queued y g e = let never : false ≡ true = e in absurd (cc (never))
  ended_stays Scheduled y g e = let never : false ≡ true = e in absurd (cc (never))
  ended_stays (Ended o) y g e = ap has_ended g

pub each_trans : {X : Type 0} (R : X → X → Type 0) (xs ys zs : List X) → ((a b c : X) → R a b → R b c → R a c) → EachInPlace R xs ys → EachInPlace R ys zs → EachInPlace R xs zs
each_trans R xs ys zs trans p q i x is =
    let y = p i x is in
    let z = q i y.0 y.1 in
    (z.0, z.1, trans x y.0 z.0 y.2 z.2)

pub grows_trans : (a b c : DeviceState) → Grows a b → Grows b c → Grows a c
grows_trans a b c p q = record {
  spec = q.spec ∙ p.spec;
  journal = each_trans RecordGrows a.journal b.journal c.journal record_grows_trans p.journal q.journal;
  entities = each_trans EntityGrows a.entities b.entities c.entities
      (λ x y z g h. record { stopped = λ s. h.stopped (g.stopped s); guilty = λ s. h.guilty (g.guilty s) }) p.entities q.entities;
}
