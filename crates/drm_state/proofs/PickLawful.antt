-- A pick leads from a steady device to a steady one.
use Rattle.std.proofs.Common.{◌≡◌, ◌≢◌, ℕ, ◌<◌, ◌≤◌, true, false, not, ◌||◌, ◌&&◌, ◌==◌, List, [], ◌∷◌, ◌++◌, set, length, Some, refl, sym, ap, subst, ◌∙◌, inl, inr, arith, slice_get}
use Rattle.std.specs.Option.{option_map_or}
use Rattle.std.specs.Prelude.{Contains, sum_by, min, if◌then◌else◌}
use Rattle.std.proofs.lemmas.Bool.{both_ways, or_from, cases_Bool, cases_eq}
use Rattle.std.proofs.lemmas.List.Sums.{sum_by_push}
use Rattle.std.proofs.lemmas.List.Elements.{Contains-push, Contains-push_cases, Contains-append_left}
use Rattle.std.proofs.lemmas.Option.{slice_get_within}
use Rattle.drm_lists.proofs.Places.{contains_at, to_map, get_push_cases}
use Rattle.drm_lists.proofs.Changed.{get_set_same, get_set_other, get_set_cases, set_same}
use Rattle.drm_serial.specs.Serial.{serial}
use Rattle.drm_fence.specs.declared.phase.Phase.{Phase}
use Rattle.drm_fence.specs.declared.phase.Phase.TheVariants.{Queued, Scheduled, Ended}
use Rattle.drm_state.specs.declared.journal.JobRecord.{JobRecord}
use Rattle.drm_state.specs.State.{RingState, DeviceState}
use Rattle.drm_state.specs.Journal.{turns, changed_at}
use Rattle.drm_fence.specs.Phases.{is_queued, has_ended}
use Rattle.drm_state.specs.Order.{is_met}
use Rattle.drm_state.specs.Ring.{pending_of, credits_of, credit_limit_of, used_credits, free_credits, is_guilty}
use Rattle.drm_state.specs.Outcomes.{picked_device}
use Rattle.drm_state.specs.Lawful.{EachTwo, IsSound, IsPendingList, IsOnce, ComesInOrder, KeepsEntityOrder, IsLawfulRing, IsLawfulDevice}
use Rattle.drm_state.specs.Steady.{MustFollow, BeginsMet, StandsInOrder, IsSteady, StaysHome, IsRingOf}
use Rattle.drm_state.proofs.Records.{turn_of, changed_is, turns_changed}
use Rattle.drm_state.proofs.Pairs.{each_two_set, sum_by_agree}
use Rattle.drm_state.proofs.Pending.{credits_kept}
use Rattle.drm_state.proofs.RingChange.{ring_there, ring_changed_count, pending_here, pending_there, ring_lawful_by}
use Rattle.drm_state.proofs.ChoiceIs.{IsChosen}

-- the record of a job that was given to its ring
abbrev pub given : DeviceState → JobRecord → JobRecord
given d r = record r { phase = Scheduled; is_skipped = is_guilty d r.job.entity || r.is_skipped }

abbrev pub with_tail : ℕ → ℕ → RingState → RingState
with_tail now f s = record {
  pending = s.pending ++ f ∷ [];
  since = if length s.pending == 0 then now else s.since;
}

-- a queued record is neither scheduled nor ended
pub not_scheduled : (phase : Phase) → is_queued phase ≡ true → phase ≡ Scheduled → ⊥
not_scheduled phase queued is = both_ways (is_queued phase) (ap is_queued is) queued

pub not_ended : (phase : Phase) → is_queued phase ≡ true → has_ended phase ≡ false
not_ended Queued queued = refl
not_ended Scheduled queued = refl
not_ended (Ended outcome) queued = let never : false ≡ true = queued in absurd (cc (never))

-- a queued record is met for no job
pub not_met : (ring : ℕ) (r : JobRecord) → is_queued r.phase ≡ true → is_met ring r ≡ false
not_met ring r queued =
    or_from (has_ended r.phase) (not (is_queued r.phase) && (r.ring == ring)) (not_ended r.phase queued)
    (ap (λ q. not q && (r.ring == ring)) queued)

pub once_push : (xs : List ℕ) (f : ℕ) → IsOnce xs → (Contains xs f → ⊥) → IsOnce (xs ++ f ∷ [])
once_push xs f once absent i j g at_i at_j =
    elim (get_push_cases xs f i g at_i) [
      | inl old_i ↦ elim (get_push_cases xs f j g at_j) [
        | inl old_j ↦ once i j g old_i old_j
        | inr new_j ↦ absurd (absent (contains_at xs i f (old_i ∙ ap Some new_j.1)))
      ]
      | inr new_i ↦ elim (get_push_cases xs f j g at_j) [
        | inl old_j ↦ absurd (absent (contains_at xs j f (old_j ∙ ap Some new_i.1)))
        | inr new_j ↦ new_i.0 ∙ sym new_j.0
      ]
    ]

-- what a ring has pending after it was given a job
pub tail_pending : (d : DeviceState) (f : ℕ) (r : JobRecord) (k : ℕ) (numbers : List ℕ) → slice_get d.journal f ≡ Some r → is_queued r.phase ≡ true
    → r.ring ≡ k → IsPendingList d.journal k numbers → IsPendingList (set d.journal f (given d r)) k (numbers ++ f ∷ [])
tail_pending d f r k numbers at queued on_ring old g = (
  λ c.
      elim (Contains-push_cases numbers f g c) [
        | inl was ↦
            let x = (old g).0 was in
            let g_not : g ≢ f = λ g_is. not_scheduled r.phase queued (let is_r : x.0 ≡ r = cc (x.1, at, g_is) in ap (λ (z : JobRecord). z.phase) (sym is_r) ∙ x.2) in
            (x.0, get_set_other d.journal f g (given d r) g_not ∙ x.1, x.2, x.3)
        | inr f_is ↦ (given d r, subst (λ n. slice_get (set d.journal f (given d r)) n ≡ Some (given d r)) f_is (get_set_same d.journal f r (given d r) at), refl, on_ring)
      ],
  λ x.
      elim (get_set_cases d.journal f g r (given d r) x.0 at x.1) [
        | inl it ↦ subst (λ n. Contains (numbers ++ f ∷ []) n) (sym it.0) (Contains-push numbers f)
        | inr other ↦ Contains-append_left numbers (f ∷ []) g ((old g).1 (x.0, other.1, x.2, x.3))
      ],
)

-- what the other rings have pending then
pub others_then : (d : DeviceState) (f : ℕ) (r : JobRecord) (k : ℕ) (numbers : List ℕ) → slice_get d.journal f ≡ Some r → is_queued r.phase ≡ true
    → r.ring ≢ k → IsPendingList d.journal k numbers → IsPendingList (set d.journal f (given d r)) k numbers
others_then d f r k numbers at queued apart old g = (
  λ c.
      let x = (old g).0 c in
      let g_not : g ≢ f = λ g_is. not_scheduled r.phase queued (let is_r : x.0 ≡ r = cc (x.1, at, g_is) in ap (λ (z : JobRecord). z.phase) (sym is_r) ∙ x.2) in
      (x.0, get_set_other d.journal f g (given d r) g_not ∙ x.1, x.2, x.3),
  λ x.
      elim (get_set_cases d.journal f g r (given d r) x.0 at x.1) [
        | inl it ↦ absurd (apart (ap (λ (z : JobRecord). z.ring) (sym it.1) ∙ x.3))
        | inr other ↦ (old g).1 (x.0, other.1, x.2, x.3)
      ],
)

pub record IsPick (d : DeviceState) (ring f now : ℕ) (r : JobRecord) : Type 0 where
  pub journal : changed_at d.journal f (given d) ≡ set d.journal f (given d r)
  pub count : length (picked_device d ring now f).rings ≡ length d.rings
  pub here : pending_of (picked_device d ring now f) ring ≡ pending_of d ring ++ f ∷ []
  pub there : (k : ℕ) → k ≢ ring → pending_of (picked_device d ring now f) k ≡ pending_of d k

pub pick_is : (d : DeviceState) (ring f now : ℕ) (r : JobRecord) → IsLawfulDevice d → ring < length d.spec.rings → slice_get d.journal f ≡ Some r
    → IsPick d ring f now r
pick_is d ring f now r law in_range at =
    let s = ring_there d ring law.ring_count in_range in
    let pends : pending_of d ring ≡ s.0.pending = ap (λ o. option_map_or (λ (r : RingState). r.pending) o []) s.1 in
    record {
      journal = changed_is d.journal f r (given d) at;
      count = ring_changed_count d.rings ring s.0 (with_tail now f) s.1;
      here = pending_here d.rings ring s.0 (with_tail now f) s.1 ∙ ap (λ ns. ns ++ f ∷ []) (sym pends);
      there = λ k apart. pending_there d.rings ring k s.0 (with_tail now f) s.1 apart;
    }

-- a job that has run a packet is not queued
pub begun_by_run : (d : DeviceState) (j : ℕ) (y : JobRecord) → IsLawfulDevice d → slice_get d.journal j ≡ Some y → 0 < y.ran → is_queued y.phase ≡ false
begun_by_run d j y law at_j some_ran =
    elim (cases_Bool (is_queued y.phase)) [
      | inr begun ↦ begun
      | inl queued ↦ let none : y.ran ≡ 0 = (law.records j y at_j).queued queued in absurd (omega (arith, none, some_ran))
    ]

-- no pending job must follow a queued one
pub none_follows : (d : DeviceState) (f j : ℕ) (r y : JobRecord) → IsSteady d → slice_get d.journal f ≡ Some r → is_queued r.phase ≡ true
    → f < j → slice_get d.journal j ≡ Some y → is_queued y.phase ≡ false → MustFollow f r y → ⊥
none_follows d f j r y steady at queued lt at_j begun (inl comes) =
    both_ways (is_met y.ring r) (not_met y.ring r queued) (steady.met f j r y lt at at_j comes begun)
none_follows d f j r y steady at queued lt at_j begun (inr entity) =
    let order : KeepsEntityOrder f r j y = steady.lawful.entities f j r y lt at at_j in
    both_ways (is_queued r.phase) (order.begun entity begun) queued

pub pick_lawful : (d : DeviceState) (ring f now : ℕ) (r : JobRecord) → IsSteady d → ring < length d.spec.rings → IsChosen d ring f r
    → credits_of d ring f ≤ free_credits d ring → IsLawfulDevice (picked_device d ring now f)
pick_lawful d ring f now r steady in_range chosen fits =
    let law = steady.lawful in
    let new = picked_device d ring now f in
    let change = pick_is d ring f now r law in_range chosen.at in
    let absent : Contains (pending_of d ring) f → ⊥ = λ c.
    let x = ((law.rings ring in_range).pending f).0 c in
    not_scheduled r.phase chosen.queued (let is_r : x.0 ≡ r = cc (x.1, chosen.at) in ap (λ (z : JobRecord). z.phase) (sym is_r) ∙ x.2) in
    let credits_same : (k : ℕ) (numbers : List ℕ) → sum_by (credits_of new k) numbers ≡ sum_by (credits_of d k) numbers =
    λ k numbers. sum_by_agree (credits_of new k) (credits_of d k) numbers 0
    (λ g. subst (λ js. option_map_or (λ (x : JobRecord). min x.job.credits (credit_limit_of d k)) (slice_get js g) 0 ≡ credits_of d k g) (sym change.journal)
    (credits_kept d.journal f r (given d r) (credit_limit_of d k) g chosen.at refl)) in
    record {
      ring_count = change.count ∙ law.ring_count;
      entity_count = law.entity_count;
      memory = law.memory ∙ ap (serial d.spec.buffers)
          (sym (turns_changed d.journal f r (given d) chosen.at ∙ set_same (turns d.journal) f (turn_of r) (to_map turn_of d.journal f r chosen.at)));
      records = λ i x at_i.
          elim (get_set_cases d.journal f i r (given d r) x chosen.at (subst (λ js. slice_get js i ≡ Some x) change.journal at_i)) [
            | inl it ↦ subst (IsSound d.spec) (sym it.1) (record {
              job = (law.records f r chosen.at).job;
              ran = (law.records f r chosen.at).ran;
              outcome = tt;
              queued = λ q. let never : false ≡ true = q in absurd (cc (never));
            })
            | inr other ↦ law.records i x other.1
          ];
      rings = λ k k_here.
          elim (cases_eq k ring) [
            | inl k_is ↦ subst (IsLawfulRing new) (sym k_is)
                (ring_lawful_by new ring (pending_of d ring ++ f ∷ []) change.here
                (subst (λ js. IsPendingList js ring (pending_of d ring ++ f ∷ [])) (sym change.journal)
                (tail_pending d f r ring (pending_of d ring) chosen.at chosen.queued chosen.on_ring (law.rings ring in_range).pending))
                (once_push (pending_of d ring) f (law.rings ring in_range).once absent)
                (let was : used_credits d ring ≤ credit_limit_of d ring = (law.rings ring in_range).credits in
                omega (arith, was, fits, sum_by_push (credits_of d ring) (pending_of d ring) f, credits_same ring (pending_of d ring ++ f ∷ []))))
            | inr apart ↦ ring_lawful_by new k (pending_of d k) (change.there k apart)
                (subst (λ js. IsPendingList js k (pending_of d k)) (sym change.journal)
                (others_then d f r k (pending_of d k) chosen.at chosen.queued (λ e. apart (sym e ∙ chosen.on_ring)) (law.rings k k_here).pending))
                (law.rings k k_here).once
                (omega (arith, (law.rings k k_here).credits, credits_same k (pending_of d k)))
          ];
      follows = subst (λ js. EachTwo js ComesInOrder) (sym change.journal) (each_two_set d.journal f r (given d r) ComesInOrder chosen.at law.follows
          (λ j y lt at_j old. record {
            ended = λ comes e. absurd (both_ways (has_ended r.phase) (not_ended r.phase chosen.queued) (old.ended comes e));
            ran = λ comes some_ran. absurd (none_follows d f j r y steady chosen.at chosen.queued lt at_j (begun_by_run d j y law at_j some_ran) (inl comes));
          })
          (λ i x lt at_i old. record {
            ended = λ comes e. let never : false ≡ true = e in absurd (cc (never));
            ran = λ comes some_ran. old.ran comes some_ran;
          }));
      entities = subst (λ js. EachTwo js KeepsEntityOrder) (sym change.journal) (each_two_set d.journal f r (given d r) KeepsEntityOrder chosen.at law.entities
          (λ j y lt at_j old. record {
            begun = λ same b. refl;
            ended = λ same e. absurd (both_ways (has_ended r.phase) (not_ended r.phase chosen.queued) (old.ended same e));
          })
          (λ i x lt at_i old. record {
            begun = λ same b. chosen.is_first i x lt at_i same;
            ended = λ same e. let never : false ≡ true = e in absurd (cc (never));
          }));
    }

-- the new job stands behind all others
pub tail_order : (d : DeviceState) (ring f : ℕ) (r : JobRecord) → IsSteady d → ring < length d.spec.rings → slice_get d.journal f ≡ Some r
    → is_queued r.phase ≡ true → EachTwo d.journal (StandsInOrder (pending_of d ring ++ f ∷ []))
tail_order d ring f r steady here at queued i j x y lt at_i at_j must a b at_a at_b =
    elim (get_push_cases (pending_of d ring) f a i at_a) [
      | inl old_a ↦ elim (get_push_cases (pending_of d ring) f b j at_b) [
        | inl old_b ↦ steady.order ring here i j x y lt at_i at_j must a b old_a old_b
        | inr new_b ↦ omega (arith, new_b.0, slice_get_within (pending_of d ring) a i old_a)
      ]
      | inr new_a ↦ elim (get_push_cases (pending_of d ring) f b j at_b) [
        | inl old_b ↦
            let pends = ((steady.lawful.rings ring here).pending j).0 (contains_at (pending_of d ring) b j old_b) in
            let is_y : pends.0 ≡ y = cc (pends.1, at_j) in
            let begun : is_queued y.phase ≡ false = ap (λ (z : JobRecord). is_queued z.phase) (sym is_y) ∙ ap is_queued pends.2 in
            let past : f < j = omega (arith, lt, new_a.1) in
            let is_x : x ≡ r = cc (at_i, at, new_a.1) in
            absurd (none_follows d f j r y steady at queued past at_j begun (subst (λ (z : JobRecord). MustFollow f z y) is_x (subst (λ n. MustFollow n x y) new_a.1 must)))
        | inr new_b ↦ absurd (omega (arith, lt, new_a.1, new_b.1))
      ]
    ]

pub pick_steady : (d : DeviceState) (ring f now : ℕ) (r : JobRecord) → IsSteady d → ring < length d.spec.rings → IsChosen d ring f r
    → credits_of d ring f ≤ free_credits d ring → IsSteady (picked_device d ring now f)
pick_steady d ring f now r steady in_range chosen fits =
    let change = pick_is d ring f now r steady.lawful in_range chosen.at in
    let new = picked_device d ring now f in
    record {
      lawful = pick_lawful d ring f now r steady in_range chosen fits;
      met = subst (λ js. EachTwo js BeginsMet) (sym change.journal) (each_two_set d.journal f r (given d r) BeginsMet chosen.at steady.met
          (λ j y lt at_j old. λ comes begun. absurd (none_follows d f j r y steady chosen.at chosen.queued lt at_j begun (inl comes)))
          (λ i x lt at_i old. λ comes begun. chosen.met i x lt at_i comes));
      home = subst (λ js. EachTwo js StaysHome) (sym change.journal) (each_two_set d.journal f r (given d r) StaysHome chosen.at steady.home
          (λ j y lt at_j old. λ e. elim (old e) [ inl ended ↦ absurd (both_ways (has_ended r.phase) (not_ended r.phase chosen.queued) ended) | inr on ↦ inr on ]) (λ i x lt at_i old. old));
      listed = λ i x at_i.
          elim (get_set_cases d.journal f i r (given d r) x chosen.at (subst (λ js. slice_get js i ≡ Some x) change.journal at_i)) [
            | inl it ↦ subst (λ (z : JobRecord). IsRingOf d.spec z.job.entity z.ring) (sym it.1) (steady.listed f r chosen.at)
            | inr other ↦ steady.listed i x other.1
          ];
      order = λ k k_here.
          let kept : (numbers : List ℕ) → EachTwo d.journal (StandsInOrder numbers) → EachTwo new.journal (StandsInOrder numbers) =
          λ numbers old. subst (λ js. EachTwo js (StandsInOrder numbers)) (sym change.journal)
          (each_two_set d.journal f r (given d r) (StandsInOrder numbers) chosen.at old (λ j y lt at_j old. old) (λ i x lt at_i old. old)) in
          elim (cases_eq k ring) [
            | inl k_is ↦
                subst (λ n. EachTwo new.journal (StandsInOrder (pending_of new n))) (sym k_is)
                (subst (λ ns. EachTwo new.journal (StandsInOrder ns)) (sym change.here)
                (kept (pending_of d ring ++ f ∷ []) (tail_order d ring f r steady in_range chosen.at chosen.queued)))
            | inr apart ↦
                subst (λ ns. EachTwo new.journal (StandsInOrder ns)) (sym (change.there k apart)) (kept (pending_of d k) (steady.order k k_here))
          ];
    }
