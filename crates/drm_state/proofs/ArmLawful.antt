-- An arming leads from a steady device to a steady one.
use Rattle.std.proofs.Common.{◌≡◌, ℕ, suc, ◌+◌, true, false, List, [], ◌∷◌, ◌++◌, length, Some, refl, sym, ap, subst, ◌∙◌, inl, inr, arith, slice_get}
use Rattle.std.specs.Option.{option_map_or}
use Rattle.std.specs.Prelude.{sum_by, min, fold}
use Rattle.std.proofs.lemmas.List.{map-append}
use Rattle.std.proofs.lemmas.List.Sums.{fold_push}
use Rattle.std.proofs.lemmas.Option.{slice_get_within}
use Rattle.drm_lists.proofs.Places.{contains_at, get_before_push, get_push_cases}
use Rattle.drm_job.specs.declared.Draft.{Draft}
use Rattle.drm_job.specs.Fault.{IsJob}
use Rattle.drm_serial.specs.Serial.{after_turn, serial}
use Rattle.drm_fence.specs.declared.phase.Phase.TheVariants.{Queued, Scheduled}
use Rattle.drm_state.specs.declared.journal.JobRecord.{JobRecord}
use Rattle.drm_state.specs.State.{DeviceState}
use Rattle.drm_state.specs.Journal.{turns}
use Rattle.drm_state.specs.Arming.{new_record, armed_device}
use Rattle.drm_state.specs.Ring.{pending_of, credits_of, credit_limit_of}
use Rattle.drm_state.specs.Lawful.{EachTwo, IsSound, IsPendingList, ComesInOrder, KeepsEntityOrder}
use Rattle.drm_state.specs.Steady.{BeginsMet, StandsInOrder, IsSteady, StaysHome, IsRingOf}
use Rattle.drm_state.proofs.Records.{turn_of}
use Rattle.drm_state.proofs.RingChange.{ring_lawful_by}
use Rattle.drm_state.proofs.Homes.{arming_home, arming_listed}

-- a relation of each two records, with one record more
pub each_two_push : (journal : List JobRecord) (new : JobRecord) (Related : ℕ → JobRecord → ℕ → JobRecord → Type 0) → EachTwo journal Related
    → ((i : ℕ) (x : JobRecord) → slice_get journal i ≡ Some x → Related i x (length journal) new) → EachTwo (journal ++ new ∷ []) Related
each_two_push journal new Related old last i j x y lt at_i at_j =
    elim (get_push_cases journal new j y at_j) [
      | inl old_j ↦ elim (get_push_cases journal new i x at_i) [
        | inl old_i ↦ old i j x y lt old_i old_j
        | inr new_i ↦ absurd (omega (arith, lt, new_i.0, slice_get_within journal j y old_j))
      ]
      | inr new_j ↦ elim (get_push_cases journal new i x at_i) [
        | inl old_i ↦ subst (λ n. Related i x n y) (sym new_j.0) (subst (Related i x (length journal)) (sym new_j.1) (last i x old_i))
        | inr new_i ↦ absurd (omega (arith, lt, new_i.0, new_j.0))
      ]
    ]

-- sums of parts that are equal at each element
pub sum_by_agree_in : (f g : ℕ → ℕ) (xs : List ℕ) (a : ℕ) → ((k : ℕ) (x : ℕ) → slice_get xs k ≡ Some x → f x ≡ g x)
    → fold (λ n x. n + f x) a xs ≡ fold (λ n x. n + g x) a xs
sum_by_agree_in f g [] a same = refl
sum_by_agree_in f g (x ∷ xs) a same =
    ap (λ k. fold (λ n x. n + f x) (a + k) xs) (same 0 x refl) ∙ sum_by_agree_in f g xs (a + g x) (λ k x is. same (suc k) x is)

-- the pending lists after an arming
pub armed_pending : (journal : List JobRecord) (new : JobRecord) (k : ℕ) (numbers : List ℕ) → new.phase ≡ Queued → IsPendingList journal k numbers
    → IsPendingList (journal ++ new ∷ []) k numbers
armed_pending journal new k numbers queued old g = (
  λ c. let x = (old g).0 c in (x.0, get_before_push journal new g x.0 x.1, x.2, x.3),
  λ x.
      elim (get_push_cases journal new g x.0 x.1) [
        | inl was ↦ (old g).1 (x.0, was, x.2, x.3)
        | inr it ↦ let never : Queued ≡ Scheduled = sym queued ∙ (ap (λ (z : JobRecord). z.phase) (sym it.1) ∙ x.2) in absurd (cc (never))
      ],
)

pub arm_steady : (d : DeviceState) (job : Draft) → IsSteady d → IsJob d.spec job → IsSteady (armed_device d job)
arm_steady d job steady is_job =
    let law = steady.lawful in
    let last = new_record d job in
    let new = armed_device d job in
    record {
      lawful = record {
        ring_count = law.ring_count;
        entity_count = law.entity_count;
        memory = law.memory
            ∙ sym (ap (serial d.spec.buffers) (map-append turn_of d.journal (last ∷ [])) ∙ fold_push after_turn d.spec.buffers (turns d.journal) (turn_of last));
        records = λ i x at_i.
            elim (get_push_cases d.journal last i x at_i) [
              | inl was ↦ law.records i x was
              | inr it ↦ subst (IsSound d.spec) (sym it.1) (record { job = is_job; ran = omega arith; outcome = tt; queued = λ q. refl })
            ];
        rings = λ k k_here.
            let old = law.rings k k_here in
            ring_lawful_by new k (pending_of d k) refl (armed_pending d.journal last k (pending_of d k) refl old.pending) old.once
            (let credits : sum_by (credits_of new k) (pending_of d k) ≡ sum_by (credits_of d k) (pending_of d k) =
            sum_by_agree_in (credits_of new k) (credits_of d k) (pending_of d k) 0
            (λ a g at_a.
            let x = (old.pending g).0 (contains_at (pending_of d k) a g at_a) in
            ap (λ o. option_map_or (λ (x : JobRecord). min x.job.credits (credit_limit_of d k)) o 0)
            (get_before_push d.journal last g x.0 x.1 ∙ sym x.1)) in
            omega (arith, old.credits, credits));
        follows = each_two_push d.journal last ComesInOrder law.follows (λ i x at_i. record {
          ended = λ comes e. let never : false ≡ true = e in absurd (cc (never));
          ran = λ comes some_ran. absurd (omega (arith, some_ran));
        });
        entities = each_two_push d.journal last KeepsEntityOrder law.entities (λ i x at_i. record {
          begun = λ same b. let never : true ≡ false = b in absurd (cc (never));
          ended = λ same e. let never : false ≡ true = e in absurd (cc (never));
        });
      };
      met = each_two_push d.journal last BeginsMet steady.met (λ i x at_i. λ comes begun. let never : true ≡ false = begun in absurd (cc (never)));
      home = each_two_push d.journal last StaysHome steady.home (λ i x at_i same. arming_home d job.entity i x steady at_i same);
      listed = λ i x at_i.
          elim (get_push_cases d.journal last i x at_i) [
            | inl was ↦ steady.listed i x was
            | inr it ↦ subst (λ (z : JobRecord). IsRingOf d.spec z.job.entity z.ring) (sym it.1) (arming_listed d job.entity steady)
          ];
      order = λ k k_here. each_two_push d.journal last (StandsInOrder (pending_of d k)) (steady.order k k_here) (λ i x at_i must a b at_a at_b.
          let y = ((law.rings k k_here).pending (length d.journal)).0 (contains_at (pending_of d k) b (length d.journal) at_b) in
          absurd (omega (arith, slice_get_within d.journal (length d.journal) y.0 y.1)));
    }
