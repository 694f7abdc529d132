-- Pending lists and credits under the change of one record.
use Rattle.std.proofs.Common.{◌≡◌, ℕ, List, set, min, Some, Option, sym, ap, subst, ◌∙◌, inl, inr, slice_get}
use Rattle.std.specs.Option.{option_map_or}
use Rattle.std.proofs.lemmas.Bool.{cases_eq}
use Rattle.drm_lists.proofs.Changed.{get_set_same, get_set_other, get_set_cases}
use Rattle.drm_fence.specs.declared.phase.Phase.TheVariants.{Scheduled}
use Rattle.drm_state.specs.declared.journal.JobRecord.{JobRecord}
use Rattle.drm_state.specs.Lawful.{IsPendingList}

-- a record that keeps its phase and its ring stays where it was pending
pub pending_kept : (journal : List JobRecord) (f : ℕ) (r new : JobRecord) (ring : ℕ) (numbers : List ℕ) → slice_get journal f ≡ Some r
    → new.phase ≡ r.phase → new.ring ≡ r.ring → IsPendingList journal ring numbers → IsPendingList (set journal f new) ring numbers
pending_kept journal f r new ring numbers at phase same_ring old g =
    let back = old g in (
      λ c.
          let x = back.0 c in
          elim (cases_eq g f) [
            | inl g_is ↦
                let is_r : x.0 ≡ r = cc (x.1, at, g_is) in (
                  new,
                  subst (λ n. slice_get (set journal f new) n ≡ Some new) (sym g_is) (get_set_same journal f r new at),
                  phase ∙ (ap (λ (z : JobRecord). z.phase) (sym is_r) ∙ x.2),
                  same_ring ∙ (ap (λ (z : JobRecord). z.ring) (sym is_r) ∙ x.3),
                )
            | inr apart ↦ (x.0, get_set_other journal f g new apart ∙ x.1, x.2, x.3)
          ],
      λ x.
          elim (get_set_cases journal f g r new x.0 at x.1) [
            | inl here ↦
                let p : r.phase ≡ Scheduled = sym phase ∙ (ap (λ (z : JobRecord). z.phase) (sym here.1) ∙ x.2) in
                let q : r.ring ≡ ring = sym same_ring ∙ (ap (λ (z : JobRecord). z.ring) (sym here.1) ∙ x.3) in
                back.1 (r, subst (λ n. slice_get journal n ≡ Some r) (sym here.0) at, p, q)
            | inr other ↦ back.1 (x.0, other.1, x.2, x.3)
          ],
    )

-- a record that keeps its job keeps its credits
pub credits_kept : (journal : List JobRecord) (f : ℕ) (r new : JobRecord) (limit g : ℕ) → slice_get journal f ≡ Some r → new.job ≡ r.job
    → option_map_or (λ (x : JobRecord). min x.job.credits limit) (slice_get (set journal f new) g) 0
    ≡ option_map_or (λ (x : JobRecord). min x.job.credits limit) (slice_get journal g) 0
credits_kept journal f r new limit g at job =
    let h : Option JobRecord → ℕ = λ o. option_map_or (λ (x : JobRecord). min x.job.credits limit) o 0 in
    elim (cases_eq g f) [
      | inl g_is ↦
          let there : slice_get (set journal f new) g ≡ Some new =
          subst (λ n. slice_get (set journal f new) n ≡ Some new) (sym g_is) (get_set_same journal f r new at) in
          let was : slice_get journal g ≡ Some r = subst (λ n. slice_get journal n ≡ Some r) (sym g_is) at in
          ap h there ∙ (ap (λ job. min job.credits limit) job ∙ sym (ap h was))
      | inr apart ↦ ap h (get_set_other journal f g new apart)
    ]
