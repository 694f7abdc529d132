-- What a fence word tells of its job.
use Rattle.std.proofs.Common.{◌≡◌, ◌<◌, ℕ, zero, suc, List, refl, sym, ap, ◌∙◌, Some, None, Option, arith, slice_get}
use Rattle.std.specs.Prelude.{ℤ, pos, negsuc, option_map}
use Rattle.std.specs.Option.{option_map_or}
use Rattle.drm_types.specs.declared.outcome.Outcome.TheVariants.{Good, Cancelled, Stopped}
use Rattle.drm_fence.specs.declared.phase.Phase.{Phase}
use Rattle.drm_fence.specs.declared.phase.Phase.TheVariants.{Queued, Scheduled, Ended}
use Rattle.drm_fence.specs.Phases.{status_of}
use Rattle.drm_state.specs.declared.journal.JobRecord.{JobRecord}
use Rattle.drm_state.specs.Keeps.{word_of, word_at}

abbrev pub status_by : ℕ → Option ℤ
status_by zero = None
status_by (suc zero) = Some (pos 0)
status_by (suc (suc zero)) = Some (pos 1)
status_by (suc (suc (suc zero))) = Some (negsuc 124)
status_by (suc (suc (suc (suc n)))) = Some (negsuc 2)

phase_status : (p : Phase) → Some (status_of p) ≡ status_by (word_of p)
phase_status Queued = refl
phase_status Scheduled = refl
phase_status (Ended Good) = refl
phase_status (Ended Cancelled) = refl
phase_status (Ended Stopped) = refl

record_status : (o : Option JobRecord) → option_map (λ (r : JobRecord). status_of r.phase) o ≡ status_by (option_map_or (λ (r : JobRecord). word_of r.phase) o 0)
record_status None = refl
record_status (Some r) = phase_status r.phase

no_record : (o : Option JobRecord) → option_map (λ (r : JobRecord). status_of r.phase) o ≡ None → o ≡ None
no_record None e = refl
no_record (Some r) e = absurd (cc (e))

module _ (journal : List JobRecord) (fence word : ℕ) (shown : word ≡ word_at journal fence) where
  pub told : (s : ℤ) → status_by word ≡ Some s → option_map (λ (r : JobRecord). status_of r.phase) (slice_get journal fence) ≡ Some s
  told s is = record_status (slice_get journal fence) ∙ (ap status_by (sym shown) ∙ is)

  pub told_none : word ≡ 0 → slice_get journal fence ≡ None
  told_none is = no_record (slice_get journal fence) (record_status (slice_get journal fence) ∙ ap status_by (sym shown ∙ is))
