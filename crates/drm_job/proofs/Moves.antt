-- Only an entity of KERNEL priority moves.
use Rattle.std.proofs.Common.{◌≡◌, ◌⊎◌, inl, inr, true, false, cond, None, refl, ap}
use Rattle.std.specs.Prelude.{All, IsTrue, find, option_map}
use Rattle.std.proofs.lemmas.List.Elements.{All-from_recursion, recursion_from_All}
use Rattle.drm_types.specs.declared.spec.DeviceSpec.{DeviceSpec}
use Rattle.drm_types.proofs.Firsts.{none_of_map, none_found, finds_none}
use Rattle.drm_job.specs.declared.Draft.{Draft}
use Rattle.drm_job.specs.Uses.{is_move}
use Rattle.drm_job.specs.Fault.{is_kernel, wrongly_moved}

-- where no move is told, the entity is of KERNEL priority, or it moves nothing
pub moved_rightly : (spec : DeviceSpec) (job : Draft) → wrongly_moved spec job ≡ None
    → IsTrue (is_kernel spec job.entity) ⊎ All (λ d. is_move d.1 ≡ false) job.declared
moved_rightly spec job is =
    elim (is_kernel spec job.entity) as (λ b. cond b None (option_map (λ d. d.0) (find (λ d. is_move d.1) job.declared)) ≡ None
    → IsTrue b ⊎ All (λ d. is_move d.1 ≡ false) job.declared) [
      | true ↦ λ none. inl refl
      | false ↦ λ none.
          inr (All-from_recursion (λ d. is_move d.1 ≡ false) job.declared
          (none_found (λ d. is_move d.1) job.declared (none_of_map (λ d. d.0) (find (λ d. is_move d.1) job.declared) none)))
    ] is

-- and back
pub none_wrongly_moved : (spec : DeviceSpec) (job : Draft) → IsTrue (is_kernel spec job.entity) ⊎ All (λ d. is_move d.1 ≡ false) job.declared
    → wrongly_moved spec job ≡ None
none_wrongly_moved spec job (inl kernel) = ap (λ b. cond b None (option_map (λ d. d.0) (find (λ d. is_move d.1) job.declared))) kernel
none_wrongly_moved spec job (inr none) =
    elim (is_kernel spec job.entity) as (λ b. cond b None (option_map (λ d. d.0) (find (λ d. is_move d.1) job.declared)) ≡ None) [
      | true ↦ refl
      | false ↦ ap (option_map (λ d. d.0)) (finds_none (λ d. is_move d.1) job.declared (recursion_from_All (λ d. is_move d.1 ≡ false) job.declared none))
    ]
