-- What a look at a fence word tells.
use Rattle.std.proofs.Common.{◌≡◌, ◌∙◌, ◌++◌, ◌∷◌, [], ℕ, ap}
use Rattle.atomic_table.specs.Seated.{TableId}
use Rattle.ww_lock.specs.Steps.{IsLater, with_look}
use Rattle.drm_types.specs.declared.spec.DeviceSpec.{DeviceSpec}
use Rattle.drm_sched.specs.Marks.{MarkedDevice}
use Rattle.drm_gpu.specs.Laws.{device_facts}
use Rattle.drm_gpu.specs.Passes.{Seeing, Knows, word_shown, last_of, pass_of}
use Rattle.drm_gpu.specs.Status.{LooksAt}
use Rattle.drm_gpu.proofs.Chains.{saw}

-- what one is told who saw v and sees w
pub looked : (f n : ℕ) (p : MarkedDevice) (home : TableId) (spec : DeviceSpec) (v w : Seeing) → Knows spec (last_of v) v → w ≡ with_look f n v → IsLater device_facts v p → n ≡ word_shown p f
    → LooksAt f p (pass_of home v) (pass_of home w)
looked f n p home spec v w k view later shown = record {
  lawful = later.fine;
  later = later.grown (last_of v) (saw spec (last_of v) v k);
  shows = later.shows;
  looks = ap (λ (z : Seeing). pass_of home z) view ∙ ap (λ x. record (pass_of home v) { looked = v.looked ++ (f, x) ∷ [] }) shown;
}
