-- Workers are hired one by one.
use Rattle.std.proofs.Common.{◌≡◌, ◌∙◌, ℕ, suc, List, [], ◌∷◌, ◌++◌, map, ap, sym, subst, arith}
use Rattle.ww_lock.proofs.Sharing.{finer, finer_within, half, half_within, both_weights, both_within}
use Rattle.drm_job.specs.declared.Draft.{Draft}
use Rattle.drm_gpu.specs.Passes.{GpuState}
use Rattle.drm_workers.specs.declared.work.Worker.{Worker}
use Rattle.drm_workers.specs.Works.{HaveAll, Hires, jobs_of, parts_of}
use Rattle.ww_lock.specs.Parts.{AreWithin, IsWhole, halved}
use Rattle.drm_workers.proofs.Lists.{joined, unit}

pub hires_then : (gpu : GpuState) (more less : List (List Draft)) (a b c : List Worker) → Hires gpu more a b → Hires gpu less b c → Hires gpu (more ++ less) a c
hires_then gpu more less a b c x y = (y.0 ∙ (ap (λ js. js ++ less) x.0 ∙ joined (map (λ w. jobs_of w.duty) a) more less), λ all. y.1 (x.1 all))

-- ---- what they have of the device

left_within : (n : ℕ) (ds es : List ℕ) → AreWithin n (ds ++ es) → AreWithin n ds
left_within n [] es h = tt
left_within n (d ∷ ds) es h = (h.0, left_within n ds es h.1)

right_within : (n : ℕ) (ds es : List ℕ) → AreWithin n (ds ++ es) → AreWithin n es
right_within n [] es h = h
right_within n (d ∷ ds) es h = right_within n ds es h.1

-- the halves of a part make up the part
pub halves : (ds es : List ℕ) → IsWhole (ds ++ es) → IsWhole (halved ds ++ (es ++ halved ds))
halves ds es (n, within, whole) =
    let own = left_within n ds es within in
    let rest = right_within n ds es within in
    let parts = both_weights n ds es in
    let more = finer n es rest in
    let a = half n ds in
    let inner = both_weights (suc n) es (halved ds) in
    let outer = both_weights (suc n) (halved ds) (es ++ halved ds) in (
      suc n,
      both_within (suc n) (halved ds) (es ++ halved ds) (half_within n ds own) (both_within (suc n) es (halved ds) (finer_within n es rest) (half_within n ds own)),
      omega arith,
    )

pub parts_more : (ws : List Worker) (w : Worker) → parts_of (ws ++ w ∷ []) ≡ parts_of ws ++ w.pass.part
parts_more [] w = unit w.pass.part
parts_more (v ∷ ws) w = ap (λ ds. v.pass.part ++ ds) (parts_more ws w) ∙ sym (joined v.pass.part (parts_of ws) w.pass.part)

-- one worker more has half of what the pass had
pub hired_half : (part kept : List ℕ) (ws new : List Worker) (w : Worker) → kept ≡ halved part → w.pass.part ≡ halved part → new ≡ ws ++ w ∷ [] → HaveAll part ws → HaveAll kept new
hired_half part kept ws new w one two pushed all =
    subst (λ ds. IsWhole (kept ++ ds)) (sym (ap parts_of pushed ∙ (parts_more ws w ∙ ap (λ ds. parts_of ws ++ ds) two)))
    (subst (λ ds. IsWhole (ds ++ (parts_of ws ++ halved part))) (sym one) (halves part (parts_of ws) all))

-- a pass alone has what it and no workers have
pub alone : (part : List ℕ) (ws : List Worker) → ws ≡ [] → IsWhole part → HaveAll part ws
alone part ws none whole = subst (λ vs. IsWhole (part ++ parts_of vs)) (sym none) (subst IsWhole (sym (unit part)) whole)

-- a device that was just built
pub first_part : IsWhole (0 ∷ [])
first_part = (0, (omega arith, tt), omega arith)
