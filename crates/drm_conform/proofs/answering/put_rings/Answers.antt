use Rattle.std.proofs.Common.{◌≡◌, ◌++◌, ℕ, List, length, add-one, ap, append_assoc, ◌∙◌}
use Rattle.drm_conform.specs.declared.times.Total.{Total}
use Rattle.drm_conform.specs.Times.{total_of}
use Rattle.drm_conform.specs.Words.{text_of_rings, text_of_total}
use Rattle.drm_conform.proofs.answering.put_rings.Goals as goal

pub loop-ring-preserved : goal.loop-ring-preserved
loop-ring-preserved c =
    let ring = c.loop-ring.ring in
    let log = c.args.log.now in
    let before = text_of_rings log ring in
    let total : c.total_at.result ≡ total_of log.events (length log.jobs) ring = c.total_at.ensures ∙ c.requires ring in
    rw (add-one ring)
    (c.in_ok-put_total.ensures ∙ ap (λ (t : Total). c.loop-ring.text.items ++ text_of_total c.as_slice-rings.result.now ring t) total
    ∙ ap (λ (rings : List (List ℕ)). c.loop-ring.text.items ++ text_of_total rings ring (total_of log.events (length log.jobs) ring)) c.as_slice-rings.ensures
    ∙ ap (λ (text : List ℕ). text ++ text_of_total log.rings ring (total_of log.events (length log.jobs) ring)) c.loop-ring.invariant
    ∙ append_assoc c.args.text.now.items before (text_of_total log.rings ring (total_of log.events (length log.jobs) ring)))
