use Rattle.std.proofs.Common.{◌≡◌, ◌∙◌, ℕ, List, Option, Some, ap, find, map, sym}
use Rattle.std.specs.Prelude.{not, option_map}
use Rattle.drm_core.specs.Context.{holder_of}
use Rattle.drm_words.specs.Because.{missing_of}
use Rattle.drm_words.specs.Holders.{held_by, holder_at}
use Rattle.drm_words.proofs.missing.missing_buffer.Goals as goal

pub returns-in-Some : goal.returns-in-Some
returns-in-Some c =
    let core = c.args.core.now in
    let holders = c.holders-holders.result.now in
    let first : Some c.in-Some.buffer ≡ find (λ buffer. not (held_by core.holders c.in-Plan.ctx buffer)) (map (λ d. d.0) c.in-Plan.job.declared) =
    sym c.in-Some.is ∙ rw (c.holders-holders.ensures.value, c.as_slice.ensures) at c.first_missing.ensures in
    let holder : c.holder_in.result ≡ holder_at core.holders c.in-Some.buffer = c.holder_in.ensures ∙ ap (λ (hs : List (Option ℕ)). holder_at hs c.in-Some.buffer) c.holders-holders.ensures.value in
    ap (λ (o : Option ℕ). Some (c.in-Some.buffer, o)) holder ∙ ap (option_map (λ buffer. (buffer, holder_of core buffer))) first ∙ ap (missing_of core) (sym c.in-Plan.is)
