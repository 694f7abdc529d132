use Rattle.std.proofs.Common.{◌++◌, ◌∙◌, ℕ, List, ap, string_bytes}
use Rattle.drm_words.specs.Faults.{explained}
use Rattle.drm_words.proofs.Adding.{add_next, add_then}
use Rattle.drm_words.proofs.fault.push_explained.Goals as goal

pub returns : goal.returns
unfolding explained
returns c =
    let old = string_bytes c.args.words.now in
    let one = c.in_ok-push_text.ensures ∙ ap (λ (t : List ℕ). old ++ t) c.sentence.ensures in
    let two = add_next old (string_bytes c.push_text.new.words) (string_bytes c.push_text-2.new.words) _ _ one c.in_ok-push_text-2.ensures in
    add_then c.push_text-3.result old (string_bytes c.push_text-2.new.words) (string_bytes c.push_text-3.new.words) _ _ _ _ two c.sentence-2.ensures c.push_text-3.ensures
