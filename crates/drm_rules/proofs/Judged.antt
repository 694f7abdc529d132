-- Lines that are judged one after another.
use Rattle.std.proofs.Common.{◌≡◌, ℕ, ◌+◌, ◌<◌, ◌≤◌, List, [], ◌∷◌, ◌++◌, append_assoc, append-nil, length, take, drop, sym, ap, subst, ◌∙◌}
use Rattle.std.specs.Prelude.{slice_index_or}
use Rattle.std.proofs.lemmas.List.{drop_more, drop_all, take_more}
use Rattle.drm_trace.specs.declared.event.Event.{Event}
use Rattle.drm_rules.specs.declared.rules.Broken.{Broken}
use Rattle.drm_rules.specs.declared.rules.Demands.{Demands}
use Rattle.drm_rules.specs.Rules.{broken, broken_at, broken_from}

-- what is told of the lines so far, and of one more
pub judged_on : (demands : Demands) (log lines : List Event) (i : ℕ) (d : Event) (found more : List Broken) → i < length lines
    → more ≡ found ++ broken_at demands log (take i lines) (slice_index_or lines i d)
    → found ++ broken_from demands log (take i lines) (drop i lines) ≡ broken demands log
    → more ++ broken_from demands log (take (i + 1) lines) (drop (i + 1) lines) ≡ broken demands log
judged_on demands log lines i d found more lt tells so =
    let e = slice_index_or lines i d in
    let split : drop i lines ≡ e ∷ drop (i + 1) lines = drop_more lines i d lt in
    let seen : take (i + 1) lines ≡ take i lines ++ e ∷ [] = take_more lines i d lt in
    let rest = broken_from demands log (take i lines ++ e ∷ []) (drop (i + 1) lines) in
    let whole : found ++ (broken_at demands log (take i lines) e ++ rest) ≡ broken demands log =
    subst (λ (ls : List Event). found ++ broken_from demands log (take i lines) ls ≡ broken demands log) split so in
    subst (λ (ls : List Event). more ++ broken_from demands log ls (drop (i + 1) lines) ≡ broken demands log) (sym seen)
    (ap (λ (bs : List Broken). bs ++ rest) tells ∙ append_assoc found (broken_at demands log (take i lines) e) rest ∙ whole)

-- the lines that were passed, and one more
pub seen_on : (lines : List Event) (i : ℕ) (d : Event) → i < length lines → take i lines ++ slice_index_or lines i d ∷ [] ≡ take (i + 1) lines
seen_on lines i d lt = sym (take_more lines i d lt)

-- nothing is left to be told
pub judged_all : (demands : Demands) (log lines : List Event) (i : ℕ) (found : List Broken) → length lines ≤ i
    → found ++ broken_from demands log (take i lines) (drop i lines) ≡ broken demands log → found ≡ broken demands log
judged_all demands log lines i found le so =
    let none : drop i lines ≡ [] = drop_all i lines le in
    sym (append-nil found) ∙ ap (λ (ls : List Event). found ++ broken_from demands log (take i lines) ls) (sym none) ∙ so
