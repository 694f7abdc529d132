use Rattle.std.proofs.Common.{[]}
use Rattle.drm_rules.proofs.Exact.{all_keep, breaks_first, breaks_told, none_told, told}
use Rattle.drm_rules.proofs.laws.answers_are_exact.Goals as goal

pub returns-clause-broken : goal.returns-clause-broken
returns-clause-broken c = λ demands log one. (
  λ has. told demands log [] log one has,
  λ breaks. breaks_told demands log [] log one breaks.0 breaks.1 breaks.2 breaks.3,
)

pub returns-clause-kept : goal.returns-clause-kept
returns-clause-kept c = λ demands log. (λ none. all_keep demands log [] log none, λ keep. none_told demands log [] log keep)

pub returns-clause-first : goal.returns-clause-first
returns-clause-first c = λ demands log one more is. breaks_first demands log one more is
