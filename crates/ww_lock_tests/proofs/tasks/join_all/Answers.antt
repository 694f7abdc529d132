use Rattle.std.proofs.Common.{ap, ◌∙◌, ◌++◌, length, length-append}
use Rattle.std.proofs.lemmas.List.Sorted.{length_permutation}
use Rattle.ww_lock_tests.proofs.tasks.join_all.Goals as goal

pub returns-clause-calls : goal.returns-clause-calls
returns-clause-calls c = let v = c.join.ensures.view in let a = c.args.one.place.me.0.pivot.mine in let b = c.args.other.place.me.0.pivot.mine in
    ap (λ z. length z.pivot.mine) v.2 ∙ (length_permutation (a ++ b) v.1 v.4 ∙ length-append a b)
