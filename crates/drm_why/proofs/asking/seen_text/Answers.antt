use Rattle.std.proofs.Common.{ℕ, List, length, subst}
use Rattle.std.proofs.lemmas.Result.{IfOk-weaker}
use Rattle.drm_why.specs.Whys.{TellsChanges}
use Rattle.drm_why.specs.declared.seeing.Change.{Change}
use Rattle.drm_why.proofs.asking.seen_text.Goals as goal

pub returns : goal.returns
returns c =
    let count = length c.args.seens.now in
    IfOk-weaker c.changes_text.result _ _
    (λ text told. (
      c.in_ok-changes.changes.items,
      c.in_ok-changes.ensures,
      subst (λ (clock : ℕ). TellsChanges c.args.fence count clock c.in_ok-changes.changes.items text.items) c.last_clock-clock.ensures
          (subst (λ (changes : List Change). TellsChanges c.args.fence count c.last_clock-clock.result changes text.items) c.deref.ensures.value told),
    ))
    c.changes_text.ensures
