use Rattle.std.proofs.Common.{◌∙◌, sym}
use Rattle.drm_table.specs.Tables.{state_of}
use Rattle.drm_sched.proofs.HeadChoice.{choice_found, choice_missing}
use Rattle.drm_table.proofs.Queues.{head_is_first}
use Rattle.drm_table.proofs.TableFacts.{entity_row_there}
use Rattle.drm_sched.proofs.heads.Heads.choice.Goals as goal

pub returns-in_err-entity : goal.returns-in_err-entity
returns-in_err-entity c =
    let t = c.args.table.now in
    let h = c.args.self.now in
    c.from_residual.ensures ∙ sym (choice_missing (state_of t) t.waits.lists h c.args.ring c.requires.whole.steady c.requires.whole.waits c.requires.heads c.requires.there c.in_err-entity.ensures.none)

pub head-requires : goal.head-requires
head-requires c =
    let t = c.args.table.now in
    let h = c.args.self.now in
    entity_row_there t c.in_ok-entity.entity c.requires.whole
    (choice_found (state_of t) t.waits.lists h c.args.ring c.in_ok-entity.entity c.requires.whole.steady c.requires.whole.waits c.requires.heads c.requires.there c.in_ok-entity.ensures.found).1

pub returns : goal.returns
returns c =
    let t = c.args.table.now in
    let h = c.args.self.now in
    let is = choice_found (state_of t) t.waits.lists h c.args.ring c.in_ok-entity.entity c.requires.whole.steady c.requires.whole.waits c.requires.heads c.requires.there c.in_ok-entity.ensures.found in
    c.head.ensures
    ∙ (head_is_first t.journal.items t.entities c.in_ok-entity.entity c.requires.whole.queues (entity_row_there t c.in_ok-entity.entity c.requires.whole is.1)
    ∙ sym is.0)
