use Rattle.std.proofs.Common.{◌∙◌, sym}
use Rattle.std.proofs.lemmas.Option.{slice_get_within}
use Rattle.drm_reset.specs.declared.verdict.Verdict.TheVariants as verdict
use Rattle.drm_table.specs.Tables.{state_of}
use Rattle.drm_state.proofs.FinishLawful.{head_is}
use Rattle.drm_table.proofs.Hanging.{timeout_by}
use Rattle.drm_table.proofs.table.Table.timeout.Goals as goal

pub judge_head-requires-clause-job : goal.judge_head-requires-clause-job
judge_head-requires-clause-job c =
    let t = c.args.self.now in
    let h = head_is (state_of t) c.args.ring c.in-Some.number c.requires.whole.steady.lawful c.requires.there (sym c.head.ensures ∙ c.in-Some.is) in
    slice_get_within t.journal.items c.in-Some.number h.0 h.1.at

pub returns-in-NotYet-clause-expired : goal.returns-in-NotYet-clause-expired
returns-in-NotYet-clause-expired c =
    (timeout_by c.args.self.now c.args.ring c.args.now c.in-Some.number (verdict.NotYet c.in-NotYet.due_in) c.requires.whole c.requires.there (sym c.head.ensures ∙ c.in-Some.is)
    (sym c.judge_head.ensures ∙ c.in-NotYet.is)).2
