use Rattle.std.proofs.Common.{◌≡◌, false, sym, ap, ◌∙◌}
use Rattle.drm_parse.specs.Job.{kind_read, is_late}
use Rattle.drm_parse.proofs.WordKinds.{word_is_read}
use Rattle.drm_parse.proofs.job.add_word.Goals as goal

pub returns : goal.returns
returns c =
    let late : is_late c.args.draft.now (kind_read c.args.word.now) ≡ false =
    sym (ap (is_late c.args.draft.now) c.read_kind-kind.ensures) ∙ sym c.comes_late.ensures ∙ c.if-comes_late.false in
    rw (word_is_read c.args.draft.now c.args.position c.args.word.now, late, ← c.read_kind-kind.ensures) c.add_item.ensures
