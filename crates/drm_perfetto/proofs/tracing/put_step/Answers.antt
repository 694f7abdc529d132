use Rattle.std.proofs.Common.{◌∙◌, Option, ap, subst, sym}
use Rattle.std.specs.Option.{option_to_list}
use Rattle.drm_perfetto.specs.declared.entry.Entry.{Entry}
use Rattle.drm_perfetto.specs.declared.entry.Track.{Track}
use Rattle.drm_perfetto.specs.declared.named.Moves.{Moves}
use Rattle.drm_perfetto.specs.declared.named.Named.{Named}
use Rattle.drm_perfetto.specs.Rows.{KeepsRows}
use Rattle.drm_perfetto.specs.Steps.{all_changes, cause_of, instant_of}
use Rattle.drm_perfetto.proofs.Pens.{entries_more, entries_same}
use Rattle.drm_perfetto.proofs.tracing.put_step.Goals as goal

pub put_changes-requires-clause-kept : goal.put_changes-requires-clause-kept
put_changes-requires-clause-kept g c = subst (λ (m : Moves). KeepsRows m c.args.core.now c.args.rows.now) (sym c.moved_by.ensures) c.requires.kept

pub returns-clause-entries : goal.returns-clause-entries
returns-clause-entries g c = λ old event same all named.
    let new = c.args.core.now in
    let answer = c.args.answer.now in
    entries_more
    (entries_same (ap (λ (o : Option Entry). option_to_list o) (c.instant.ensures ∙ ap (λ (n : Named). instant_of n c.args.when.at answer) named)) c.put_any.ensures)
    (entries_same (ap (λ (o : Option Track). all_changes c.args.when o old new) (c.cause-cause.ensures ∙ ap (λ (n : Named). cause_of new.device.journal n answer) named))
    (c.put_changes.ensures.entries old same all))

pub returns-clause-rows : goal.returns-clause-rows
returns-clause-rows g c = c.put_changes.ensures.rows
