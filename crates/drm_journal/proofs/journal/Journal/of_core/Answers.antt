use Rattle.std.proofs.Common.{◌≡◌, None, length, map, ap, ◌∙◌, sym, subst}
use Rattle.drm_types.specs.Limits.{spec_fault}
use Rattle.drm_types.specs.declared.spec.DeviceSpec.{DeviceSpec}
use Rattle.drm_buffer.specs.Stored.{AreIn}
use Rattle.drm_journal.proofs.CoreJournal.{core_leaves, core_bytes, core_told, then_checks}
use Rattle.drm_journal.proofs.journal.Journal.of_core.Goals as goal

pub of_records-requires-clause-limits : goal.of_records-requires-clause-limits
of_records-requires-clause-limits c = subst (λ (s : DeviceSpec). spec_fault s ≡ None) (sym c.close-spec.ensures.left.0) c.close-spec.ensures.limits

pub of_records-requires-clause-left : goal.of_records-requires-clause-left
of_records-requires-clause-left c =
    let left = c.close-spec.ensures.left in
    core_leaves c.args.core c.close-spec.result.spec c.close-spec.result.records left.0 left.1 c.close-spec.ensures.promises

pub of_records-requires-clause-sizes : goal.of_records-requires-clause-sizes
of_records-requires-clause-sizes c =
    let left = c.close-spec.ensures.left in
    ap (map length) left.2 ∙ c.close-spec.ensures.sizes ∙ ap (λ (s : DeviceSpec). map length s.buffers) (sym left.0)

pub of_records-requires-clause-inside : goal.of_records-requires-clause-inside
of_records-requires-clause-inside c =
    subst (λ (s : DeviceSpec). AreIn (length s.buffers) c.close-spec.result.buffers.out) (sym c.close-spec.ensures.left.0) c.close-spec.ensures.inside

pub returns-clause-value : goal.returns-clause-value
returns-clause-value c =
    let left = c.close-spec.ensures.left in
    core_told c.args.core c.close-spec.result.spec c.close-spec.result.records c.close-spec.result.buffers.bytes c.of_records.result left.0 left.1 left.2 c.of_records.ensures.value

pub returns-clause-same : goal.returns-clause-same
returns-clause-same c =
    let left = c.close-spec.ensures.left in
    then_checks c.of_records.result c.of_records.ensures.same
    (core_bytes c.args.core c.close-spec.result.spec c.close-spec.result.records c.close-spec.result.buffers.bytes left.0 left.1 left.2 c.close-spec.ensures.promises)
