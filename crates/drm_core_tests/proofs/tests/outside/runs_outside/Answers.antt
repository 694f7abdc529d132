use Rattle.std.proofs.Common.{◌∙◌, Some, sym, ap, subst}
use Rattle.std.specs.Prelude.{option_map}
use Rattle.drm_packet.specs.Parts.{part_effect}
use Rattle.drm_sched.specs.Begun.{IsReport, MayComeBack}
use Rattle.drm_core_tests.proofs.tests.outside.runs_outside.Goals as goal

pub report-requires : goal.report-requires
report-requires c =
    let out = c.in-Ok-Work in
    let both = c.in-Some-Some in
    let back = subst (MayComeBack c.begin_step.new.self 0) out.field-0-is out.ensures.back in
    let written =
    ap (option_map (λ bytes. part_effect out.copy bytes out.read)) both.is-0
    ∙ (ap (λ r. Some (part_effect out.copy both.write r)) both.is-1 ∙ ap (λ l. Some l) (sym c.run_parts.ensures)) in record {
      busy =
          subst (λ r. IsReport c.begin_step.new.self 0 (Some c.run_parts.new.write) r) both.is-1
          (subst (λ w. IsReport c.begin_step.new.self 0 w out.read) written back);
    }
