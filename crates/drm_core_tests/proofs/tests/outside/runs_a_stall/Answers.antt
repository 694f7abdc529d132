use Rattle.std.proofs.Common.{◌∙◌, sym}
use Rattle.drm_core_tests.proofs.ComesBack.{nothing_comes_back}
use Rattle.drm_core_tests.proofs.tests.outside.runs_a_stall.Goals as goal

pub report-requires : goal.report-requires
report-requires c =
    let out = c.in-Ok-Work in record {
      busy =
          nothing_comes_back c.begin_step.new.self 0 _ out.field-0-0 out.field-0-1 out.copy out.write out.read
          out.ensures.back out.field-0-is (sym c.if-is_some.false ∙ c.is_some.ensures);
    }
