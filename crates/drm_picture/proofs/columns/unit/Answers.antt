use Rattle.std.proofs.Common.{◌≡◌, ◌∙◌, ◌≤◌, ◌*◌, ◌/◌, ◌^◌, ℕ, ap, length, arith}
use Rattle.std.specs.Prelude.{max}
use Rattle.drm_picture.specs.Columns.{duration}
use Rattle.drm_picture.proofs.Moments.{passed_in, unit_small}
use Rattle.drm_picture.proofs.columns.unit.Goals as goal

pub overflow_add-result : goal.overflow_add-result
overflow_add-result c =
    let commands = c.args.commands.now in
    let passed : c.duration.result ≡ duration commands = passed_in commands c.period_of.result c.duration.result c.period_of.ensures c.duration.ensures in
    let short : duration commands ≤ 2 * 2 ^ 63 = omega (arith, passed, c.duration.type_inv) in
    let wide : c.max.result ≡ max 1 (length commands) = omega (arith, c.max.ensures) in
    let same : c.duration.result / c.max.result ≡ duration commands / max 1 (length commands) =
    ap (λ (n : ℕ). n / c.max.result) passed ∙ ap (λ (n : ℕ). duration commands / n) wide in
    omega (arith, same, unit_small commands (2 ^ 63) short)
