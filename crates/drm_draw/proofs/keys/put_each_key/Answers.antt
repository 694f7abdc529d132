use Rattle.std.proofs.Common.{ℕ, arith}
use Rattle.drm_draw.specs.Keys.{key_at}
use Rattle.drm_draw.specs.declared.legend.Key.{Key}
use Rattle.drm_svg.proofs.Places.{told_behind}
use Rattle.drm_draw.proofs.keys.put_each_key.Goals as goal

pub loop-place-preserved : goal.loop-place-preserved
loop-place-preserved c =
    told_behind (λ (p : ℕ × Key). key_at c.args.wide c.args.top p.0 p.1) c.args.keys.now c.loop-place.place _ _ c.loop-place.out.items _ (omega arith) c.loop-place.invariant c.in_ok-put_key_at.ensures
