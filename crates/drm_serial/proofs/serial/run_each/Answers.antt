use Rattle.std.proofs.Common.{sym, subst, ◌∙◌}
use Rattle.std.specs.Prelude.{IsTrue}
use Rattle.drm_packet.specs.Touches.{is_in_range}
use Rattle.drm_packet.proofs.Sizes.{in_range_by_sizes}
use Rattle.drm_serial.proofs.serial.run_each.Goals as goal

pub run-requires : goal.run-requires
run-requires c =
    in_range_by_sizes c.packet-item.result c.loop-packet.memory c.args.memory.now c.loop-packet.invariant.1
    ∙ subst (λ p. IsTrue (is_in_range p c.args.memory.now)) (sym c.packet-item.is)
    (c.requires c.loop-packet.packet-index c.packet-item.result c.loop-packet-test.true)
