use Rattle.std.proofs.Common.{◌≡◌, ap, ◌∙◌, rules}
use Rattle.drm_buffer.specs.Memory.{sizes_of}
use Rattle.drm_packet.specs.Effect.{effect}
use Rattle.drm_packet.proofs.Sizes.{sizes-effect}
use Rattle.drm_packet.proofs.Packet.run.Goals as goal

pub returns-in-Fill-clause-sizes : goal.returns-in-Fill-clause-sizes
returns-in-Fill-clause-sizes c =
    let ran : c.fill.new.self ≡ effect c.args.self.now c.args.memory.now = search rules in
    ap sizes_of ran ∙ sizes-effect c.args.self.now c.args.memory.now c.requires

pub returns-in-Copy-clause-sizes : goal.returns-in-Copy-clause-sizes
returns-in-Copy-clause-sizes c =
    let ran : c.copy.new.self ≡ effect c.args.self.now c.args.memory.now = search rules in
    ap sizes_of ran ∙ sizes-effect c.args.self.now c.args.memory.now c.requires

pub returns-in-Add-clause-sizes : goal.returns-in-Add-clause-sizes
returns-in-Add-clause-sizes c =
    let ran : c.add.new.self ≡ effect c.args.self.now c.args.memory.now = search rules in
    ap sizes_of ran ∙ sizes-effect c.args.self.now c.args.memory.now c.requires
