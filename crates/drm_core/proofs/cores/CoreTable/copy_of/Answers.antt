use Rattle.std.proofs.Common.{rules, ◌≡◌, ◌∙◌, ◌<◌, length, ap, subst, sym}
use Rattle.std.proofs.lemmas.List.{length-map}
use Rattle.drm_core.proofs.CoreFacts.{no_buffer_out}
use Rattle.drm_core.proofs.cores.CoreTable.copy_of.Goals as goal

pub bytes-requires-clause-there : goal.bytes-requires-clause-there
bytes-requires-clause-there c =
    let d = c.args.self.now.device.state in
    let same : length d.memory ≡ length d.spec.buffers = sym (length-map d.memory length) ∙ (ap length c.facts.ensures.sizes ∙ length-map d.spec.buffers length) in
    subst (λ n. c.args.buffer < n) (sym same) c.requires.buffer

pub bytes-requires-clause-inside : goal.bytes-requires-clause-inside
bytes-requires-clause-inside c = no_buffer_out c.args.self.now.device c.args.buffer c.requires.core.inside

pub returns-in-Ok : goal.returns-in-Ok
returns-in-Ok c = search rules
