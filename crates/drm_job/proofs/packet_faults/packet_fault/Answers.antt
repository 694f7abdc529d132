use Rattle.std.proofs.Common.{◌∙◌, rules}
use Rattle.drm_job.proofs.PacketUses.{looked_up, ranges_of, fill_fault, copy_fault, add_fault}
use Rattle.drm_job.proofs.packet_faults.packet_fault.Goals as goal

pub returns-in-Fill : goal.returns-in-Fill
returns-in-Fill c spec job buffers same =
    let fill = c.in-Fill in
    let o = looked_up job c.args.declared.now fill.buffer _ same c.declared_as.ensures in
    let r = ranges_of spec c.args.buffers.now c.args.packet.now _ buffers c.lies_within.ensures in
    c.write_fault.ensures ∙ fill_fault spec job c.args.place c.args.packet.now fill.buffer fill.offset fill.len fill.byte _ _ o r fill.is

pub returns-in-Copy : goal.returns-in-Copy
returns-in-Copy c spec job buffers same =
    let s = looked_up job c.args.declared.now _ _ same c.declared_as-in-Copy.ensures in
    let t = looked_up job c.args.declared.now _ _ same c.declared_as-in-Copy-2.ensures in
    let r = ranges_of spec c.args.buffers.now c.args.packet.now _ buffers c.lies_within-in-Copy.ensures in
    c.copy_fault.ensures ∙ search (rules, copy_fault, add_fault)
