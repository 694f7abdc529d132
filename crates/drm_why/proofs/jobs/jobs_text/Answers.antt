use Rattle.std.proofs.Common.{◌++◌, ◌∙◌, ap, arith}
use Rattle.std.specs.Prelude.{flat_map}
use Rattle.drm_state.specs.Journal.{numbered}
use Rattle.drm_why.specs.Chains.{link_of}
use Rattle.drm_why.specs.Lines.{line_of_link}
use Rattle.drm_why.specs.declared.chain.Link.{Link}
use Rattle.drm_why.proofs.Numbered.{line_more, lines_end}
use Rattle.drm_why.proofs.jobs.jobs_text.Goals as goal

pub loop-number-preserved : goal.loop-number-preserved
loop-number-preserved c =
    let d = c.args.device.now.state in
    let i = c.loop-number.number in
    let out = c.loop-number.out.items in
    line_more (λ n. line_of_link (link_of d n)) d.journal i out c.put_link.new.out.items
    (flat_map (λ n. line_of_link (link_of d n.0)) (numbered d.journal))
    (omega (arith, c.loop-number-test.true, c.armed-number-end.ensures))
    (c.in_ok-put_link.ensures ∙ ap (λ (l : Link). out ++ line_of_link l) c.linked.ensures)
    c.loop-number.invariant

pub returns : goal.returns
returns c =
    let d = c.args.device.now.state in
    lines_end (λ n. line_of_link (link_of d n)) d.journal c.loop-number.number c.loop-number.out.items
    (flat_map (λ n. line_of_link (link_of d n.0)) (numbered d.journal))
    (omega (arith, c.loop-number-test.false, c.armed-number-end.ensures))
    c.loop-number.invariant
