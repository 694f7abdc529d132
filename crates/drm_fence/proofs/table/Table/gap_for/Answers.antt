use Rattle.std.proofs.Common.{◌≡◌, ◌+◌, length, sym, ap, ◌∙◌, arith}
use Rattle.drm_fence.specs.Linked.{before_of}
use Rattle.drm_fence.proofs.Linking.{links_at, last_in, behind_last}
use Rattle.drm_fence.proofs.table.Table.gap_for.Goals as goal

pub returns-else-pair-clause-inside : goal.returns-else-pair-clause-inside
returns-else-pair-clause-inside c =
    let cells = c.args.self.now.cells.items in
    let links = c.args.self.now.links.items in
    let place : c.len.result + c.args.pair.fence ≡ length cells + c.args.pair.fence = omega (arith, c.len.ensures) in
    let is = links_at links (c.len.result + c.args.pair.fence) c.index-links.result.now (omega (arith, place, c.requires.fence)) c.index-links.ensures in
    let last : before_of links (length cells + c.args.pair.fence) ≡ c.index-links.result.now.before = sym (ap (before_of links) place) ∙ is.0 in
    last_in _ _ _ c.args.pair.fence c.index-links.result.now.before c.requires.linked c.requires.fence last

pub returns-else-pair-clause-neighbours : goal.returns-else-pair-clause-neighbours
returns-else-pair-clause-neighbours c =
    let cells = c.args.self.now.cells.items in
    let links = c.args.self.now.links.items in
    let place : c.len.result + c.args.pair.fence ≡ length cells + c.args.pair.fence = omega (arith, c.len.ensures) in
    let is = links_at links (c.len.result + c.args.pair.fence) c.index-links.result.now (omega (arith, place, c.requires.fence)) c.index-links.ensures in
    let last : before_of links (length cells + c.args.pair.fence) ≡ c.index-links.result.now.before = sym (ap (before_of links) place) ∙ is.0 in
    behind_last _ _ _ c.args.pair.fence c.index-links.result.now.before c.len-end.result c.requires.linked c.requires.fence last (omega (arith, c.len-end.ensures))
