use Rattle.std.proofs.Common.{◌≡◌, ◌++◌, drop, flat_map}
use Rattle.drm_why.specs.Lines.{line_of_link}
use Rattle.drm_why.proofs.lines.put_links.Given as goal

abbrev pub invariant-loop-link : goal.invariant-loop-link
invariant-loop-link l = l.out.items ++ flat_map line_of_link (drop l.link-index l.links) ≡ l.fn.out.items ++ flat_map line_of_link l.links
