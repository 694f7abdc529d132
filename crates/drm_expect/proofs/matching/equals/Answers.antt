use Rattle.std.proofs.Common.{◌≡◌, ◌∷◌, ◌++◌, [], rules}
use Rattle.std.proofs.lemmas.Bool.Decides.{Decides-eqb}
use Rattle.std.proofs.lemmas.Slice.Eq.{slice_eq-Decides}
use Rattle.drm_expect.proofs.Matched.{decides_line}
use Rattle.drm_expect.proofs.matching.equals.Goals as goal

pub returns : goal.returns
returns c =
    let is : c.args.line.now ≡ c.in-Some.front.now ++ c.in-Some.last.now ∷ [] = search rules in
    let ten : c.in-Some.last.now ≡ 10 = search rules in
    decides_line c.args.wanted.now c.args.line.now c.in-Some.front.now c.in-Some.last.now c.eq.result c.requires is ten (slice_eq-Decides Decides-eqb _ _ _ c.eq.ensures)
