use Rattle.std.proofs.Common.{◌≡◌, ℕ, ◌==◌, ◌∙◌, cond, take, length, ap, w8, arith}
use Rattle.std.proofs.lemmas.List.{length-take-le}
use Rattle.std.proofs.lemmas.Simd.{bitmask_splat, first_set_mask_l}
use lib.Count.{count_trailing_zeros}
use Rattle.drm_text.proofs.parts.end_in_least_lanes.Goals as goal

pub returns : goal.returns
returns c =
    let lanes = take 4 c.args.bytes.now in
    let all : length lanes ≡ 4 = length-take-le 4 c.args.bytes.now c.requires in
    let mask = bitmask_splat w8 (λ a b. a == b) lanes 4 c.args.separator all (omega arith) in
    c.first_found.ensures ∙ ap (λ (m : ℕ). cond (m == 0) 4 (count_trailing_zeros 64 m)) mask ∙ first_set_mask_l (λ b. b == c.args.separator) lanes 4 all (omega arith)
