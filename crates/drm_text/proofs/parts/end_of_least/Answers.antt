use Rattle.std.proofs.Common.{◌≡◌, ℕ, ◌-◌, ◌+◌, ◌==◌, ◌∙◌, take, drop, length, ap, arith}
use Rattle.std.specs.List.{position_or_len}
use Rattle.std.proofs.lemmas.List.{take_all, length-drop}
use Rattle.drm_text.proofs.Cuts.{behind_front, none_in_front}
use Rattle.drm_text.proofs.parts.end_of_least.Goals as goal

pub returns : goal.returns
returns c =
    let p = λ (b : ℕ). b == c.args.separator in
    let bytes = c.args.bytes.now in
    let from = length bytes - 4 in
    let behind = none_in_front p 4 bytes (omega arith) (omega arith) in
    let all : take 4 (drop from bytes) ≡ drop from bytes = take_all 4 (drop from bytes) (omega (arith, length-drop from bytes)) in
    ap (λ n. from + n) (c.end_in_least_lanes.ensures ∙ ap (λ xs. position_or_len p (take 4 xs)) c.split_at.ensures.back ∙ ap (position_or_len p) all)
    ∙ behind_front p from bytes (omega arith) (omega (arith, behind))
