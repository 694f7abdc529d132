-- A number between words, placed one behind the other.
use Rattle.std.proofs.Common.{◌≡◌, ℕ, List, ◌++◌, ap, ◌∙◌, append_assoc}
use Rattle.std.specs.Fmt.{decimal}
use Rattle.drm_stream.specs.Streams.{SinkState}
use Rattle.drm_engine.specs.Replaying.{ToldSoFar}
use Rattle.drm_engine.proofs.Placings.{told_placed}

-- words, a number and words behind it, where there was room for them
pub told_counted : (a b : SinkState) (text piece c d e words behind : List ℕ) (n : ℕ) → ToldSoFar a b text piece → c ≡ piece ++ words → d ≡ c ++ decimal n → e ≡ d ++ behind
    → ToldSoFar a b (text ++ (words ++ (decimal n ++ behind))) e
told_counted a b text piece c d e words behind n told first second third =
    let whole : e ≡ piece ++ (words ++ (decimal n ++ behind)) =
    third ∙ ap (λ (t : List ℕ). t ++ behind) (second ∙ ap (λ (t : List ℕ). t ++ decimal n) first) ∙ append_assoc (piece ++ words) (decimal n) behind ∙ append_assoc piece words (decimal n ++ behind) in
    told_placed a b text piece (words ++ (decimal n ++ behind)) e told whole
