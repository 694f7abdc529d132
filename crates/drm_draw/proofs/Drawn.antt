-- What is drawn of a script.
use Rattle.std.proofs.Common.{◌≡◌, ◌<◌, ℕ, List, Ok, Option, Some, None, length, refl, subst}
use Rattle.std.specs.Prelude.{IfSome}
use Rattle.std.specs.Io.KnownBytes.{Keeps}
use Rattle.drm_state.specs.declared.answer.Answer.{Answer}
use Rattle.drm_picture.specs.declared.columns.Axis.{Axis}
use Rattle.drm_picture.specs.declared.command.Step.{Step}
use Rattle.drm_picture.specs.declared.picture.Shape.{Shape}
use Rattle.drm_script.specs.declared.script.Script.{Script}
use Rattle.drm_script.specs.Script.{judge_script}
use Rattle.drm_engine.specs.declared.ending.Ending.{Ending}
use Rattle.drm_engine.specs.declared.ending.Ending.TheVariants as ending
use Rattle.drm_engine.specs.Replaying.{AreAnswers}
use Rattle.drm_picture.specs.Pictures.{part_of}
use Rattle.drm_draw.specs.Drawing.{AreSteps, Draws, DrawsScript, IsDrawn, IsDrawnOf, IsTooLong, limits_of, shape_of}

-- the steps of a script
abbrev pub StepsOf : Script → List Step → Type 0
StepsOf script steps = (answers : List Answer) × AreAnswers script answers × AreSteps script.lines answers steps

-- a part of them that was drawn is drawn of the script
pub drawn_of : (script : Script) (axis : Axis) (from to : ℕ) (steps items : List Step) (shape : Shape) (limits : List ℕ) (text : List ℕ) → StepsOf script steps → shape ≡ shape_of script.spec
    → limits ≡ limits_of script.spec → items ≡ steps → IsDrawn shape limits axis from to items text → IsDrawnOf script axis from to text
drawn_of script axis from to steps items shape limits text of lanes bounds kept drawn =
    let whole : IsDrawn shape limits axis from to steps text = subst (λ (ss : List Step). IsDrawn shape limits axis from to ss text) kept drawn in
    (of.0, steps, of.1, of.2, subst (λ (s : Shape). IsDrawn s (limits_of script.spec) axis from to steps text) lanes (subst (λ (l : List ℕ). IsDrawn shape l axis from to steps text) bounds whole))

-- a part of them that is too long
pub too_long : (script : Script) (from to : ℕ) (steps items part : List Step) → StepsOf script steps → items ≡ steps → part ≡ part_of from to items → 5000 < length part → IsTooLong script from to
too_long script from to steps items part of kept cut long =
    (of.0, steps, of.1, of.2, subst (λ (ss : List Step). 5000 < length (part_of from to ss)) kept (subst (λ (ss : List Step). 5000 < length ss) cut long))

-- what is not written to keeps what it holds
pub untouched : (bytes : Option (List ℕ)) → Keeps bytes bytes
untouched None = tt
untouched (Some bytes) = refl

-- what an ending says of a script, it says of the input that spells it
pub draws_spelled : (script : Script) (axis : Axis) (from to : ℕ) (input old new : Option (List ℕ)) (ended : Ending) → IfSome input (λ text. judge_script text ≡ Ok script)
    → DrawsScript script axis from to old new ended → Draws axis from to input old new ended
draws_spelled script axis from to input old new ending.Done spelled drawn = (script, spelled, drawn)
draws_spelled script axis from to input old new ending.Differs spelled never = absurd never
draws_spelled script axis from to input old new (ending.GaveUp worker turns) spelled never = absurd never
draws_spelled script axis from to input old new ending.NoThread spelled never = absurd never
draws_spelled script axis from to input old new (ending.Fault fault) spelled never = absurd never
draws_spelled script axis from to input old new ending.TooMany spelled drawn = (script, spelled, drawn)
draws_spelled script axis from to input old new ending.NoCount spelled never = absurd never
draws_spelled script axis from to input old new ending.Stuck spelled never = absurd never
draws_spelled script axis from to input old new ending.MoreStates spelled never = absurd never
draws_spelled script axis from to input old new ending.NoStates spelled never = absurd never
draws_spelled script axis from to input old new (ending.Unexplained word) spelled never = absurd never
draws_spelled script axis from to input old new ending.NoMemory spelled kept = kept
draws_spelled script axis from to input old new ending.NoInput spelled never = absurd never
draws_spelled script axis from to input old new ending.NoOutput spelled drawn = (script, spelled, drawn)
