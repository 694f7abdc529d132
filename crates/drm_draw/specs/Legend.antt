-- The legend of a picture: a key for each thing that occurs in it, and for nothing else.
use Rattle.std.specs.Prelude.{ℕ, zero, suc, Bool, true, false, ◌==◌, ◌||◌, List, [], ◌∷◌, ◌++◌, filter, length, nat_lt}
use Rattle.std.specs.List.{list_any}
use Rattle.std.specs.Option.{option_map_or}
use Rattle.drm_picture.specs.declared.bars.Bar.{Bar}
use Rattle.drm_picture.specs.declared.bars.Look.{Look}
use Rattle.drm_picture.specs.declared.bars.Look.TheVariants as look
use Rattle.drm_picture.specs.declared.marks.Sign.{Sign}
use Rattle.drm_picture.specs.declared.marks.Sign.TheVariants as sign
use Rattle.drm_picture.specs.declared.picture.Picture.{Picture}
use Rattle.drm_svg.specs.Ends.{is_marked}
use Rattle.drm_svg.specs.Owners.{job_of}
use Rattle.drm_draw.specs.declared.legend.Key.{Key}
use Rattle.drm_draw.specs.declared.legend.Key.TheVariants as key

-- the keys of the entities below this number
abbrev pub entity_keys : ℕ → List Key
entity_keys zero = []
entity_keys (suc n) = entity_keys n ++ key.Entity n ∷ []

-- the keys of outcomes, of entities that were stopped, and of lines
abbrev pub look_keys : List Key
look_keys = key.Outcome look.Good ∷ key.Outcome look.Cancelled ∷ key.Outcome look.Stopped ∷ key.Outcome look.Open ∷ key.Skipped
    ∷ key.Halt look.Guilty ∷ key.Halt look.Stopped ∷ key.Lock ∷ key.Waiting ∷ key.Wait ∷ key.Credits ∷ key.End ∷ []

-- the keys of marks
abbrev pub sign_keys : List Key
sign_keys = key.Sign sign.Ran ∷ key.Sign sign.Stalled ∷ key.Sign sign.Hang ∷ key.Sign sign.Guilty ∷ key.Sign sign.Refused
    ∷ key.Sign sign.Given ∷ key.Sign sign.Contended ∷ key.Sign sign.Granted ∷ key.Sign sign.Planned ∷ []

-- all keys of a device with so many entities, in their order
abbrev pub all_keys : ℕ → List Key
all_keys entities = entity_keys entities ++ look_keys ++ sign_keys

abbrev pub same_look : Look → Look → Bool
same_look look.Open look.Open = true
same_look look.Ended look.Ended = true
same_look look.Good look.Good = true
same_look look.Cancelled look.Cancelled = true
same_look look.Stopped look.Stopped = true
same_look look.Guilty look.Guilty = true
same_look _ _ = false

abbrev pub same_sign : Sign → Sign → Bool
same_sign sign.Ran sign.Ran = true
same_sign sign.Stalled sign.Stalled = true
same_sign sign.Hang sign.Hang = true
same_sign sign.Guilty sign.Guilty = true
same_sign sign.Refused sign.Refused = true
same_sign sign.Given sign.Given = true
same_sign sign.Contended sign.Contended = true
same_sign sign.Granted sign.Granted = true
same_sign sign.Planned sign.Planned = true
same_sign _ _ = false

-- the bar is of a job of the entity
abbrev pub is_of : Picture → ℕ → Bar → Bool
is_of picture entity bar = option_map_or (λ job. job.entity == entity) (job_of picture bar) false

-- one of these bars is
abbrev pub any_of : Picture → ℕ → List Bar → Bool
any_of picture entity bars = list_any (is_of picture entity) bars

-- one of these bars looks so
abbrev pub any_looks : Look → List Bar → Bool
any_looks look bars = list_any (λ bar. same_look bar.look look) bars

-- a bar of a job of the entity is in the picture
abbrev pub has_entity : Picture → ℕ → Bool
has_entity picture entity =
    any_of picture entity picture.jobs.items || any_of picture entity picture.queued.items
    || any_of picture entity picture.waiting.items || any_of picture entity picture.fences.items

-- a bar that looks so is in the picture, other than one of an entity that was stopped
abbrev pub has_look : Picture → Look → Bool
has_look picture look =
    any_looks look picture.jobs.items || any_looks look picture.queued.items || any_looks look picture.locks.items
    || any_looks look picture.waiting.items || any_looks look picture.fences.items

abbrev pub is_any : {X : Type 0} → List X → Bool
is_any xs = nat_lt 0 (length xs)

-- what the key explains is in the picture
abbrev pub occurs : Picture → Key → Bool
occurs picture (key.Entity entity) = has_entity picture entity
occurs picture (key.Outcome look) = has_look picture look
occurs picture key.Skipped = list_any (λ bar. bar.opening.skipped) picture.jobs.items
occurs picture (key.Halt look) = any_looks look picture.stopped.items
occurs picture key.Lock = is_any picture.locks.items
occurs picture key.Waiting = is_any picture.waiting.items
occurs picture key.Wait = is_any picture.waits.items
occurs picture key.Credits = is_any picture.jobs.items
occurs picture key.End = is_marked picture
occurs picture (key.Sign sign) = list_any (λ mark. same_sign mark.sign sign) picture.marks.items

-- the legend: of all keys those of what occurs
abbrev pub legend_of : Picture → List Key
legend_of picture = filter (occurs picture) (all_keys picture.shape.entities)
