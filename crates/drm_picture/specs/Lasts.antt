-- Lasts: the last job of each entity, found from the end on.
use Rattle.std.specs.Prelude.{ℕ, Bool, true, List, Option, Some, None, ◌==◌, option_and_then, if◌then◌else◌}
use Rattle.std.specs.List.{list_any}
use Rattle.std.specs.Option.{option_map_or}
use Rattle.drm_picture.specs.declared.command.Request.{Request}
use Rattle.drm_picture.specs.declared.waits.Earlier.{Earlier}

-- one of these jobs is of the entity
abbrev pub any_of : ℕ → List Earlier → Bool
any_of entity jobs = list_any (λ other. other.entity == entity) jobs

-- the job, if there is one and none of these is of its entity
abbrev pub unseen : List Earlier → Option Earlier → Option Earlier
unseen jobs found = option_and_then (λ job. if any_of job.entity jobs then None else Some job) found

-- the entity of the job, if there is one, is one of these
abbrev pub is_listed : List ℕ → Option Request → Bool
is_listed entities job = option_map_or (λ request. list_any (λ entity. entity == request.entity) entities) job true
