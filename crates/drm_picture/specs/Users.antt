-- Users: which entities have jobs that declare a buffer, among which the jobs are that one at the buffer comes after.
use Rattle.std.specs.Prelude.{◌≡◌, ℕ, Bool, true, false, ◌==◌, List, Some, None, Option, slice_get}
use Rattle.std.specs.List.{All, list_all, list_any}
use Rattle.std.specs.Option.{option_map_or}
use Rattle.drm_types.specs.declared.access.Access.{Access}
use Rattle.drm_picture.specs.Lasts.{any_of, is_listed, unseen}
use Rattle.drm_picture.specs.Waits.{earlier_job, job_of}
use Rattle.drm_picture.specs.declared.bars.Bar.{Bar}
use Rattle.drm_picture.specs.declared.command.Request.{Request}
use Rattle.drm_picture.specs.declared.command.Step.{Step}
use Rattle.drm_picture.specs.declared.users.BufferUsers.{BufferUsers}
use Rattle.drm_picture.specs.declared.waits.Earlier.{Earlier}

-- the job declares this buffer
abbrev pub declares : ℕ → Option Request → Bool
declares buffer job = option_map_or (λ request. list_any (λ d. d.0 == buffer) request.declared) job false

-- the entity of each job that declares the buffer is one of these
abbrev pub AreUsersOf : List Step → ℕ → List ℕ → List Bar → Type 0
AreUsersOf run buffer entities fences = All (λ bar. declares buffer (job_of run bar) ≡ true → is_listed entities (job_of run bar) ≡ true) fences

-- so of each buffer that is listed
abbrev pub AreUsers : List Step → List BufferUsers → List Bar → Type 0
AreUsers run users fences = (buffer : ℕ) (of : BufferUsers) → slice_get users buffer ≡ Some of → AreUsersOf run buffer of.entities.items fences

-- the users of a buffer, or all entities where they are not listed
abbrev pub users_at : List BufferUsers → List ℕ → ℕ → List ℕ
users_at users entities buffer = option_map_or (λ of. of.entities.items) (slice_get users buffer) entities

-- each of these entities has one of the jobs
abbrev pub have_all : List Earlier → List ℕ → Bool
have_all jobs entities = list_all (λ entity. any_of entity jobs) entities

-- each entity has one of these jobs whose jobs a job that declares these may come after
abbrev pub have_users : List BufferUsers → List ℕ → List Earlier → List (ℕ × Access) → Bool
have_users users entities jobs declared = list_all (λ d. have_all jobs (users_at users entities d.0)) declared

-- none of these fences is of a job of another entity that the later one comes after
abbrev pub AreSettled : List Step → Request → List Earlier → List Bar → Type 0
AreSettled run later jobs fences = All (λ bar. unseen jobs (earlier_job later bar.opening.number (job_of run bar)) ≡ None) fences
