-- Of which job a bar is, and whose it is.
use Rattle.std.specs.Prelude.{ℕ, List, [], ◌++◌, Option, Some, None, codes, decimal, flat_map, slice_get}
use Rattle.drm_types.specs.declared.access.Access.{Access}
use Rattle.drm_types.specs.declared.access.Access.TheVariants as access
use Rattle.drm_picture.specs.declared.bars.Bar.{Bar}
use Rattle.drm_picture.specs.declared.bars.Kind.{Kind}
use Rattle.drm_picture.specs.declared.bars.Kind.TheVariants as kind
use Rattle.drm_picture.specs.declared.command.Request.{Request}
use Rattle.drm_picture.specs.declared.picture.Picture.{Picture}

-- the job of a bar of this kind with this number: a lock and an entity that is stopped are of none
abbrev pub job_with : Picture → Kind → ℕ → Option Request
job_with picture kind.Stopped number = None
job_with picture kind.Lock number = None
job_with picture _ fence = slice_get picture.armed.items fence

abbrev pub job_of : Picture → Bar → Option Request
job_of picture bar = job_with picture bar.kind bar.opening.number

-- what a job does with a buffer that it declares
abbrev pub verb_of : Access → List ℕ
verb_of access.Read = codes ", reads "
verb_of access.Write = codes ", writes "
verb_of access.Hold = codes ", holds "
verb_of access.Move = codes ", moves "

-- the same by a letter
abbrev pub letter_of : Access → List ℕ
letter_of access.Read = codes " r:"
letter_of access.Write = codes " w:"
letter_of access.Hold = codes " h:"
letter_of access.Move = codes " m:"

-- each buffer that a job declares, with what it does with it
abbrev pub uses_text : Option Request → List ℕ
uses_text (Some job) = flat_map (λ d. verb_of d.1 ++ decimal d.0) job.declared
uses_text None = []

-- the same by letters, but of a fence, on whose bar the lines of waits end
abbrev pub letters_text : Kind → Option Request → List ℕ
letters_text kind.Fence job = []
letters_text _ (Some job) = flat_map (λ d. letter_of d.1 ++ decimal d.0) job.declared
letters_text _ None = []
