-- The picture of a part of a run.
use Rattle.std.specs.Prelude.{◌≡◌, ℕ, List, drop, length, map, take}
use Rattle.drm_picture.specs.Armed.{requests_of}
use Rattle.drm_picture.specs.Bars.{bars_of}
use Rattle.drm_picture.specs.Columns.{column_at, columns_of, scale_of}
use Rattle.drm_picture.specs.Marks.{marks_of}
use Rattle.drm_picture.specs.Waiting.{waiting_of}
use Rattle.drm_picture.specs.Waits.{waits_of}
use Rattle.drm_picture.specs.declared.bars.Kind.TheVariants as kind
use Rattle.drm_picture.specs.declared.columns.Axis.{Axis}
use Rattle.drm_picture.specs.declared.command.Step.{Step}
use Rattle.drm_picture.specs.declared.picture.Picture.{Picture}
use Rattle.drm_picture.specs.declared.picture.Shape.{Shape}

-- the steps of a run from one place to before another
abbrev pub part_of : ℕ → ℕ → List Step → List Step
part_of from to steps = drop from (take to steps)

-- of the part from one place to before another: a column for each command, and its marks and waits; of the run up to
-- the end of the part: the jobs that it arms, and the bars of each kind that last beyond its begin; and the lanes of
-- the device
pub record IsPicture (shape : Shape) (axis : Axis) (from to : ℕ) (steps : List Step) (picture : Picture) : Type 0 where
  pub lanes : picture.shape ≡ shape
  pub first : picture.first ≡ from
  pub total : picture.total ≡ length steps
  pub columns : picture.columns.items ≡ map (λ step. step.command) (part_of from to steps)
  pub scale : picture.scale ≡ scale_of axis picture.columns.items
  pub lefts : picture.lefts.items ≡ columns_of picture.scale picture.columns.items
  pub width : picture.width ≡ column_at picture.scale picture.columns.items (length picture.columns.items)
  pub armed : picture.armed.items ≡ requests_of (take to steps)
  pub jobs : picture.jobs.items ≡ bars_of kind.Job from (take to steps)
  pub queued : picture.queued.items ≡ bars_of kind.Queued from (take to steps)
  pub stopped : picture.stopped.items ≡ bars_of kind.Stopped from (take to steps)
  pub locks : picture.locks.items ≡ bars_of kind.Lock from (take to steps)
  pub waiting : picture.waiting.items ≡ waiting_of from (take to steps)
  pub fences : picture.fences.items ≡ bars_of kind.Fence from (take to steps)
  pub marks : picture.marks.items ≡ marks_of from (take to steps)
  pub waits : picture.waits.items ≡ waits_of from (take to steps)
