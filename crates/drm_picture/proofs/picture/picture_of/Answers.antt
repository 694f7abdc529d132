use Rattle.std.proofs.Common.{◌∙◌, ℕ, List, ap, length, map, refl, subst, sym}
use Rattle.std.specs.List.{All}
use Rattle.drm_core.specs.declared.event.Event.{Event}
use Rattle.drm_picture.specs.Armed.{requests_of}
use Rattle.drm_picture.specs.Bars.{bars_of}
use Rattle.drm_picture.specs.Columns.{column_at, columns_of, scale_of}
use Rattle.drm_picture.specs.Latest.{EndsIn}
use Rattle.drm_picture.specs.Marks.{marks_of}
use Rattle.drm_picture.specs.Waiting.{waiting_of}
use Rattle.drm_picture.specs.Waits.{waits_of}
use Rattle.drm_picture.specs.declared.bars.Kind.TheVariants as kind
use Rattle.drm_picture.specs.declared.command.Step.{Step}
use Rattle.drm_picture.proofs.Fences.{fences-end}
use Rattle.drm_picture.proofs.picture.picture_of.Goals as goal

pub reaches-requires : goal.reaches-requires
reaches-requires c = subst (All (EndsIn c.run_before-run.result.now)) (sym (c.deref-4.ensures.value ∙ c.in_ok-fences.ensures)) (fences-end c.args.from c.run_before-run.result.now)

pub returns-clause-drawn : goal.returns-clause-drawn
returns-clause-drawn c =
    let run = c.run_before-run.ensures in
    let from = c.args.from in
    record {
      lanes = refl;
      first = refl;
      total = refl;
      columns = c.in_ok-commands.ensures ∙ ap (map (λ (step : Step). step.command)) c.part.ensures;
      scale = c.scale_for-scale.ensures ∙ ap (scale_of c.args.axis) c.deref.ensures.value;
      lefts = c.in_ok-lefts.ensures ∙ ap (columns_of c.scale_for-scale.result) c.deref-2.ensures.value;
      width = c.width-width.ensures.value ∙ ap (λ (commands : List (Event ℕ)). column_at c.scale_for-scale.result commands (length commands)) c.deref-3.ensures.value;
      armed = c.in_ok-requests.ensures ∙ ap requests_of run;
      jobs = c.in_ok-bars.ensures ∙ ap (bars_of kind.Job from) run;
      queued = c.in_ok-bars-2.ensures ∙ ap (bars_of kind.Queued from) run;
      stopped = c.in_ok-bars-3.ensures ∙ ap (bars_of kind.Stopped from) run;
      locks = c.in_ok-bars-4.ensures ∙ ap (bars_of kind.Lock from) run;
      waiting = c.in_ok-waiting.ensures ∙ ap (waiting_of from) run;
      fences = c.in_ok-fences.ensures ∙ ap (bars_of kind.Fence from) run;
      marks = c.in_ok-marks.ensures ∙ ap (marks_of from) run;
      waits = c.in_ok-waits.ensures ∙ ap (waits_of from) run;
    }
