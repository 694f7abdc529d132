use Rattle.std.proofs.Common.{◌∙◌, ap, map, rules, subst}
use Rattle.std.specs.String.{string_bytes}
use Rattle.drm_command_line.specs.declared.request.Request.{Request}
use Rattle.drm_command_line.specs.declared.request.Request.TheVariants.{ReplayWithWords, Run}
use Rattle.drmsim.specs.Statuses.{EndsAs, status_of_error}
use Rattle.drmsim.proofs.Statuses.{ends_without_memory, may_happen, memory_alone}
use Rattle.drmsim.proofs.obey.Goals as goal

pub fulfil-outcome-requires : goal.fulfil-outcome-requires
fulfil-outcome-requires g c = (search rules, may_happen (map string_bytes c.args.words.now) c.in-Ok.request c.in-Ok.ensures.named)

pub returns-in-Ok-clause-commands : goal.returns-in-Ok-clause-commands
returns-in-Ok-clause-commands g c = λ engine line.
    subst (λ (asked : Request). EndsAs asked c.args.reader.now c.fulfil-outcome.new.reader c.args.writer.now c.fulfil-outcome.new.writer c.tell.result.status) (c.in-Ok.ensures.command engine line)
    (c.fulfil-outcome.result, c.fulfil-outcome.ensures.outcome, c.fulfil-outcome.ensures.failures, c.tell.ensures)

pub returns-in-Ok-clause-worded : goal.returns-in-Ok-clause-worded
returns-in-Ok-clause-worded g c = λ line.
    subst (λ (asked : Request). EndsAs asked c.args.reader.now c.fulfil-outcome.new.reader c.args.writer.now c.fulfil-outcome.new.writer c.tell.result.status) (c.in-Ok.ensures.worded line)
    (c.fulfil-outcome.result, c.fulfil-outcome.ensures.outcome, c.fulfil-outcome.ensures.failures, c.tell.ensures)

pub returns-in-Ok-clause-accepted : goal.returns-in-Ok-clause-accepted
returns-in-Ok-clause-accepted g c = λ passed.
    (c.in-Ok.request, c.in-Ok.ensures.named, (c.fulfil-outcome.result, c.fulfil-outcome.ensures.outcome, c.fulfil-outcome.ensures.failures, c.tell.ensures))

pub returns-in-Err-clause-commands : goal.returns-in-Err-clause-commands
returns-in-Err-clause-commands g c = λ engine line.
    ends_without_memory (Run engine) c.args.reader.now c.args.writer.now _
    (c.explain.ensures.1 ∙ ap (λ kind. status_of_error kind c.explain.ensures.0) (c.in-Err.ensures.command engine line))

pub returns-in-Err-clause-worded : goal.returns-in-Err-clause-worded
returns-in-Err-clause-worded g c = λ line.
    ends_without_memory ReplayWithWords c.args.reader.now c.args.writer.now _
    (c.explain.ensures.1 ∙ ap (λ kind. status_of_error kind c.explain.ensures.0) (c.in-Err.ensures.worded line))

pub returns-in-Err-clause-accepted : goal.returns-in-Err-clause-accepted
returns-in-Err-clause-accepted g c = λ passed.
    let ended = c.explain.ensures.1 ∙ ap (λ kind. status_of_error kind c.explain.ensures.0) (memory_alone _ _ passed c.in-Err.ensures.kinds) in
    let asked = c.in-Err.ensures.accepted passed in
    (asked.0, asked.1, ends_without_memory asked.0 c.args.reader.now c.args.writer.now _ ended)
