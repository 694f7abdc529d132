use Rattle.std.proofs.Common.{◌∙◌, refl, rules, subst}
use Rattle.std.specs.Io.KnownBytes.{Appends}
use Rattle.drm_workers.specs.Reports.{IsReport}
use Rattle.drm_stream.specs.Transfer.{AppendsFront}
use Rattle.drm_engine.proofs.Failures.{input_fails}
use Rattle.drm_run.proofs.Placed.{told}
use Rattle.drm_run.proofs.engine.run.Goals as goal

pub journal_text-requires : goal.journal_text-requires
journal_text-requires g c =
    let script = c.in-Ok.script in
    told c.jobs_run_in_their_device.ensures c.serial_keeps_sizes.ensures script.spec script.jobs c.args.submitters c.in-Ok-run_all.report c.in-Ok.ensures.fits c.in-Ok.ensures.runnable.0 c.in-Ok.ensures.runnable.1
    (subst (λ jobs. IsReport script.spec jobs c.args.submitters c.in-Ok-run_all.report) c.into_vec-jobs.ensures c.in-Ok-run_all.ensures.report)

pub returns-in-Ok-put_all-clause-ending : goal.returns-in-Ok-put_all-clause-ending
returns-in-Ok-put_all-clause-ending g c =
    let script = c.in-Ok.script in
    let report = subst (λ jobs. IsReport script.spec jobs c.args.submitters c.in-Ok-run_all.report) c.into_vec-jobs.ensures c.in-Ok-run_all.ensures.report in
    (script, c.in-Ok.ensures.value, (c.in-Ok-run_all.report, report, subst (λ bytes. Appends c.args.writer.now.contents c.put_all.new.writer.contents bytes) (c.deref.ensures.value ∙ c.in-Ok-journal_text.ensures) c.in-Ok-put_all.ensures.ok))

pub returns-in-Ok-put_all-clause-most : goal.returns-in-Ok-put_all-clause-most
returns-in-Ok-put_all-clause-most g c = c.read_run_from.ensures.most

pub returns-clause-ending : goal.returns-clause-ending
returns-clause-ending g c =
    let script = c.in-Ok.script in
    let report = subst (λ jobs. IsReport script.spec jobs c.args.submitters c.in-Ok-run_all.report) c.into_vec-jobs.ensures c.in-Ok-run_all.ensures.report in
    (script, c.in-Ok.ensures.value, (c.in-Ok-run_all.report, report, subst (λ bytes. AppendsFront c.args.writer.now.contents c.put_all.new.writer.contents bytes) (c.deref.ensures.value ∙ c.in-Ok-journal_text.ensures) c.in-Err-put_all.ensures.err))

pub returns-in-Err-NoThread-clause-ending : goal.returns-in-Err-NoThread-clause-ending
returns-in-Err-NoThread-clause-ending g c = search rules

pub returns-in-Err-clause-failures : goal.returns-in-Err-clause-failures
returns-in-Err-clause-failures g c = rw c.of_input.ensures (input_fails c.args.reader.now c.read_run_from.new.reader c.args.writer.now c.in-Err.error c.in-Err.ensures.failures)

pub returns-in-Ok-put_all-clause-failures : goal.returns-in-Ok-put_all-clause-failures
returns-in-Ok-put_all-clause-failures g c = (c.in-Ok.ensures.failures, c.in-Ok-put_all.ensures.failures)

pub returns-clause-failures : goal.returns-clause-failures
returns-clause-failures g c = (c.in-Ok.ensures.failures, c.in-Err-put_all.ensures.failures)

pub returns-in-Err-GaveUp-clause-failures : goal.returns-in-Err-GaveUp-clause-failures
returns-in-Err-GaveUp-clause-failures g c = (c.in-Ok.ensures.failures, refl)
