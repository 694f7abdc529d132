use Rattle.std.proofs.Common.{◌≡◌, ◌++◌, ℕ, List, length, ap, ◌∙◌}
use Rattle.std.proofs.lemmas.Result.{on_ok_weaker}
use Rattle.drm_trace.specs.declared.event.Event.{Event}
use Rattle.drm_conform.specs.declared.times.Counts.{Counts}
use Rattle.drm_conform.specs.Answers.{jobs_asked, passed_over}
use Rattle.drm_conform.specs.Times.{counts_of}
use Rattle.drm_conform.specs.Words.{text_of_counts, text_of_loss, text_of_rest, text_of_rings, text_of_tolerance}
use Rattle.drm_conform.proofs.TextChains.{behind}
use Rattle.drm_conform.proofs.answering.put_behind.Goals as goal

pub returns : goal.returns
returns c =
    let log = c.args.log.now in
    let old = c.args.text.now.items in
    let all = counts_of log.events (length log.jobs) in
    let counts : c.count_jobs-counts.result ≡ all =
    c.count_jobs-counts.ensures ∙ ap (λ (lines : List Event). counts_of lines c.len-jobs.result) c.requires ∙ ap (counts_of log.events) c.len-jobs.ensures in
    let one : c.put_counts.new.text.items ≡ old ++ text_of_counts all c.args.broken =
    c.in_ok-put_counts.ensures ∙ ap (λ (k : Counts). old ++ text_of_counts k c.args.broken) counts in
    let two : c.put_rest.new.text.items ≡ c.put_counts.new.text.items ++ text_of_rest all (passed_over log) =
    c.in_ok-put_rest.ensures ∙ ap (λ (k : Counts). c.put_counts.new.text.items ++ text_of_rest k c.passed.result) counts
    ∙ ap (λ (n : ℕ). c.put_counts.new.text.items ++ text_of_rest all n) c.passed.ensures in
    let three = behind old (text_of_counts all c.args.broken) (text_of_rest all (passed_over log)) _ _ one two in
    let four = behind old _ (text_of_loss log.lost) _ _ three c.in_ok-put_loss.ensures in
    let five = behind old _ (text_of_tolerance c.args.options.now.tolerance) _ _ four c.in_ok-put_tolerance.ensures in
    let six = behind old _ (text_of_rings log (length log.rings)) _ _ five c.in_ok-put_rings.ensures in
    on_ok_weaker c.put_jobs_asked.result (λ last. behind old _ (jobs_asked c.args.options.now.jobs log) _ _ six last) c.put_jobs_asked.ensures
