use Rattle.drm_explain.proofs.Rows.{listed, numbers_of_rows}
use Rattle.drm_explain.proofs.text.list_text.Goals as goal

pub returns-clause-text : goal.returns-clause-text
returns-clause-text c =
    listed c.new-text.result.items c.put_rows.new.text.items c.put_rows-2.new.text.items c.put_rows-3.new.text.items c.put_rows-4.new.text.items _ _ _ _
    c.new-text.ensures.items c.in_ok-put_rows.ensures c.in_ok-put_rows-2.ensures c.in_ok-put_rows-3.ensures c.in_ok-put_rows-4.ensures
    c.of_jobs.ensures c.of_devices.ensures c.of_contexts.ensures c.of_texts.ensures

pub returns-clause-numbers : goal.returns-clause-numbers
returns-clause-numbers c = numbers_of_rows

pub returns-in_err-put_rows-clause-numbers : goal.returns-in_err-put_rows-clause-numbers
returns-in_err-put_rows-clause-numbers c = numbers_of_rows

pub returns-in_err-put_rows-2-clause-numbers : goal.returns-in_err-put_rows-2-clause-numbers
returns-in_err-put_rows-2-clause-numbers c = numbers_of_rows

pub returns-in_err-put_rows-3-clause-numbers : goal.returns-in_err-put_rows-3-clause-numbers
returns-in_err-put_rows-3-clause-numbers c = numbers_of_rows

pub returns-in_err-put_rows-4-clause-numbers : goal.returns-in_err-put_rows-4-clause-numbers
returns-in_err-put_rows-4-clause-numbers c = numbers_of_rows
