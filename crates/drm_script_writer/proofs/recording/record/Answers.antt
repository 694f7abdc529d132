use Rattle.drm_script_writer.proofs.recording.record.Goals as goal

pub returns-in-Ok-put_all-clause-ending : goal.returns-in-Ok-put_all-clause-ending
returns-in-Ok-put_all-clause-ending g c = (c.in-Ok.text.items, c.in-Ok.ensures, rw c.deref.ensures.value at c.in-Ok-put_all.ensures.ok)

pub returns-clause-ending : goal.returns-clause-ending
returns-clause-ending g c = (c.in-Ok.text.items, c.in-Ok.ensures, rw c.deref.ensures.value at c.in-Err.ensures.err)

pub returns-in-Ok-put_all-clause-failures : goal.returns-in-Ok-put_all-clause-failures
returns-in-Ok-put_all-clause-failures g c = λ before after read. (read, c.in-Ok-put_all.ensures.failures)

pub returns-clause-failures : goal.returns-clause-failures
returns-clause-failures g c = λ before after read. (read, c.in-Err.ensures.failures)
