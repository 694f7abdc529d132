-- The sentences of the table that are spelled again.
use Rattle.std.proofs.Common.{◌≡◌, ℕ, List, refl}
use Rattle.std.specs.Prelude.{codes}
use Rattle.drm_core.specs.declared.event.Event.{Event}
use Rattle.drm_core.specs.declared.event.Event.TheVariants as event
use Rattle.drm_state.specs.declared.answer.Answer.TheVariants as answer
use Rattle.drm_explain.specs.Rows.{context_rows, device_rows, job_rows, row_of, rows, sentence_at, text_rows}
use Rattle.drm_engine.specs.Filling.{filled}
use Rattle.drm_engine.specs.Filling.{one, two}
use Rattle.drm_words.specs.Refused.{idle_case, stopped_case}
use Rattle.drm_words.specs.Sentences.{sentence_of}
use Rattle.drm_words.specs.Subjects.{buffer_of, entity_of}

pub no_ready_job : sentence_at 40 0 ≡ codes "no ready job waits for ring %"
unfolding sentence_at row_of rows job_rows device_rows context_rows text_rows
no_ready_job = refl

pub no_packet : sentence_at 40 1 ≡ codes "ring % has no packet to run"
unfolding sentence_at row_of rows job_rows device_rows context_rows text_rows
no_packet = refl

pub no_job : sentence_at 40 2 ≡ codes "ring % has no job to finish"
unfolding sentence_at row_of rows job_rows device_rows context_rows text_rows
no_job = refl

pub no_fence : sentence_at 20 0 ≡ codes "fence % belongs to no job that was armed yet"
unfolding sentence_at row_of rows job_rows device_rows context_rows text_rows
no_fence = refl

pub nothing_queued : sentence_at 45 0 ≡ codes "entity % is not stopped, or has no queued job"
unfolding sentence_at row_of rows job_rows device_rows context_rows text_rows
nothing_queued = refl

pub no_credit : sentence_at 41 0 ≡ codes "the next job of ring % needs % credits, and the ring has %"
unfolding sentence_at row_of rows job_rows device_rows context_rows text_rows
no_credit = refl

pub not_complete : sentence_at 42 0 ≡ codes "the first job of ring % has packets to run"
unfolding sentence_at row_of rows job_rows device_rows context_rows text_rows
not_complete = refl

pub stopped : sentence_at 30 0 ≡ codes "entity % is stopped, and takes no more jobs"
unfolding sentence_at row_of rows job_rows device_rows context_rows text_rows
stopped = refl

pub stopped_since : sentence_at 30 1 ≡ codes "the entity of the job that context % has planned is stopped, and takes no more jobs"
unfolding sentence_at row_of rows job_rows device_rows context_rows text_rows
stopped_since = refl

pub held : sentence_at 57 0 ≡ codes "a context holds buffer %, which the job declares"
unfolding sentence_at row_of rows job_rows device_rows context_rows text_rows
held = refl

-- ---- what is said to all other commands

pub idle_otherwise : (subject : Event ℕ) → ((ring now : ℕ) → subject ≡ event.Pick ring now → ⊥) → ((ring : ℕ) → subject ≡ event.Step ring → ⊥) → idle_case subject ≡ 2
idle_otherwise (event.Pick ring now) no_pick no_step = absurd (no_pick ring now refl)
idle_otherwise (event.Step ring) no_pick no_step = absurd (no_step ring refl)
idle_otherwise other no_pick no_step = refl

pub stopped_otherwise : (subject : Event ℕ) → ((ctx : ℕ) → subject ≡ event.Arm ctx → ⊥) → filled (sentence_at 30 (stopped_case subject).0) (stopped_case subject).1 ≡ filled (sentence_at 30 0) (one (entity_of subject))
stopped_otherwise (event.Arm ctx) no_arm = absurd (no_arm ctx refl)
stopped_otherwise other no_arm = refl

pub armed_otherwise : (subject : Event ℕ) (fence : ℕ) → ((ctx : ℕ) → subject ≡ event.Arm ctx → ⊥)
    → sentence_of subject (answer.Armed fence) ≡ filled (codes "the job has fence % and waits in the queue of entity %") (two fence (entity_of subject))
armed_otherwise (event.Arm ctx) fence no_arm = absurd (no_arm ctx refl)
armed_otherwise other fence no_arm = refl

pub bytes_otherwise : (subject : Event ℕ) (bytes : List ℕ) → ((ctx buffer : ℕ) → subject ≡ event.Read ctx buffer → ⊥)
    → sentence_of subject (answer.Bytes bytes) ≡ filled (codes "what buffer % holds now, read with no lock") (one (buffer_of subject))
bytes_otherwise (event.Read ctx buffer) bytes no_read = absurd (no_read ctx buffer refl)
bytes_otherwise other bytes no_read = refl
