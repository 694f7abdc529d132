use Rattle.drm_words.proofs.replaying.replay_with_words.Goals as goal

pub returns-in-Ok-clause-failures : goal.returns-in-Ok-clause-failures
returns-in-Ok-clause-failures g c = c.play_lines.ensures.failures c.args.reader.now c.read_worded.new.reader c.in-Ok.ensures.failures
