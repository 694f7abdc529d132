use Rattle.drm_rules.proofs.judging.judge_line.Goals as goal

pub returns-in_ok-judge_queueing-in-Queued : goal.returns-in_ok-judge_queueing-in-Queued
returns-in_ok-judge_queueing-in-Queued c = λ seen are. rw c.in-Queued.is (c.in_ok-judge_queueing-in-Queued.ensures seen are)

pub returns-in_ok-judge_running-in-Ran : goal.returns-in_ok-judge_running-in-Ran
returns-in_ok-judge_running-in-Ran c = λ seen are. rw c.in-Ran.is (c.in_ok-judge_running-in-Ran.ensures seen are)

pub returns-in_ok-judge_ending-in-Ended : goal.returns-in_ok-judge_ending-in-Ended
returns-in_ok-judge_ending-in-Ended c = λ seen are. rw c.in-Ended.is (c.in_ok-judge_ending-in-Ended.ensures seen are)
