use Rattle.std.proofs.Common.{rules}
use Rattle.drm_script.proofs.events.EventsLeft.next.Goals as goal

pub returns-in_err-chunk-clause-none : goal.returns-in_err-chunk-clause-none
returns-in_err-chunk-clause-none c = search rules

pub loop-self-smaller-in_ok-chunk : goal.loop-self-smaller-in_ok-chunk
loop-self-smaller-in_ok-chunk c = search rules

pub loop-self-preserved-in_ok-chunk : goal.loop-self-preserved-in_ok-chunk
loop-self-preserved-in_ok-chunk c = search rules

pub loop-self-smaller : goal.loop-self-smaller
loop-self-smaller c = search rules

pub loop-self-preserved : goal.loop-self-preserved
loop-self-preserved c = search rules
