use Rattle.std.proofs.Common.{◌≡◌, ◌+◌, length}
use Rattle.std.specs.Vec.Iter.{into_iter_items, into_iter_len}
use Rattle.drm_workers.proofs.Dealt.{FitRest}
use Rattle.drm_workers.proofs.dealing.deal.Given as goal

-- the lists, with what the rest gives them, are the shares
abbrev pub invariant-loop-job : goal.invariant-loop-job
invariant-loop-job l = record {
  fit : FitRest (λ share. share.items) l.submitters l.place l.fn.jobs.items (into_iter_items l.job-iterator) l.shares.items;
  left : length (into_iter_items l.job-iterator) ≡ into_iter_len l.job-iterator;
  dealt : l.place + into_iter_len l.job-iterator ≡ length l.fn.jobs.items;
}
