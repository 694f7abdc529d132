use Rattle.std.proofs.Common.{◌≡◌, [], All, vec_len, vec_capacity}
use Rattle.drm_workers.proofs.dealing.empty_shares.Given as goal

-- so many lists are made, all of them empty
abbrev pub invariant-loop-submitter : goal.invariant-loop-submitter
invariant-loop-submitter l =
    All (λ share. share.items ≡ []) l.shares.items × (vec_len l.shares ≡ l.submitter) × (vec_capacity l.shares ≡ l.submitters)
