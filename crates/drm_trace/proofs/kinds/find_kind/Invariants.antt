use Rattle.std.proofs.Common.{◌≡◌, drop}
use Rattle.std.specs.Prelude.{find}
use Rattle.drm_trace.specs.Bytes.{begins_with}
use Rattle.drm_trace.specs.Kinds.{kinds, mark_of}
use Rattle.drm_trace.proofs.kinds.find_kind.Given as goal

abbrev pub invariant-loop-kind : goal.invariant-loop-kind
invariant-loop-kind l = find (λ k. begins_with (mark_of k) l.bytes) (drop l.kind-index kinds) ≡ find (λ k. begins_with (mark_of k) l.bytes) kinds
