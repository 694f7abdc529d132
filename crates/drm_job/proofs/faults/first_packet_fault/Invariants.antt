use Rattle.std.proofs.Common.{◌≡◌, map, drop}
use Rattle.std.specs.List.{enumerate_from}
use Rattle.drm_types.specs.Firsts.{first_of}
use Rattle.drm_job.specs.Fault.{packet_fault}
use Rattle.drm_job.proofs.faults.first_packet_fault.Given as goal

abbrev pub invariant-loop-place : goal.invariant-loop-place
invariant-loop-place l =
    first_of (map (λ p. packet_fault l.spec l.draft p.0 p.1) (enumerate_from l.place (drop l.place l.packet-items)))
    ≡ first_of (map (λ p. packet_fault l.spec l.draft p.0 p.1) (enumerate_from 0 l.draft.packets))
