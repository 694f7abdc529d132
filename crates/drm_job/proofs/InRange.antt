-- The packets of a job find their ranges in each memory of the device's sizes.
use Rattle.std.proofs.Common.{◌≡◌, ℕ, ◌+◌, true, not, List, [], ◌∷◌, map, None, refl, ◌∙◌}
use Rattle.std.specs.List.{AllByRecursion, enumerate_from}
use Rattle.std.specs.Prelude.{IsTrue}
use Rattle.std.proofs.lemmas.List.Elements.{All-from_recursion}
use Rattle.drm_types.specs.declared.spec.DeviceSpec.{DeviceSpec}
use Rattle.drm_types.specs.Firsts.{when, first_of}
use Rattle.drm_buffer.specs.Memory.{sizes_of}
use Rattle.drm_packet.specs.declared.Packet.{Packet}
use Rattle.drm_packet.specs.Touches.{is_in_range}
use Rattle.drm_packet.proofs.Sizes.{in_range_by_sizes}
use Rattle.drm_job.specs.declared.Draft.{Draft}
use Rattle.drm_job.specs.declared.JobFault.TheVariants.{PacketRange}
use Rattle.drm_job.specs.Fault.{packet_tests, packet_fault, job_tests, IsJob}
use Rattle.drm_job.specs.Ranges.{RunsIn}
use Rattle.drm_types.proofs.Firsts.{none_first, none_at, none_when}

-- a packet without a fault is in range
pub range_from_fault : (spec : DeviceSpec) (job : Draft) (n : ℕ) (p : Packet) → packet_fault spec job n p ≡ None → is_in_range p spec.buffers ≡ true
range_from_fault spec job n p none =
    none_when (is_in_range p spec.buffers) (PacketRange n)
    (none_at (packet_tests spec job n p) 3 (when (not (is_in_range p spec.buffers)) (PacketRange n)) none refl)

-- packets without a fault are in range of each memory of these sizes
pub range_each : (spec : DeviceSpec) (job : Draft) (memory : List (List ℕ)) (n : ℕ) (ps : List Packet) → sizes_of memory ≡ sizes_of spec.buffers
    → first_of (map (λ p. packet_fault spec job p.0 p.1) (enumerate_from n ps)) ≡ None
    → AllByRecursion (λ p. IsTrue (is_in_range p memory)) ps
range_each spec job memory n [] same none = tt
range_each spec job memory n (p ∷ ps) same none =
    let one = none_first (packet_fault spec job n p) (map (λ p. packet_fault spec job p.0 p.1) (enumerate_from (n + 1) ps)) none in
    (in_range_by_sizes p memory spec.buffers same ∙ range_from_fault spec job n p one.0, range_each spec job memory (n + 1) ps same one.1)

-- a job of a device can run in each memory of its sizes
pub runs_in : (spec : DeviceSpec) (job : Draft) (memory : List (List ℕ)) → IsJob spec job → sizes_of memory ≡ sizes_of spec.buffers → RunsIn memory job
runs_in spec job memory none same =
    let packets = none_at (job_tests spec job) 8 (first_of (map (λ p. packet_fault spec job p.0 p.1) (enumerate_from 0 job.packets))) none refl in
    All-from_recursion (λ p. IsTrue (is_in_range p memory)) job.packets (range_each spec job memory 0 job.packets same packets)
