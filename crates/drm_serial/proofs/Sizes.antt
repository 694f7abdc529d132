-- Turns keep the sizes of all buffers, so each packet finds its ranges.
use Rattle.std.proofs.Common.{◌≡◌, ℕ, List, [], ◌∷◌, take, refl, ◌∙◌}
use Rattle.std.specs.Prelude.{IsTrue}
use Rattle.std.specs.List.{AllByRecursion}
use Rattle.std.proofs.lemmas.List.Elements.{All-take, All-weaker, recursion_from_All}
use Rattle.drm_buffer.specs.Memory.{sizes_of}
use Rattle.drm_packet.specs.declared.Packet.{Packet}
use Rattle.drm_packet.specs.Effect.{effect}
use Rattle.drm_packet.specs.Touches.{is_in_range}
use Rattle.drm_packet.proofs.Sizes.{sizes-effect, in_range_by_sizes}
use Rattle.drm_job.specs.declared.Draft.{Draft}
use Rattle.drm_job.specs.Ranges.{RunsIn}
use Rattle.drm_serial.specs.Laws.{SerialKeepsSizes}
use Rattle.drm_serial.specs.Serial.{Turn, after_packets, after_turn, serial}

-- a job can run in each memory of the same sizes
pub runs_by_sizes : (job : Draft) (memory other : List (List ℕ)) → sizes_of memory ≡ sizes_of other → RunsIn other job → RunsIn memory job
runs_by_sizes job memory other same runs =
    All-weaker (λ p. IsTrue (is_in_range p other)) (λ p. IsTrue (is_in_range p memory)) (λ p is. in_range_by_sizes p memory other same ∙ is) job.packets runs

-- packets are in range of each memory of the same sizes
pub in_range_after : (packets : List Packet) (memory other : List (List ℕ)) → sizes_of memory ≡ sizes_of other
    → AllByRecursion (λ p. IsTrue (is_in_range p other)) packets → AllByRecursion (λ p. IsTrue (is_in_range p memory)) packets
in_range_after [] memory other same in_range = tt
in_range_after (p ∷ ps) memory other same in_range = (in_range_by_sizes p memory other same ∙ in_range.0, in_range_after ps memory other same in_range.1)

-- packets keep the sizes
pub sizes-after_packets : (packets : List Packet) (memory : List (List ℕ)) → AllByRecursion (λ p. IsTrue (is_in_range p memory)) packets
    → sizes_of (after_packets memory packets) ≡ sizes_of memory
sizes-after_packets [] memory in_range = refl
sizes-after_packets (p ∷ ps) memory in_range =
    let one : sizes_of (effect p memory) ≡ sizes_of memory = sizes-effect p memory in_range.0 in
    sizes-after_packets ps (effect p memory) (in_range_after ps (effect p memory) memory one in_range.1) ∙ one

-- a turn keeps the sizes
pub sizes-after_turn : (turn : Turn) (memory : List (List ℕ)) → RunsIn memory turn.job → sizes_of (after_turn memory turn) ≡ sizes_of memory
sizes-after_turn turn memory runs =
    sizes-after_packets (take turn.ran turn.job.packets) memory
    (recursion_from_All (λ p. IsTrue (is_in_range p memory)) (take turn.ran turn.job.packets)
    (All-take (λ p. IsTrue (is_in_range p memory)) turn.ran turn.job.packets runs))

-- turns keep the sizes, from each memory of the same sizes on
pub sizes_each : (turns : List Turn) (initial memory : List (List ℕ)) → sizes_of memory ≡ sizes_of initial
    → AllByRecursion (λ turn. RunsIn initial turn.job) turns → sizes_of (serial memory turns) ≡ sizes_of initial
sizes_each [] initial memory same runs = same
sizes_each (t ∷ ts) initial memory same runs =
    sizes_each ts initial (after_turn memory t) (sizes-after_turn t memory (runs_by_sizes t.job memory initial same runs.0) ∙ same) runs.1

-- turns keep the sizes
pub sizes-serial : SerialKeepsSizes
sizes-serial turns memory runs =
    sizes_each turns memory memory refl (recursion_from_All (λ turn. RunsIn memory turn.job) turns runs)
