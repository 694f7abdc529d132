-- Whether the packets of a job find their ranges in a memory.
use Rattle.std.specs.Prelude.{ℕ, List, All, IsTrue}
use Rattle.drm_packet.specs.Touches.{is_in_range}
use Rattle.drm_job.specs.declared.Draft.{Draft}

-- each packet of the job is in range of the memory
abbrev pub RunsIn : List (List ℕ) → Draft → Type 0
RunsIn memory job = All (λ p. IsTrue (is_in_range p memory)) job.packets
