-- The jobs that hold a job up, one the other.
use Rattle.std.specs.Prelude.{◌≡◌, ℕ, ◌<◌, ◌≤◌, ◌⊎◌, List, [], ◌∷◌, Option, Some, None}
use Rattle.drm_state.specs.State.{DeviceState}
use Rattle.drm_reason.specs.declared.reason.Reason.{Reason}
use Rattle.drm_reason.specs.declared.reason.Reason.TheVariants as reason
use Rattle.drm_reason.specs.Reasons.{reason_of}
use Rattle.drm_why.specs.declared.chain.Link.{Link}

-- the job by which a reason holds another one up
abbrev pub holder_of : Reason → Option ℕ
holder_of (reason.BehindQueueHead head) = Some head
holder_of (reason.Waits fence how ring queued) = Some fence
holder_of (reason.BehindRingHead ring head) = Some head
holder_of (reason.Stopped behind) = behind
holder_of (reason.Pending ring front) = Some front
holder_of _ = None

-- a job with its reason
abbrev pub link_with : ℕ → Reason → Link
link_with number reason = record { fence = number; reason = reason }

abbrev pub link_of : DeviceState → ℕ → Link
link_of device number = link_with number (reason_of device number)

-- the jobs that hold up the one of this number, the next first: then the one that the reason of this names, to one
-- whose reason names none. One that is no earlier job ends them: it comes first on a ring
abbrev pub IsChainFrom : DeviceState → ℕ → Option ℕ → List Link → Type 0
IsChainFrom device number next [] = next ≡ None
IsChainFrom device number next (link ∷ rest) =
    (next ≡ Some link.fence) × (link ≡ link_of device link.fence)
    × (((link.fence < number) × IsChainFrom device link.fence (holder_of link.reason) rest) ⊎ ((number ≤ link.fence) × (rest ≡ [])))

abbrev pub IsChain : DeviceState → ℕ → Reason → List Link → Type 0
IsChain device number held links = IsChainFrom device number (holder_of held) links
