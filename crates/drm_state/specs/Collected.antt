-- What a job collects from the reservations that are held: whom it has to wait for.
use Rattle.std.specs.Prelude.{◌≡◌, ℕ, ◌≤◌, List, Some, Contains, All}
use Rattle.drm_types.specs.declared.access.Access.{Access}
use Rattle.drm_types.specs.Usages.{wanted_usage}
use Rattle.drm_job.specs.declared.Draft.{Draft}
use Rattle.drm_job.specs.Fault.{IsJob}
use Rattle.drm_job.specs.Uses.{access_of}
use Rattle.drm_resv.specs.declared.entry.Entry.{Entry}
use Rattle.drm_resv.specs.Entries.{entries_of}
use Rattle.drm_resv.specs.Reservation.{Reservation}
use Rattle.drm_state.specs.Held.{HoldsAll, AllFit}
use Rattle.drm_state.specs.Lawful.{IsLawfulDevice}
use Rattle.drm_state.specs.Plans.{DepsCover}
use Rattle.drm_state.specs.State.{DeviceState}

-- an entry for which the job has to wait: it is of a held reservation, whose buffer the job uses, and of a usage that
-- the job's access waits for
abbrev pub IsAsked : Draft → List (ℕ × Reservation) → Entry → Type 0
IsAsked job held e =
    (b : ℕ) × (x : Reservation) × (a : Access) × Contains held (b, x) × (access_of job b ≡ Some a) × Contains (entries_of (wanted_usage a) x.entries) e

-- each entry for which the job has to wait stands in the dependencies, by its entity, at least as late, and each
-- dependency is one of these. No device is named
pub record IsCollected (job : Draft) (held : List (ℕ × Reservation)) (deps : List (ℕ × ℕ)) : Type 0 where
  pub reached : (e : Entry) → IsAsked job held e → (f : ℕ) × Contains deps (e.entity, f) × (e.fence ≤ f)
  pub asked : All (λ d. (e : Entry) × IsAsked job held e × (d ≡ (e.entity, e.fence))) deps

-- the dependencies cover in each lawful device that the held reservations fit, however it has grown meanwhile
pub record CoverWhereFit (job : Draft) (held : List (ℕ × Reservation)) (deps : List (ℕ × ℕ)) : Type 0 where
  pub in_each : (d : DeviceState) → IsLawfulDevice d → IsJob d.spec job → AllFit d.journal held → DepsCover d job deps

-- what is collected covers so, where every buffer that the job declares is held
abbrev pub CollectedCovers : Type 0
CollectedCovers =
    (job : Draft) (held : List (ℕ × Reservation)) (deps : List (ℕ × ℕ)) → HoldsAll job held → IsCollected job held deps → CoverWhereFit job held deps
