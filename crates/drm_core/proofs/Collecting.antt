-- What is collected from the reservations of the buffers that a job declares.
use Rattle.std.proofs.Common.{◌≡◌, ℕ, ◌+◌, ◌<◌, List, [], ◌∷◌, ◌++◌, take, get_or, length, Some, sym, ap, subst, ◌∙◌, slice_get}
use Rattle.std.specs.Option.{option_map_or}
use Rattle.std.proofs.lemmas.List.{take_more, map-append}
use Rattle.std.proofs.lemmas.List.Elements.{All-contains}
use Rattle.drm_types.specs.declared.access.Access.{Access}
use Rattle.drm_types.specs.declared.spec.DeviceSpec.{DeviceSpec}
use Rattle.drm_job.specs.declared.Draft.{Draft}
use Rattle.drm_job.specs.Fault.{IsJob, buffers_of}
use Rattle.drm_job.specs.Laws.{JobsAreTheSoundDrafts}
use Rattle.drm_resv.specs.Reservation.{Reservation, WithRoom}
use Rattle.drm_state.specs.declared.journal.JobRecord.{JobRecord}
use Rattle.drm_state.specs.Held.{HoldsAll, AllFit}
use Rattle.drm_state.specs.Reservation.{Fits}
use Rattle.drm_core.specs.Planning.{kept_at, declared_kept}
use Rattle.drm_lists.proofs.Places.{at_index, contains_at, to_map, from_map}

-- the device has each buffer that a job declares
pub declared_below : JobsAreTheSoundDrafts → (spec : DeviceSpec) (job : Draft) (k : ℕ) (d : ℕ × Access) → IsJob spec job → slice_get job.declared k ≡ Some d
    → d.0 < length spec.buffers
declared_below sound spec job k d is at =
    All-contains (λ b. b < length spec.buffers) (buffers_of job) d.0 ((sound spec job).0 is).buffers (contains_at (buffers_of job) k d.0 (to_map (λ (d : ℕ × Access). d.0) job.declared k d at))

-- a declared buffer with what its reservation keeps
abbrev with_kept : List WithRoom → ℕ × Access → ℕ × Reservation
with_kept rs d = (d.0, kept_at rs d.0)

kept_is : (rs : List WithRoom) (b : ℕ) (r : WithRoom) → slice_get rs b ≡ Some r → kept_at rs b ≡ r.kept
kept_is rs b r at = ap (λ o. option_map_or (λ (r : WithRoom). r.kept) o (record { entries = []; history = [] })) at

-- one more of the declared buffers
pub kept_next : (rs : List WithRoom) (declared : List (ℕ × Access)) (i place : ℕ) (d : ℕ × Access) (r : WithRoom) → d ≡ get_or declared i d → i < length declared
    → place ≡ d.0 → r ≡ get_or rs place r → d.0 < length rs → declared_kept rs (take (i + 1) declared) ≡ declared_kept rs (take i declared) ++ (d.0, r.kept) ∷ []
kept_next rs declared i place d r is lt place_is r_is there =
    ap (declared_kept rs) (take_more declared i d lt ∙ ap (λ e. take i declared ++ e ∷ []) (sym is))
    ∙ (map-append (with_kept rs) (take i declared) (d ∷ [])
    ∙ ap (λ x. declared_kept rs (take i declared) ++ (d.0, x) ∷ []) (kept_is rs d.0 r (at_index rs d.0 r (r_is ∙ ap (λ k. get_or rs k r) place_is) there)))

-- they are all that the job declares
pub holds_declared : (rs : List WithRoom) (job : Draft) → HoldsAll job (declared_kept rs job.declared)
holds_declared rs job k d at = (kept_at rs d.0, contains_at (declared_kept rs job.declared) k (with_kept rs d) (to_map (with_kept rs) job.declared k d at))

-- where each reservation fits, theirs do
pub fit_declared : (journal : List JobRecord) (rs : List WithRoom) (declared : List (ℕ × Access))
    → ((k : ℕ) (d : ℕ × Access) → slice_get declared k ≡ Some d → (r : WithRoom) × (slice_get rs d.0 ≡ Some r) × Fits d.0 journal r.kept)
    → AllFit journal (declared_kept rs declared)
fit_declared journal rs declared each k h at =
    let d = from_map (with_kept rs) declared k h at in
    let r = each k d.0 d.1 in
    subst (λ (z : ℕ × Reservation). Fits z.0 journal z.1) (sym d.2) (subst (Fits d.0.0 journal) (sym (kept_is rs d.0.0 r.0 r.1)) r.2)
