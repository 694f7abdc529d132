-- The uses of a job, added to the reservations of the buffers that it declares, one after the other.
use Rattle.std.proofs.Common.{◌≡◌, ◌≢◌, Option, ℕ, zero, suc, Bool, true, false, ◌==◌, ◌+◌, ◌<◌, ◌≤◌, List, [], ◌∷◌, map, set, length, Some, None, refl, sym, ap, subst, ◌∙◌, inl, inr, arith, slice_get}
use Rattle.std.specs.Prelude.{nat_eq, find, option_map}
use Rattle.std.specs.List.{IsDistinct}
use Rattle.std.proofs.lemmas.Bool.{cases_eq, eq-eqb, eqb-true}
use Rattle.std.proofs.lemmas.Map.Keys.{apart_from_distinct, IsDistinct-tail}
use Rattle.std.proofs.lemmas.Option.{slice_get_within, get_or_from_slice_get}
use Rattle.drm_types.specs.declared.access.Access.{Access}
use Rattle.drm_types.specs.declared.spec.DeviceSpec.{DeviceSpec}
use Rattle.drm_job.specs.declared.Draft.{Draft}
use Rattle.drm_job.specs.Fault.{IsJob}
use Rattle.drm_job.specs.Laws.{JobsAreTheSoundDrafts}
use Rattle.drm_resv.specs.Reservation.{WithRoom}
use Rattle.drm_state.specs.Reservation.{usage_at}
use Rattle.drm_types.specs.Usages.{added_usage}
use Rattle.drm_state.specs.Uses.{HasUse}
use Rattle.drm_core.specs.Planning.{DeclaresOnce, HaveUses}
use Rattle.drm_lists.proofs.Changed.{get_set_same, get_set_other}
use Rattle.drm_lists.proofs.Places.{to_map}
use Rattle.drm_lists.proofs.Searches.{find_first}
use Rattle.drm_core.proofs.Lists.{each_fails}

-- a number that is first of all does not stand behind it
first_is_apart : (x : ℕ × Access) (xs : List (ℕ × Access)) (k : ℕ) (e : ℕ × Access) → IsDistinct nat_eq (x.0 ∷ map (λ d. d.0) xs) → slice_get xs k ≡ Some e → x.0 ≡ e.0 → ⊥
first_is_apart x xs k e once at same =
    let firsts : List ℕ = map (λ (d : ℕ × Access). d.0) xs in
    let there : slice_get firsts k ≡ Some e.0 = to_map (λ (d : ℕ × Access). d.0) xs k e at in
    let within = slice_get_within firsts k e.0 there in
    let other : (x.0 == e.0) ≡ false = subst (λ n. (x.0 == n) ≡ false) (get_or_from_slice_get firsts k e.0 e.0 there)
    (apart_from_distinct nat_eq (x.0 ∷ firsts) 0 (suc k) e.0 once (omega arith) (omega (arith, within))) in
    let never : true ≡ false = sym (eq-eqb x.0 e.0 same) ∙ other in
    cc (never)

-- where no buffer is declared twice, each stands at one place
pub stands_once : (ds : List (ℕ × Access)) → IsDistinct nat_eq (map (λ d. d.0) ds) → (j k : ℕ) (d e : ℕ × Access) → slice_get ds j ≡ Some d → slice_get ds k ≡ Some e → d.0 ≡ e.0 → j ≡ k
stands_once [] once j k d e at_d at_e same = absurd (cc (at_d))
stands_once (x ∷ xs) once zero zero d e at_d at_e same = refl
stands_once (x ∷ xs) once zero (suc k) d e at_d at_e same =
    let first : x ≡ d = cc (at_d) in
    absurd (first_is_apart x xs k e once at_e (ap (λ (z : ℕ × Access). z.0) first ∙ same))
stands_once (x ∷ xs) once (suc j) zero d e at_d at_e same =
    let first : x ≡ e = cc (at_e) in
    absurd (first_is_apart x xs j d once at_d (ap (λ (z : ℕ × Access). z.0) first ∙ sym same))
stands_once (x ∷ xs) once (suc j) (suc k) d e at_d at_e same =
    ap suc (stands_once xs (IsDistinct-tail nat_eq x.0 (map (λ (d : ℕ × Access). d.0) xs) once) j k d e at_d at_e same)

-- a job of a device declares no buffer twice
pub declares_once : JobsAreTheSoundDrafts → (spec : DeviceSpec) (job : Draft) → IsJob spec job → DeclaresOnce job
declares_once sound spec job is = stands_once job.declared ((sound spec job).0 is).distinct

-- the uses of the first buffers that the job declares were added, and no other
pub record UsesOfFirst (ended : ℕ → Bool) (fence : ℕ) (job : Draft) (n : ℕ) (old new : List WithRoom) : Type 0 where
  pub done : (b k : ℕ) (r : WithRoom) (d : ℕ × Access) → slice_get old b ≡ Some r → k < n → slice_get job.declared k ≡ Some d → d.0 ≡ b
      → (m : WithRoom) × (slice_get new b ≡ Some m) × HasUse ended fence job b r m
  pub rest : (b : ℕ) → ((k : ℕ) (d : ℕ × Access) → k < n → slice_get job.declared k ≡ Some d → d.0 ≡ b → ⊥) → slice_get new b ≡ slice_get old b

-- the reservation of the next buffer is as it was
pub next_is_untouched : (ended : ℕ → Bool) (fence : ℕ) (job : Draft) (n place : ℕ) (d : ℕ × Access) (old rs : List WithRoom) → DeclaresOnce job
    → slice_get job.declared n ≡ Some d → place ≡ d.0 → UsesOfFirst ended fence job n old rs → slice_get rs place ≡ slice_get old place
next_is_untouched ended fence job n place d old rs once at_d place_is before = before.rest place (λ k e lt at_e is.
    let same : k ≡ n = once k n e d at_e at_d (is ∙ place_is) in
    omega (arith, lt, same))

-- one buffer more
pub uses_of_next : (ended : ℕ → Bool) (fence : ℕ) (job : Draft) (n place : ℕ) (d : ℕ × Access) (old rs : List WithRoom) (r new : WithRoom) → DeclaresOnce job
    → slice_get job.declared n ≡ Some d → place ≡ d.0 → slice_get rs place ≡ Some r → HasUse ended fence job place r new
    → UsesOfFirst ended fence job n old rs → UsesOfFirst ended fence job (n + 1) old (set rs place new)
uses_of_next ended fence job n place d old rs r new once at_d place_is at has before = record {
  done = λ b k x e at_x lt at_e is.
      elim (cases_eq k n) [
        | inl same ↦
            let here : slice_get job.declared n ≡ Some e = subst (λ m. slice_get job.declared m ≡ Some e) same at_e in
            let is_d : d ≡ e = cc (at_d, here) in
            let is_b : place ≡ b = place_is ∙ (ap (λ (z : ℕ × Access). z.0) is_d ∙ is) in
            let untouched : slice_get rs place ≡ Some x = next_is_untouched ended fence job n place d old rs once at_d place_is before ∙ subst (λ m. slice_get old m ≡ Some x) (sym is_b) at_x in
            let is_x : r ≡ x = cc (at, untouched) in (
              new,
              subst (λ m. slice_get (set rs place new) m ≡ Some new) is_b (get_set_same rs place r new at),
              subst (λ m. HasUse ended fence job m x new) is_b (subst (λ z. HasUse ended fence job place z new) is_x has),
            )
        | inr apart ↦
            let m = before.done b k x e at_x (omega (arith, lt, apart)) at_e is in
            let other : b ≢ place = λ same. apart (once k n e d at_e at_d (is ∙ (same ∙ place_is))) in
            (m.0, get_set_other rs place b new other ∙ m.1, m.2)
      ];
  rest = λ b none.
      let other : b ≢ place = λ same. none n d (omega arith) at_d (sym (same ∙ place_is)) in
      get_set_other rs place b new other ∙ before.rest b (λ k e lt at_e is. none k e (omega (arith, lt)) at_e is);
}

-- a reservation to which nothing was added, of a buffer that the job does not declare
unused : (ended : ℕ → Bool) (fence : ℕ) (job : Draft) (b : ℕ) (r : WithRoom) → find (λ d. d.0 == b) job.declared ≡ None → HasUse ended fence job b r r
unused ended fence job b r none =
    let no_use : usage_at b job ≡ None = ap (λ (o : Option (ℕ × Access)). option_map added_usage (option_map (λ (d : ℕ × Access). d.1) o)) none in
    (λ usage used. absurd (cc (no_use, used)), λ is. refl)

-- all of them
pub uses_of_all : (ended : ℕ → Bool) (fence : ℕ) (job : Draft) (n : ℕ) (old new : List WithRoom) → length job.declared ≤ n → length new ≡ length old
    → UsesOfFirst ended fence job n old new → HaveUses ended fence job old new
uses_of_all ended fence job n old new all count uses = record { count = count; each = each }
  where
    each : (b : ℕ) (r : WithRoom) → slice_get old b ≡ Some r → (m : WithRoom) × (slice_get new b ≡ Some m) × HasUse ended fence job b r m
    each b r at =
        elim (find (λ (d : ℕ × Access). d.0 == b) job.declared) as (λ o. find (λ (d : ℕ × Access). d.0 == b) job.declared ≡ o
        → (m : WithRoom) × (slice_get new b ≡ Some m) × HasUse ended fence job b r m) [
          | None ↦ λ none.
              let nowhere : (k : ℕ) (d : ℕ × Access) → k < n → slice_get job.declared k ≡ Some d → d.0 ≡ b → ⊥ = λ k d lt at_d is.
              let fails = each_fails (λ (d : ℕ × Access). d.0 == b) job.declared k d none at_d in
              let never : true ≡ false = sym (eq-eqb d.0 b is) ∙ fails in
              cc (never) in
              (r, uses.rest b nowhere ∙ at, unused ended fence job b r none)
          | Some d ↦ λ some.
              let found = find_first (λ (d : ℕ × Access). d.0 == b) job.declared d some in
              let within = slice_get_within job.declared found.0 d found.1 in
              uses.done b found.0 r d at (omega (arith, within, all)) found.1 (eqb-true d.0 b found.2)
        ] refl
