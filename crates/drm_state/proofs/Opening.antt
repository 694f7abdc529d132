-- The opening state is steady.
use Rattle.std.proofs.Common.{◌≡◌, ℕ, zero, suc, false, List, [], ◌∷◌, map, refl, arith, slice_get}
use Rattle.std.specs.Option.{option_map_or}
use Rattle.std.proofs.lemmas.List.{length-map}
use Rattle.drm_types.specs.declared.spec.RingSpec.{RingSpec}
use Rattle.drm_types.specs.declared.spec.DeviceSpec.{DeviceSpec}
use Rattle.drm_state.specs.State.{RingState, opened_device}
use Rattle.drm_state.specs.Steady.{IsSteady}
use Rattle.drm_state.proofs.RingChange.{ring_lawful_by}

pub nothing_pending : (rings : List RingSpec) (k : ℕ)
    → option_map_or (λ (r : RingState). r.pending) (slice_get (map (λ (ring : RingSpec). record { pending = []; since = 0 }) rings) k) [] ≡ []
nothing_pending [] k = refl
nothing_pending (r ∷ rs) zero = refl
nothing_pending (r ∷ rs) (suc k) = nothing_pending rs k

pub opened_steady : (spec : DeviceSpec) → IsSteady (opened_device spec)
opened_steady spec = record {
  lawful = record {
    ring_count = length-map spec.rings (λ ring. record { pending = []; since = 0 });
    entity_count = length-map spec.entities (λ entity. record { is_stopped = false; is_guilty = false });
    memory = refl;
    records = λ i r is. absurd (cc (is));
    rings = λ k here. ring_lawful_by (opened_device spec) k [] (nothing_pending spec.rings k)
        (λ f. (λ c. absurd (omega (arith, c.1)), λ x. absurd (cc (x.1))))
        (λ i j f at_i at_j. absurd (cc (at_i)))
        (omega arith);
    follows = λ i j x y lt at_i at_j. absurd (cc (at_i));
    entities = λ i j x y lt at_i at_j. absurd (cc (at_i));
  };
  met = λ i j x y lt at_i at_j. absurd (cc (at_i));
  home = λ i j x y lt at_i at_j. absurd (cc (at_i));
  listed = λ i r is. absurd (cc (is));
  order = λ k here i j x y lt at_i at_j. absurd (cc (at_i));
}
