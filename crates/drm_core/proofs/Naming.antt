-- An event names what is there if each part that it names is there.
use Rattle.std.proofs.Common.{◌≡◌, ℕ, Bool, true, false, Option, length, refl, ap, ◌∙◌}
use Rattle.std.specs.Prelude.{◌&&◌, nat_lt}
use Rattle.std.specs.Option.{option_map_or}
use Rattle.drm_types.specs.declared.spec.DeviceSpec.{DeviceSpec}
use Rattle.drm_core.specs.declared.event.Event.{Event}
use Rattle.drm_core.specs.declared.event.Event.TheVariants as event
use Rattle.drm_core.specs.Names.{buffer_of, ctx_of, entity_of, names_exist, ring_of}

and_true : (b : Bool) → (b && true) ≡ b
and_true true = refl
and_true false = refl

and_two : (b : Bool) → (b && true && true) ≡ b
and_two b = and_true (b && true) ∙ and_true b

and_three : (b : Bool) → (b && true && true && true) ≡ b
and_three b = and_true (b && true && true) ∙ and_two b

abbrev pub is_below : Option ℕ → ℕ → Bool
is_below number count = option_map_or (λ n. nat_lt n count) number true

pub names_by_parts : {J : Type 0} → (spec : DeviceSpec) (e : Event J)
    → (is_below (ctx_of e) 64 && is_below (buffer_of e) (length spec.buffers) && is_below (ring_of e) (length spec.rings) && is_below (entity_of e) (length spec.entities)) ≡ names_exist spec e
names_by_parts spec (event.Submit job) = refl
names_by_parts spec (event.Begin ctx) = and_three (nat_lt ctx 64)
names_by_parts spec (event.Try ctx buffer) = and_two (nat_lt ctx 64 && nat_lt buffer (length spec.buffers))
names_by_parts spec (event.Done ctx) = and_three (nat_lt ctx 64)
names_by_parts spec (event.Drop ctx buffer) = and_two (nat_lt ctx 64 && nat_lt buffer (length spec.buffers))
names_by_parts spec (event.End ctx) = and_three (nat_lt ctx 64)
names_by_parts spec (event.Plan ctx job) = and_three (nat_lt ctx 64)
names_by_parts spec (event.Arm ctx) = and_three (nat_lt ctx 64)
names_by_parts spec (event.Pick ring now) = and_true (nat_lt ring (length spec.rings))
names_by_parts spec (event.Step ring) = and_true (nat_lt ring (length spec.rings))
names_by_parts spec (event.Finish ring now) = and_true (nat_lt ring (length spec.rings))
names_by_parts spec (event.Timeout ring now) = and_true (nat_lt ring (length spec.rings))
names_by_parts spec (event.Cancel entity) = refl
names_by_parts spec (event.Reap entity) = refl
names_by_parts spec (event.Read ctx buffer) = and_two (nat_lt ctx 64 && nat_lt buffer (length spec.buffers))
names_by_parts spec (event.Status fence) = refl
names_by_parts spec (event.Dump buffer) = and_two (nat_lt buffer (length spec.buffers))
