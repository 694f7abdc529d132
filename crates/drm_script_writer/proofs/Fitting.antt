-- What an event names is there, so its words are in the ranges of texts.
use Rattle.std.proofs.Common.{◌≡◌, ℕ, ◌≤◌, true, List, [], ◌∷◌, length, None, arith}
use Rattle.std.specs.Prelude.{nat_lt}
use Rattle.std.specs.List.{AllByRecursion}
use Rattle.std.proofs.lemmas.Bool.{and_parts, ltb-true}
use Rattle.drm_types.specs.Limits.{spec_fault}
use Rattle.drm_types.specs.declared.spec.DeviceSpec.{DeviceSpec}
use Rattle.drm_job.specs.declared.Draft.{Draft}
use Rattle.drm_core.specs.declared.event.Event.{Event}
use Rattle.drm_core.specs.declared.event.Event.TheVariants as event
use Rattle.drm_core.specs.Names.{names_exist}
use Rattle.drm_core.specs.Run.{AllNamesExist}
use Rattle.drm_core.proofs.Telling.{few_buffers, few_entities, few_rings}
use Rattle.drm_text.specs.Grammar.{IsName}
use Rattle.drm_script.specs.Grammar.{CommandFits}
use Rattle.drm_script_writer.specs.Texts.{NumbersFit}

is_name : (count n : ℕ) → count ≤ 64 → nat_lt n count ≡ true → IsName count n
is_name count n few is = let less = ltb-true n count is in (omega (arith, few, less), less)

sixty_four : 64 ≤ 64
sixty_four = omega arith

module _ (spec : DeviceSpec) (limits : spec_fault spec ≡ None) where
  context : (ctx : ℕ) → nat_lt ctx 64 ≡ true → IsName 64 ctx
  context ctx is = is_name 64 ctx sixty_four is

  buffer_there : (buffer : ℕ) → nat_lt buffer (length spec.buffers) ≡ true → IsName (length spec.buffers) buffer
  buffer_there buffer is = is_name (length spec.buffers) buffer (few_buffers spec limits) is

  ring_there : (ring : ℕ) → nat_lt ring (length spec.rings) ≡ true → IsName (length spec.rings) ring
  ring_there ring is = let few = few_rings spec limits in is_name (length spec.rings) ring (omega (arith, few)) is

  entity_there : (entity : ℕ) → nat_lt entity (length spec.entities) ≡ true → IsName (length spec.entities) entity
  entity_there entity is = is_name (length spec.entities) entity (few_entities spec limits) is

  both_there : (ctx buffer : ℕ) → names_exist {J = Draft} spec (event.Try ctx buffer) ≡ true → IsName 64 ctx × IsName (length spec.buffers) buffer
  both_there ctx buffer is =
      let parts = and_parts (nat_lt ctx 64) (nat_lt buffer (length spec.buffers)) is in
      (context ctx parts.0, buffer_there buffer parts.1)

  command_fits : (e : Event Draft) → names_exist spec e ≡ true → NumbersFit e → CommandFits spec e
  command_fits (event.Submit job) names fits = fits.1
  command_fits (event.Begin ctx) names fits = context ctx names
  command_fits (event.Try ctx buffer) names fits = both_there ctx buffer names
  command_fits (event.Done ctx) names fits = context ctx names
  command_fits (event.Drop ctx buffer) names fits = both_there ctx buffer names
  command_fits (event.End ctx) names fits = context ctx names
  command_fits (event.Plan ctx job) names fits = (context ctx names, fits.1)
  command_fits (event.Arm ctx) names fits = context ctx names
  command_fits (event.Pick ring now) names fits = (ring_there ring names, fits.0)
  command_fits (event.Step ring) names fits = ring_there ring names
  command_fits (event.Finish ring now) names fits = (ring_there ring names, fits.0)
  command_fits (event.Timeout ring now) names fits = (ring_there ring names, fits.0)
  command_fits (event.Cancel entity) names fits = entity_there entity names
  command_fits (event.Reap entity) names fits = entity_there entity names
  command_fits (event.Read ctx buffer) names fits = both_there ctx buffer names
  command_fits (event.Status fence) names fits = fits.0
  command_fits (event.Dump buffer) names fits = buffer_there buffer names

pub all_fit : (spec : DeviceSpec) (events : List (Event Draft)) → spec_fault spec ≡ None → AllNamesExist spec events → AllByRecursion NumbersFit events
    → AllByRecursion (CommandFits spec) events
all_fit spec [] limits names fits = tt
all_fit spec (e ∷ events) limits names fits = (command_fits spec limits e names.0 fits.0, all_fit spec events limits names.1 fits.1)
