-- What an event names is there, as the event is told of.
use Rattle.std.proofs.Common.{length}
use Rattle.std.specs.Prelude.{IsTrue}
use Rattle.std.proofs.lemmas.Bool.{ltb-true}
use Rattle.drm_types.specs.declared.spec.DeviceSpec.{DeviceSpec}
use Rattle.drm_job.specs.declared.Draft.{Draft}
use Rattle.drm_core.specs.Names.{names_exist}
use Rattle.drm_core.specs.declared.event.Event.{Event}
use Rattle.drm_core.specs.declared.event.Event.TheVariants as event
use Rattle.drm_words.specs.Because.{NamesThere}
use Rattle.drm_words.specs.Subjects.{subject_of}

pub names_there : (spec : DeviceSpec) (happened : Event Draft) → IsTrue (names_exist spec happened) → NamesThere spec (subject_of happened)
names_there spec (event.Submit job) named = tt
names_there spec (event.Begin ctx) named = tt
names_there spec (event.Try ctx buffer) named = tt
names_there spec (event.Done ctx) named = tt
names_there spec (event.Drop ctx buffer) named = tt
names_there spec (event.End ctx) named = tt
names_there spec (event.Plan ctx job) named = tt
names_there spec (event.Arm ctx) named = tt
names_there spec (event.Pick ring now) named = ltb-true ring (length spec.rings) named
names_there spec (event.Step ring) named = tt
names_there spec (event.Finish ring now) named = tt
names_there spec (event.Timeout ring now) named = tt
names_there spec (event.Cancel entity) named = tt
names_there spec (event.Reap entity) named = ltb-true entity (length spec.entities) named
names_there spec (event.Read ctx buffer) named = tt
names_there spec (event.Status fence) named = tt
names_there spec (event.Dump buffer) named = tt
