-- A device that is left as it was found.
use Rattle.std.proofs.Common.{refl}
use Rattle.drm_state.specs.Keeps.{Keeps}
use Rattle.drm_sched.specs.Marks.{MarkedDevice}
use Rattle.drm_gpu.specs.Passes.{GrowsTo}
use Rattle.drm_gpu.specs.Laws as laws

pub grows_itself : (d : MarkedDevice) → GrowsTo d d
grows_itself = laws.reflexive

pub grows_trans : (a b c : MarkedDevice) → GrowsTo a b → GrowsTo b c → GrowsTo a c
grows_trans = laws.transitive

-- it keeps what it shows and what fits it
pub keeps_itself : (d : MarkedDevice) → Keeps d.state d.state
keeps_itself d = record { fits = λ b x f. f; words = λ f. refl }
