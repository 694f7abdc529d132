-- What is known of the parts of a device, read through their box.
use Rattle.std.proofs.Common.{◌≡◌, ◌∙◌, ap, sym, subst}
use Rattle.drm_sched.specs.declared.parts.Parts.{Parts}
use Rattle.drm_sched.specs.Marks.{MarkedDevice}
use Rattle.drm_sched.specs.Parts.{marked_of, IsWholeMarked, HasHeads}

pub view_read : {s v : Parts} {d : MarkedDevice} → s ≡ v → marked_of v ≡ d → marked_of s ≡ d
view_read e is = ap marked_of e ∙ is

pub whole_read : {s v : Parts} → s ≡ v → IsWholeMarked v → IsWholeMarked s
whole_read e whole = subst IsWholeMarked (sym e) whole

pub heads_read : {s v : Parts} → s ≡ v → HasHeads v → HasHeads s
heads_read e heads = subst HasHeads (sym e) heads

-- what is so of the device by its parts is so of the device
pub device_read : {s v : Parts} {d : MarkedDevice} (P : MarkedDevice → Type 0) → s ≡ v → marked_of v ≡ d → P (marked_of s) → P d
device_read P e is so = subst P (view_read e is) so
