-- The fault of a packet is that of how the buffers that it uses are declared, and of its ranges.
use Rattle.std.proofs.Common.{◌≡◌, ℕ, ◌==◌, Bool, List, [], ◌∷◌, Some, None, Option, refl, sym, ap, ◌∙◌}
use Rattle.std.specs.Prelude.{find, option_map}
use Rattle.drm_types.specs.declared.access.Access.{Access}
use Rattle.drm_types.specs.declared.access.Access.TheVariants as access
use Rattle.drm_types.specs.declared.spec.DeviceSpec.{DeviceSpec}
use Rattle.drm_packet.specs.declared.Packet.{Packet}
use Rattle.drm_packet.specs.declared.Packet.TheVariants.{Fill, Copy, Add}
use Rattle.drm_packet.specs.Touches.{is_in_range}
use Rattle.drm_job.specs.declared.Draft.{Draft}
use Rattle.drm_job.specs.Uses.{access_of}
use Rattle.drm_job.specs.Fault.{packet_fault}
use Rattle.drm_job.specs.PacketUses.{fault_of_uses}

-- how a job declares a buffer, by what it declares
pub looked_up : (job : Draft) (declared : List (ℕ × Access)) (b : ℕ) (o : Option Access) → job.declared ≡ declared
    → o ≡ option_map (λ d. d.1) (find (λ d. d.0 == b) declared) → o ≡ access_of job b
looked_up job declared b o same is = is ∙ ap (λ ds. option_map (λ d. d.1) (find (λ d. d.0 == b) ds)) (sym same)

-- whether the packet is in range of the device, by the buffers that it has
pub ranges_of : (spec : DeviceSpec) (buffers : List (List ℕ)) (p : Packet) (r : Bool) → spec.buffers ≡ buffers → r ≡ is_in_range p buffers
    → r ≡ is_in_range p spec.buffers
ranges_of spec buffers p r same in_range = in_range ∙ ap (is_in_range p) (sym same)

-- a packet that reads its target too asks no more of it
pub target_twice : (n : ℕ) (source target : Option Access) (r : Bool)
    → fault_of_uses n (source ∷ target ∷ target ∷ []) (target ∷ []) r ≡ fault_of_uses n (source ∷ target ∷ []) (target ∷ []) r
target_twice n None target r = refl
target_twice n (Some source) None r = refl
target_twice n (Some source) (Some access.Read) r = refl
target_twice n (Some source) (Some access.Write) r = refl
target_twice n (Some source) (Some access.Hold) r = refl
target_twice n (Some source) (Some access.Move) r = refl

-- a fill, by how its buffer is declared
pub fill_fault : (spec : DeviceSpec) (job : Draft) (n : ℕ) (p : Packet) (b offset len byte : ℕ) (o : Option Access) (r : Bool) → o ≡ access_of job b
    → r ≡ is_in_range p spec.buffers → p ≡ Fill b offset len byte
    → fault_of_uses n (o ∷ []) (o ∷ []) r ≡ packet_fault spec job n p
fill_fault spec job n p b offset len byte o r declared in_range is =
    ap (λ a. fault_of_uses n (a ∷ []) (a ∷ []) r) declared
    ∙ (ap (fault_of_uses n (access_of job b ∷ []) (access_of job b ∷ [])) (in_range ∙ ap (λ q. is_in_range q spec.buffers) is) ∙ ap (packet_fault spec job n) (sym is))

-- what a packet reads and what it writes, by how they are declared
pub two_uses : (job : Draft) (n source target : ℕ) (s t : Option Access) (r q : Bool) → s ≡ access_of job source → t ≡ access_of job target → r ≡ q
    → fault_of_uses n (s ∷ t ∷ []) (t ∷ []) r ≡ fault_of_uses n (access_of job source ∷ access_of job target ∷ []) (access_of job target ∷ []) q
two_uses job n source target s t r q is_s is_t is_r =
    ap (λ a. fault_of_uses n (a ∷ t ∷ []) (t ∷ []) r) is_s
    ∙ (ap (λ a. fault_of_uses n (access_of job source ∷ a ∷ []) (a ∷ []) r) is_t
    ∙ ap (fault_of_uses n (access_of job source ∷ access_of job target ∷ []) (access_of job target ∷ [])) is_r)

-- so a copy
pub copy_fault : (spec : DeviceSpec) (job : Draft) (n : ℕ) (p : Packet) (source x target y len : ℕ) (s t : Option Access) (r : Bool) → s ≡ access_of job source
    → t ≡ access_of job target → r ≡ is_in_range p spec.buffers → p ≡ Copy source x target y len
    → fault_of_uses n (s ∷ t ∷ []) (t ∷ []) r ≡ packet_fault spec job n p
copy_fault spec job n p source x target y len s t r is_s is_t in_range is =
    two_uses job n source target s t r _ is_s is_t (in_range ∙ ap (λ q. is_in_range q spec.buffers) is) ∙ ap (packet_fault spec job n) (sym is)

-- and an addition
pub add_fault : (spec : DeviceSpec) (job : Draft) (n : ℕ) (p : Packet) (source x target y len : ℕ) (s t : Option Access) (r : Bool) → s ≡ access_of job source
    → t ≡ access_of job target → r ≡ is_in_range p spec.buffers → p ≡ Add source x target y len
    → fault_of_uses n (s ∷ t ∷ []) (t ∷ []) r ≡ packet_fault spec job n p
add_fault spec job n p source x target y len s t r is_s is_t in_range is =
    two_uses job n source target s t r _ is_s is_t (in_range ∙ ap (λ q. is_in_range q spec.buffers) is)
    ∙ (sym (target_twice n (access_of job source) (access_of job target) (is_in_range (Add source x target y len) spec.buffers))
    ∙ ap (packet_fault spec job n) (sym is))
