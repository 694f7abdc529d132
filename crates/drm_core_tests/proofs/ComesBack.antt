-- A packet that went out without a buffer comes back as it went.
use Rattle.std.proofs.Common.{◌≡◌, ℕ, false, List, Option, Some, None, refl, sym, subst}
use Rattle.std.specs.Prelude.{option_map, is_some}
use Rattle.drm_packet.specs.declared.Packet.{Packet}
use Rattle.drm_packet.specs.Parts.{part_effect}
use Rattle.drm_sched.specs.declared.outside.Begun.{Begun}
use Rattle.drm_sched.specs.declared.outside.Begun.TheVariants.{Work}
use Rattle.drm_sched.specs.Begun.{IsReport, MayComeBack}
use Rattle.drm_sched.specs.Marks.{MarkedDevice}

-- no buffer went out
pub nothing_comes_back : (d : MarkedDevice) (ring : ℕ) (b : Begun) (fence number : ℕ) (copy : Packet) (write read : Option (List ℕ))
    → MayComeBack d ring b → b ≡ Work fence number copy write read → false ≡ is_some write → IsReport d ring write read
nothing_comes_back d ring b fence number copy write read may is none =
    subst (λ w. IsReport d ring w read) (sym (same (λ bytes. part_effect copy bytes read) write none)) (subst (MayComeBack d ring) is may)
  where
    same : (f : List ℕ → List ℕ) (o : Option (List ℕ)) → false ≡ is_some o → o ≡ option_map f o
    same f None is = refl
    same f (Some bytes) is = absurd (cc (is))
