-- A packet writes its target by the bytes of its own buffers, and nothing else.
use Rattle.std.proofs.Common.{◌≡◌, ℕ, ◌+◌, true, false, cond, ◌==◌, List, Some, None, refl, ap, ◌∙◌, set, slice_range}
use Rattle.std.specs.Prelude.{option_map}
use Rattle.std.proofs.lemmas.Bool.{eqb-true}
use Rattle.drm_buffer.specs.Memory.{bytes_of, overwritten, range_sums}
use Rattle.drm_packet.specs.declared.Packet.{Packet}
use Rattle.drm_packet.specs.declared.Packet.TheVariants.{Fill, Copy, Add, Stall}
use Rattle.drm_packet.specs.Effect.{effect}
use Rattle.drm_packet.specs.Parts.{target_of, read_bytes, part_effect, other_bytes}

-- the bytes that are read are those of the source
pub read_source : (m : List (List ℕ)) (source target : ℕ)
    → bytes_of m source ≡ read_bytes (bytes_of m target) (option_map (bytes_of m) (cond (source == target) None (Some source)))
read_source m source target =
    elim (source == target) as (λ b. (source == target) ≡ b
    → bytes_of m source ≡ read_bytes (bytes_of m target) (option_map (bytes_of m) (cond b None (Some source)))) [
      | true ↦ λ same. ap (bytes_of m) (eqb-true source target same)
      | false ↦ λ other. refl
    ] refl

pub parts_make_the_effect : (p : Packet) (t : ℕ) (m : List (List ℕ)) → target_of p ≡ Some t
    → effect p m ≡ set m t (part_effect p (bytes_of m t) (other_bytes p m))
parts_make_the_effect (Fill buffer offset len byte) t m is = let same : buffer ≡ t = cc (is) in rw same refl
parts_make_the_effect (Copy source from target to len) t m is =
    let same : target ≡ t = cc (is) in
    ap (λ r. set m target (overwritten (bytes_of m target) to (slice_range r from (from + len)))) (read_source m source target)
    ∙ ap (λ k. set m k (part_effect (Copy source from target to len) (bytes_of m k) (other_bytes (Copy source from target to len) m))) same
parts_make_the_effect (Add source from target to len) t m is =
    let same : target ≡ t = cc (is) in
    ap (λ r. set m target (overwritten (bytes_of m target) to (range_sums (bytes_of m target) r to from len))) (read_source m source target)
    ∙ ap (λ k. set m k (part_effect (Add source from target to len) (bytes_of m k) (other_bytes (Add source from target to len) m))) same
parts_make_the_effect (Stall resets) t m is = absurd (cc (is))
