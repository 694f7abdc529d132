-- A packet in its ranges leaves every size as it was, and whether it is in its ranges is a matter of sizes.
use Rattle.std.proofs.Common.{◌≡◌, ℕ, ◌+◌, ◌≤◌, ◌&&◌, true, nat_lt, nat_le, List, length, replicate, refl, ap, ◌∙◌, arith}
use Rattle.std.proofs.lemmas.Bool.{and_parts, leb-true}
use Rattle.std.proofs.lemmas.List.{length-replicate}
use Rattle.drm_buffer.specs.Memory.{bytes_of, range_of, sums, sizes_of}
use Rattle.drm_buffer.proofs.Sizes.{sizes-written, size_by_sizes}
use Rattle.drm_buffer.proofs.Sums.{length-range, length-range_sums}
use Rattle.drm_packet.specs.declared.Packet.{Packet}
use Rattle.drm_packet.specs.declared.Packet.TheVariants.{Fill, Copy, Add, Stall}
use Rattle.drm_packet.specs.Effect.{effect}
use Rattle.drm_packet.specs.Touches.{is_in_range, is_within}

-- a range within its buffer, as an order
pub within_fits : (memory : List (List ℕ)) (buffer offset len : ℕ) → is_within memory buffer offset len ≡ true → offset + len ≤ length (bytes_of memory buffer)
within_fits memory buffer offset len within =
    leb-true (offset + len) (length (bytes_of memory buffer)) (and_parts (nat_lt 0 len) (nat_le (offset + len) (length (bytes_of memory buffer))) within).1

-- each packet keeps the sizes
pub sizes-effect : (packet : Packet) (memory : List (List ℕ)) → is_in_range packet memory ≡ true → sizes_of (effect packet memory) ≡ sizes_of memory
sizes-effect (Fill buffer offset len byte) memory within =
    let fits = within_fits memory buffer offset len within in
    sizes-written memory buffer offset (replicate len byte) (omega (arith, length-replicate len byte))
sizes-effect (Copy source source_offset target target_offset len) memory within =
    let both = and_parts (is_within memory source source_offset len) (is_within memory target target_offset len) within in
    let from = within_fits memory source source_offset len both.0 in
    let to = within_fits memory target target_offset len both.1 in
    sizes-written memory target target_offset (range_of memory source source_offset len)
    (omega (arith, length-range (bytes_of memory source) source_offset len from))
sizes-effect (Add source source_offset target target_offset len) memory within =
    let both = and_parts (is_within memory source source_offset len) (is_within memory target target_offset len) within in
    let from = within_fits memory source source_offset len both.0 in
    let to = within_fits memory target target_offset len both.1 in
    sizes-written memory target target_offset (sums (range_of memory target target_offset len) (range_of memory source source_offset len))
    (omega (arith, length-range_sums (bytes_of memory target) (bytes_of memory source) target_offset source_offset len to from))
sizes-effect (Stall resets) memory within = refl

-- a range is within its buffer by the size alone
pub within_by_sizes : (memory other : List (List ℕ)) (buffer offset len : ℕ) → sizes_of memory ≡ sizes_of other
    → is_within memory buffer offset len ≡ is_within other buffer offset len
within_by_sizes memory other buffer offset len same =
    ap (λ n. nat_lt 0 len && nat_le (offset + len) n) (size_by_sizes memory other buffer same)

-- two ranges are
pub both_by_sizes : (memory other : List (List ℕ)) (a i b j len : ℕ) → sizes_of memory ≡ sizes_of other
    → (is_within memory a i len && is_within memory b j len) ≡ (is_within other a i len && is_within other b j len)
both_by_sizes memory other a i b j len same =
    ap (λ t. t && is_within memory b j len) (within_by_sizes memory other a i len same)
    ∙ ap (λ t. is_within other a i len && t) (within_by_sizes memory other b j len same)

-- a packet is in its ranges by the sizes alone
pub in_range_by_sizes : (packet : Packet) (memory other : List (List ℕ)) → sizes_of memory ≡ sizes_of other
    → is_in_range packet memory ≡ is_in_range packet other
in_range_by_sizes (Fill buffer offset len byte) memory other same = within_by_sizes memory other buffer offset len same
in_range_by_sizes (Copy source source_offset target target_offset len) memory other same =
    both_by_sizes memory other source source_offset target target_offset len same
in_range_by_sizes (Add source source_offset target target_offset len) memory other same =
    both_by_sizes memory other source source_offset target target_offset len same
in_range_by_sizes (Stall resets) memory other same = refl
