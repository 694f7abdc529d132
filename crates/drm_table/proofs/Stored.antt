-- Which buffers of a device are in, and which a packet asks for.
use Rattle.std.proofs.Common.{◌≡◌, ℕ, zero, suc, ◌+◌, ◌<◌, true, false, nat_lt, nat_le, List, [], ◌∷◌, length, map, get_or, Some, None, refl, sym, ap, subst, ◌∙◌, arith, slice_get}
use Rattle.std.specs.Prelude.{Contains}
use Rattle.std.specs.Option.{option_map_or}
use Rattle.std.proofs.lemmas.Bool.{and_parts, ltb-true, leb-true}
use Rattle.std.proofs.lemmas.List.{length-map}
use Rattle.drm_buffer.specs.Memory.{bytes_of}
use Rattle.drm_buffer.specs.Stored.{Stored, all_in, AreIn}
use Rattle.drm_packet.specs.declared.Packet.{Packet}
use Rattle.drm_packet.specs.declared.Packet.TheVariants.{Fill, Copy, Add, Stall}
use Rattle.drm_packet.specs.Touches.{touches, is_within, is_in_range}
use Rattle.drm_state.specs.declared.journal.JobRecord.{JobRecord}
use Rattle.drm_table.specs.declared.table.Table.{Table}
use Rattle.drm_state.specs.Ring.{current_of}
use Rattle.drm_state.specs.Outcomes.{next_packet}
use Rattle.drm_table.specs.Tables.{state_of, IsWhole}
use Rattle.drm_table.proofs.TableFacts.{running_at, next_in_range}

-- a buffer that has bytes is there
has_bytes : (m : List (List ℕ)) (b : ℕ) → 0 < length (get_or m b []) → b < length m
has_bytes [] zero lt = absurd (omega (arith, lt))
has_bytes [] (suc b) lt = absurd (omega (arith, lt))
has_bytes (x ∷ m) zero lt = omega arith
has_bytes (x ∷ m) (suc b) lt = let r = has_bytes m b lt in omega (arith, r)

range_there : (m : List (List ℕ)) (b offset len : ℕ) → is_within m b offset len ≡ true → b < length m
range_there m b offset len is =
    let both = and_parts (nat_lt 0 len) (nat_le (offset + len) (length (bytes_of m b))) is in
    let some : 0 < len = ltb-true 0 len both.0 in
    let fits = leb-true (offset + len) (length (bytes_of m b)) both.1 in
    has_bytes m b (omega (arith, some, fits))

-- what a packet in range touches is there
pub touched_there : (p : Packet) (m : List (List ℕ)) → is_in_range p m ≡ true → (b : ℕ) → Contains (touches p) b → b < length m
touched_there (Fill buffer offset len byte) m is b (zero, lt, at) = subst (λ n. n < length m) at (range_there m buffer offset len is)
touched_there (Fill buffer offset len byte) m is b (suc k, lt, at) = absurd (omega (arith, lt))
touched_there (Copy source from target to len) m is b (zero, lt, at) =
    subst (λ n. n < length m) at (range_there m source from len (and_parts (is_within m source from len) (is_within m target to len) is).0)
touched_there (Copy source from target to len) m is b (suc zero, lt, at) =
    subst (λ n. n < length m) at (range_there m target to len (and_parts (is_within m source from len) (is_within m target to len) is).1)
touched_there (Copy source from target to len) m is b (suc (suc k), lt, at) = absurd (omega (arith, lt))
touched_there (Add source from target to len) m is b (zero, lt, at) =
    subst (λ n. n < length m) at (range_there m source from len (and_parts (is_within m source from len) (is_within m target to len) is).0)
touched_there (Add source from target to len) m is b (suc zero, lt, at) =
    subst (λ n. n < length m) at (range_there m target to len (and_parts (is_within m source from len) (is_within m target to len) is).1)
touched_there (Add source from target to len) m is b (suc (suc zero), lt, at) =
    subst (λ n. n < length m) at (range_there m target to len (and_parts (is_within m source from len) (is_within m target to len) is).1)
touched_there (Add source from target to len) m is b (suc (suc (suc k)), lt, at) = absurd (omega (arith, lt))
touched_there (Stall resets) m is b (k, lt, at) = absurd (omega (arith, lt))

-- the same number of buffers
pub same_count : (t : Table) → IsWhole t → length t.memory.bytes ≡ length t.spec.buffers
same_count t w = sym (length-map t.memory.bytes length) ∙ (ap length w.sizes ∙ length-map t.spec.buffers length)

-- what the ring's next packet touches is there
pub next_there : (t : Table) (ring f : ℕ) (p : Packet) → IsWhole t → ring < length t.spec.rings → (current_of (state_of t) ring ≡ Some f) × (next_packet t.journal.items f ≡ Some p) → (b : ℕ) → Contains (touches p) b → b < length t.spec.buffers
next_there t ring f p w there (is, next) b touched =
    let run = running_at t ring f w there is in
    let at : slice_get run.0.job.packets run.0.ran ≡ Some p =
    sym (ap (λ o. option_map_or (λ (z : JobRecord). slice_get z.job.packets z.ran) o None) run.1.current.at) ∙ next in
    subst (λ n. b < n) (same_count t w) (touched_there p t.memory.bytes (next_in_range t ring f run.0 p w run.1 at) b touched)

none_out : (buffers : List (List ℕ)) (b : ℕ) → b < length buffers → slice_get (map (λ bytes. false) buffers) b ≡ Some false
none_out [] b lt = absurd (omega (arith, lt))
none_out (x ∷ xs) zero lt = refl
none_out (x ∷ xs) (suc b) lt = none_out xs b (omega (arith, lt))

pub opened_in : (s : Stored) (buffers : List (List ℕ)) → s ≡ all_in buffers → AreIn (length buffers) s.out
opened_in s buffers is b lt = ap (λ (z : Stored). slice_get z.out b) is ∙ none_out buffers b lt
