-- A packet that runs in a store: its buffers go out, it runs on them, and they come back.
use Rattle.std.proofs.Common.{◌≡◌, ◌≢◌, ℕ, zero, suc, Bool, true, false, cond, ◌&&◌, ◌==◌, List, [], ◌∷◌, set, Some, None, refl, sym, ap, ◌∙◌, slice_get, Option, arith}
use Rattle.std.specs.Prelude.{option_map, Contains}
use Rattle.std.proofs.lemmas.Bool.{eqb-false}
use Rattle.std.proofs.lemmas.List.{set-set, get_or-set_other}
use Rattle.drm_lists.proofs.Changed.{get_set_other, set_same}
use Rattle.drm_buffer.specs.Memory.{bytes_of}
use Rattle.drm_buffer.specs.Stored.{Stored, set_out}
use Rattle.drm_packet.specs.declared.Packet.{Packet}
use Rattle.drm_packet.specs.declared.Packet.TheVariants.{Fill, Copy, Add, Stall}
use Rattle.drm_packet.specs.Effect.{effect}
use Rattle.drm_packet.specs.Touches.{is_in_range, touches}
use Rattle.drm_packet.specs.Parts.{target_of, source_of, part_effect, lies_in, fits_parts, other_bytes, put_bytes}
use Rattle.drm_packet.proofs.PartEffects.{read_source, parts_make_the_effect}

-- a packet in range of a memory fits the bytes of its buffers
pub parts_fit : (p : Packet) (t : ℕ) (m : List (List ℕ)) → target_of p ≡ Some t → is_in_range p m ≡ true
    → fits_parts p (bytes_of m t) (other_bytes p m) ≡ true
parts_fit (Fill buffer offset len byte) t m is fit =
    let same : buffer ≡ t = cc (is) in ap (λ k. lies_in (bytes_of m k) offset len) (sym same) ∙ fit
parts_fit (Copy source from target to len) t m is fit =
    let same : target ≡ t = cc (is) in
    ap (λ k. fits_parts (Copy source from target to len) (bytes_of m k) (other_bytes (Copy source from target to len) m)) (sym same)
    ∙ (ap (λ r. lies_in r from len && lies_in (bytes_of m target) to len) (sym (read_source m source target)) ∙ fit)
parts_fit (Add source from target to len) t m is fit =
    let same : target ≡ t = cc (is) in
    ap (λ k. fits_parts (Add source from target to len) (bytes_of m k) (other_bytes (Add source from target to len) m)) (sym same)
    ∙ (ap (λ r. lies_in r from len && lies_in (bytes_of m target) to len) (sym (read_source m source target)) ∙ fit)
parts_fit (Stall resets) t m is fit = refl

-- the other buffer is another
pub apart_buffers : (p : Packet) (t s : ℕ) → target_of p ≡ Some t → source_of p ≡ Some s → s ≢ t
apart_buffers (Fill buffer offset len byte) t s is_t is_s = absurd (cc (is_s))
apart_buffers (Copy source from target to len) t s is_t is_s =
    elim (source == target) as (λ b. (source == target) ≡ b → cond b None (Some source) ≡ Some s → s ≢ t) [
      | true ↦ λ e is. absurd (let never : None ≡ Some s = is in cc (never))
      | false ↦ λ e is.
          let a : source ≡ s = cc (is) in
          let c : target ≡ t = cc (is_t) in
          λ same. eqb-false source target e (a ∙ (same ∙ sym c))
    ] refl is_s
apart_buffers (Add source from target to len) t s is_t is_s =
    elim (source == target) as (λ b. (source == target) ≡ b → cond b None (Some source) ≡ Some s → s ≢ t) [
      | true ↦ λ e is. absurd (let never : None ≡ Some s = is in cc (never))
      | false ↦ λ e is.
          let a : source ≡ s = cc (is) in
          let c : target ≡ t = cc (is_t) in
          λ same. eqb-false source target e (a ∙ (same ∙ sym c))
    ] refl is_s
apart_buffers (Stall resets) t s is_t is_s = absurd (cc (is_s))

set_own : (m : List (List ℕ)) (b : ℕ) → set m b (bytes_of m b) ≡ m
set_own [] b = refl
set_own (x ∷ xs) zero = refl
set_own (x ∷ xs) (suc b) = ap (λ ys. x ∷ ys) (set_own xs b)

-- a packet that reads its own buffer alone
pub ran_alone : (p : Packet) (s one new : Stored) (t : ℕ) (write after : List ℕ) → target_of p ≡ Some t → source_of p ≡ None → slice_get s.out t ≡ Some false
    → write ≡ bytes_of s.bytes t → one ≡ record s { out = set s.out t true } → after ≡ part_effect p write None
    → new ≡ record { bytes = set one.bytes t after; out = set one.out t false } → new ≡ record s { bytes = effect p s.bytes }
ran_alone p s one new t write after is_t is_s within was left ran back =
    back
    ∙ (ap (λ (z : Stored). let y : Stored = record { bytes = set z.bytes t after; out = set z.out t false } in y) left
    ∙ (ap (λ os. let y : Stored = record { bytes = set s.bytes t after; out = os } in y) (set-set s.out t true false ∙ set_same s.out t false within)
    ∙ ap (λ bs. let y : Stored = record s { bytes = bs } in y)
    (ap (set s.bytes t) (ran ∙ (ap (λ w. part_effect p w None) was ∙ ap (λ o. part_effect p (bytes_of s.bytes t) (option_map (bytes_of s.bytes) o)) (sym is_s)))
    ∙ sym (parts_make_the_effect p t s.bytes is_t))))

-- a packet that reads another buffer
pub ran_beside : (p : Packet) (s one two three new : Stored) (t b : ℕ) (write read after : List ℕ) → target_of p ≡ Some t → source_of p ≡ Some b
    → slice_get s.out t ≡ Some false → slice_get s.out b ≡ Some false
    → write ≡ bytes_of s.bytes t → one ≡ record s { out = set s.out t true } → read ≡ bytes_of one.bytes b → two ≡ record one { out = set one.out b true }
    → after ≡ part_effect p write (Some read) → three ≡ record { bytes = set two.bytes b read; out = set two.out b false }
    → new ≡ record { bytes = set three.bytes t after; out = set three.out t false } → new ≡ record s { bytes = effect p s.bytes }
ran_beside p s one two three new t b write read after is_t is_b in_t in_b was left read_was left_two ran back_two back =
    let other = apart_buffers p t b is_t is_b in
    let read_is : read ≡ bytes_of s.bytes b = read_was ∙ ap (λ (z : Stored). bytes_of z.bytes b) left in
    let still : slice_get (set s.out t true) b ≡ Some false = get_set_other s.out t b true other ∙ in_b in
    let both : two ≡ record s { out = set (set s.out t true) b true } = left_two ∙ ap (λ (z : Stored). let y : Stored = record z { out = set z.out b true } in y) left in
    let again : three ≡ record s { out = set s.out t true } =
    back_two
    ∙ (ap (λ (z : Stored). let y : Stored = record { bytes = set z.bytes b read; out = set z.out b false } in y) both
    ∙ (ap (λ os. let y : Stored = record { bytes = set s.bytes b read; out = os } in y)
    (set-set (set s.out t true) b true false ∙ set_same (set s.out t true) b false still)
    ∙ ap (λ bs. let y : Stored = record { bytes = bs; out = set s.out t true } in y) (ap (set s.bytes b) read_is ∙ set_own s.bytes b))) in
    back
    ∙ (ap (λ (z : Stored). let y : Stored = record { bytes = set z.bytes t after; out = set z.out t false } in y) again
    ∙ (ap (λ os. let y : Stored = record { bytes = set s.bytes t after; out = os } in y) (set-set s.out t true false ∙ set_same s.out t false in_t)
    ∙ ap (λ bs. let y : Stored = record s { bytes = bs } in y)
    (ap (set s.bytes t) (ran ∙ (ap (λ w. part_effect p w (Some read)) was
    ∙ (ap (λ r. part_effect p (bytes_of s.bytes t) (Some r)) read_is ∙ ap (λ o. part_effect p (bytes_of s.bytes t) (option_map (bytes_of s.bytes) o)) (sym is_b))))
    ∙ sym (parts_make_the_effect p t s.bytes is_t))))

-- ---- buffers that go out and come back by themselves

-- a packet touches its target and its source
pub target_touched : (p : Packet) (t : ℕ) → target_of p ≡ Some t → Contains (touches p) t
target_touched (Fill buffer offset len byte) t is = (0, omega arith, let same : buffer ≡ t = cc (is) in same)
target_touched (Copy source from target to len) t is = (1, omega arith, let same : target ≡ t = cc (is) in same)
target_touched (Add source from target to len) t is = (1, omega arith, let same : target ≡ t = cc (is) in same)
target_touched (Stall resets) t is = absurd (cc (is))

source_there : (b : Bool) (s t : ℕ) → cond b None (Some s) ≡ Some t → s ≡ t
source_there true s t is = absurd (cc (is))
source_there false s t is = cc (is)

pub source_touched : (p : Packet) (t : ℕ) → source_of p ≡ Some t → Contains (touches p) t
source_touched (Fill buffer offset len byte) t is = absurd (cc (is))
source_touched (Copy source from target to len) t is = (0, omega arith, source_there (source == target) source t is)
source_touched (Add source from target to len) t is = (0, omega arith, source_there (source == target) source t is)
source_touched (Stall resets) t is = absurd (cc (is))

-- what is marked of other buffers
pub set_out_other : (out : List Bool) (o : Option ℕ) (b : ℕ) (x : Bool) → ((t : ℕ) → o ≡ Some t → b ≢ t) → slice_get (set_out out o x) b ≡ slice_get out b
set_out_other out None b x apart = refl
set_out_other out (Some t) b x apart = get_set_other out t b x (apart t refl)

-- the other buffer comes back as it is shown
read_back : (p : Packet) (t : ℕ) (m : List (List ℕ)) (w : List ℕ) (o : Option ℕ) → target_of p ≡ Some t → source_of p ≡ o
    → put_bytes (set m t w) o (option_map (bytes_of m) o) ≡ set m t w
read_back p t m w None is_t is_s = refl
read_back p t m w (Some s) is_t is_s =
    ap (set (set m t w) s) (sym (get_or-set_other m t s w [] (apart_buffers p t s is_t is_s))) ∙ set_own (set m t w) s

-- a packet's buffers that come back make its effect
made_at : (p : Packet) (m : List (List ℕ)) (write read : Option (List ℕ)) (o : Option ℕ) → target_of p ≡ o → read ≡ other_bytes p m
    → write ≡ option_map (λ t. part_effect p (bytes_of m t) read) o → (o ≡ None → (effect p m ≡ m) × (source_of p ≡ None))
    → put_bytes (put_bytes m o write) (source_of p) read ≡ effect p m
made_at p m write read None is_t read_is write_is stall =
    ap (λ s. put_bytes m s read) (stall refl).1 ∙ sym (stall refl).0
made_at p m write read (Some t) is_t read_is write_is stall =
    ap (λ w. put_bytes (put_bytes m (Some t) w) (source_of p) read) write_is
    ∙ (ap (λ r. put_bytes (set m t (part_effect p (bytes_of m t) r)) (source_of p) r) read_is
    ∙ (read_back p t m (part_effect p (bytes_of m t) (other_bytes p m)) (source_of p) is_t refl ∙ sym (parts_make_the_effect p t m is_t)))

stalls : (p : Packet) (m : List (List ℕ)) → target_of p ≡ None → (effect p m ≡ m) × (source_of p ≡ None)
stalls (Fill buffer offset len byte) m is = absurd (cc (is))
stalls (Copy source from target to len) m is = absurd (cc (is))
stalls (Add source from target to len) m is = absurd (cc (is))
stalls (Stall resets) m is = (refl, refl)

pub come_back : (p : Packet) (s one new : Stored) (write read : Option (List ℕ)) → read ≡ other_bytes p s.bytes
    → write ≡ option_map (λ t. part_effect p (bytes_of s.bytes t) read) (target_of p)
    → one ≡ record { bytes = put_bytes s.bytes (target_of p) write; out = set_out s.out (target_of p) false }
    → new ≡ record { bytes = put_bytes one.bytes (source_of p) read; out = set_out one.out (source_of p) false }
    → new ≡ record { bytes = effect p s.bytes; out = set_out (set_out s.out (target_of p) false) (source_of p) false }
come_back p s one new write read read_is write_is first second =
    second
    ∙ (ap (λ (z : Stored). let y : Stored = record { bytes = put_bytes z.bytes (source_of p) read; out = set_out z.out (source_of p) false } in y) first
    ∙ ap (λ bs. let y : Stored = record { bytes = bs; out = set_out (set_out s.out (target_of p) false) (source_of p) false } in y)
    (made_at p s.bytes write read (target_of p) refl read_is write_is (stalls p s.bytes)))
